-- The table worked through in `table.specs.Worked`, by the C calls: their numbers and every byte that they leave.
use Rattle.std.specs.Prelude.{List, [], ◌∷◌, ◌++◌, ℕ, set, replicate}
use Rattle.table.specs.Worked.{worked, Line, on, Shown, shown}
use Rattle.firmware.specs.Calls.{check_number, step_number, step_bytes, finished_number, offer_number, offer_bytes}

-- A call on a table: adl_check; adl_step with a record's bytes and an event number; adl_finished with a record's bytes; adl_offer with these and the
-- lent bytes.
pub data Call : Type 0 where
  check : Call
  step : List ℕ → ℕ → Call
  finished : List ℕ → Call
  offer : List ℕ → List ℕ → Call

-- The 64 bytes of a record, by the first of them: the others are 0.
abbrev bytes : ℕ → List ℕ
bytes first = first ∷ replicate 63 0

abbrev pub lines : List (Line Call)
lines =
    -- Sound: 0. Unsound, here with E 5: 12.
    on worked check 0 [] ∷ on (set worked 1 5) check 12 []
    -- Done: 0, and the reset clears bits 1 and 2. 15, 14 and 13 leave the bytes.
    ∷ on worked (step (bytes 0) 0) 0 (bytes 128) ∷ on worked (step (bytes 224) 3) 0 (bytes 144) ∷ on worked (step (bytes 0) 1) 15 (bytes 0)
    ∷ on worked (step (bytes 0) 4) 14 (bytes 0) ∷ on worked (step (bytes 8) 0) 13 (bytes 8)
    -- 255 for finished, 0 for not finished.
    ∷ on worked (finished (bytes 128)) 255 [] ∷ on worked (finished (bytes 192)) 0 [] ∷ on worked (finished (bytes 8)) 13 []
    -- An offer over 65 bytes leaves the last.
    ∷ on worked (offer (bytes 224) (replicate 65 7)) 0 (bytes 48 ++ (7 ∷ [])) ∷ on worked (offer (bytes 224) (replicate 63 7)) 1 (replicate 63 7)
    ∷ on worked (offer (bytes 8) (replicate 64 7)) 13 (replicate 64 7)
    -- A record of 63 bytes, and one of 65: 1, before 12.
    ∷ on worked (step (replicate 63 0) 0) 1 (replicate 63 0) ∷ on (set worked 1 5) (step (replicate 65 0) 0) 1 (replicate 65 0)
    ∷ on worked (finished (replicate 63 0)) 1 [] ∷ on (set worked 1 5) (finished (replicate 65 0)) 1 []
    ∷ on worked (offer (replicate 63 0) (replicate 64 7)) 1 (replicate 64 7) ∷ on (set worked 1 5) (offer (replicate 65 0) (replicate 64 7)) 1 (replicate 64 7)
    ∷ on (set worked 1 5) (step (bytes 8) 4) 12 (bytes 8) ∷ []

-- What a call answers, and what it leaves.
abbrev pub does : List ℕ → Call → Shown ℕ
does t check = shown (check_number t) []
does t (step held e) = shown (step_number t held e) (step_bytes t held e)
does t (finished held) = shown (finished_number t held) []
does t (offer held lent) = shown (offer_number t held lent) (offer_bytes t held lent)
