-- One table in bytes, worked through by hand from document 01, "The run record and the table": the fields of an event record, the kinds of rows and what
-- each call answers. Its runs: event 0, then rounds of event 1, of event 2 once or more, and of event 3, the reset, which clears bits 1 and 2.
use Rattle.std.specs.Prelude.{◌≡◌, List, [], ◌∷◌, ◌++◌, map, ℕ, ◌*◌, ◌^◌, take, set, replicate, ⊤, Result}
use Rattle.base.specs.Reports.{Report}
use Rattle.base.specs.declared.Refusal.{Refusal}
use Rattle.record.specs.declared.Record.{Record}
use Rattle.table.specs.Steps.{check_of, step_of, finished_of, offer_of, offer_left}
use Rattle.table.specs.Reports.{report, finish_report}
use Rattle.table.specs.declared.Stepped.{Stepped}

abbrev pub worked : List ℕ
worked =
    -- E, the number of events: 4. R, the number of rows: 8.
    0 ∷ 4 ∷ 0 ∷ 8
    -- Event 0: guard row 3, first cleared bit 0, cleared count 0. That is 3 · 2^18.
    ∷ 0 ∷ 12 ∷ 0 ∷ 0
    -- Event 1: guard row 5, first 0, count 0.
    ∷ 0 ∷ 20 ∷ 0 ∷ 0
    -- Event 2: guard row 1, first 0, count 0.
    ∷ 0 ∷ 4 ∷ 0 ∷ 0
    -- Event 3: guard row 6, first 1, count 2. That is 6 · 2^18 + 1 · 2^9 + 2.
    ∷ 0 ∷ 24 ∷ 2 ∷ 2
    -- Row 0: kind 0, left 0, right 0: control bit 0.
    ∷ 0 ∷ 0 ∷ 0 ∷ 0
    -- Row 1: kind 0, left 1, right 0: control bit 1. That is 1 · 2^15.
    ∷ 0 ∷ 0 ∷ 128 ∷ 0
    -- Row 2: kind 0, left 2, right 0: control bit 2.
    ∷ 0 ∷ 1 ∷ 0 ∷ 0
    -- Row 3: kind 1, left 0, right 0: not row 0. That is 1 · 2^30.
    ∷ 64 ∷ 0 ∷ 0 ∷ 0
    -- Row 4: kind 1, left 1, right 0: not row 1.
    ∷ 64 ∷ 0 ∷ 128 ∷ 0
    -- Row 5: kind 2, left 0, right 4: both row 0 and row 4. So event 1 waits for event 0, and for the reset.
    ∷ 128 ∷ 0 ∷ 0 ∷ 4
    -- Row 6: kind 2, left 1, right 2: both row 1 and row 2. So the reset waits for events 1 and 2.
    ∷ 128 ∷ 0 ∷ 128 ∷ 2
    -- Row 7: kind 3, left 5, right 6: either row 5 or row 6. It is row R−1: finished where a round may begin or end.
    ∷ 192 ∷ 2 ∷ 128 ∷ 6 ∷ []

-- The record whose first byte is this one, and that whose last bit alone is set: bit 511.
abbrev pub holding : ℕ → Record
holding byte = record { bits = byte * 2 ^ 56 ∷ replicate 7 0 }

abbrev pub last_bit : Record
last_bit = record { bits = replicate 7 0 ++ (1 ∷ []) }

-- A call on a table: check; step with a record and an event number; finished with a record; offer with a record and the lent bytes.
pub data Call : Type 0 where
  check : Call
  step : Record → ℕ → Call
  finished : Record → Call
  offer : Record → List ℕ → Call

-- A line: the call on this table answers this number, and leaves this: step the record's words, offer the lent bytes.
pub record Line (C : Type 0) : Type 0 where
  pub table : List ℕ
  pub call : C
  pub number : ℕ
  pub left : List ℕ

abbrev pub on : {C : Type 0} → List ℕ → C → ℕ → List ℕ → Line C
on table call number left = record { table = table; call = call; number = number; left = left }

-- The lines of one record of the table above, by its first byte: a step with an event, finished, and an offer over 65 bytes, which leaves the last.
abbrev takes : ℕ → ℕ → ℕ → Line Call
takes before e after = on worked (step (holding before) e) 0 (holding after).bits

abbrev refuses : ℕ → ℕ → ℕ → Line Call
refuses before e number = on worked (step (holding before) e) number (holding before).bits

abbrev says : ℕ → ℕ → Line Call
says before number = on worked (finished (holding before)) number []

abbrev offers : ℕ → ℕ → Line Call
offers before byte = on worked (offer (holding before) (replicate 65 7)) 0 (byte ∷ (replicate 63 0 ++ (7 ∷ [])))

-- The table above with another byte at one place is unsound.
abbrev damaged : ℕ → ℕ → Line Call
damaged at byte = on (set worked at byte) check 12 []

abbrev pub lines : List (Line Call)
lines =
    on worked check 0 []
    -- The blank record: rows 3 and 4 say yes.
    ∷ takes 0 0 128 ∷ refuses 0 1 15 ∷ refuses 0 2 15 ∷ refuses 0 3 15 ∷ refuses 0 4 14 ∷ says 0 0 ∷ offers 0 128
    -- After event 0: rows 0, 4, 5 and 7.
    ∷ refuses 128 0 15 ∷ takes 128 1 192 ∷ refuses 128 2 15 ∷ refuses 128 3 15 ∷ refuses 128 4 14 ∷ says 128 255 ∷ offers 128 64
    -- After 0 1: rows 0 and 1.
    ∷ refuses 192 0 15 ∷ refuses 192 1 15 ∷ takes 192 2 224 ∷ refuses 192 3 15 ∷ refuses 192 4 14 ∷ says 192 0 ∷ offers 192 32
    -- After 0 1 2: rows 0, 1, 2, 6 and 7. The reset sets bit 3 and clears bits 1 and 2.
    ∷ refuses 224 0 15 ∷ refuses 224 1 15 ∷ takes 224 2 224 ∷ takes 224 3 144 ∷ refuses 224 4 14 ∷ says 224 255 ∷ offers 224 48
    -- After 0 1 2 3: rows 0, 4, 5 and 7. The next round begins.
    ∷ refuses 144 0 15 ∷ takes 144 1 208 ∷ refuses 144 2 15 ∷ refuses 144 3 15 ∷ refuses 144 18446744073709551615 14 ∷ says 144 255 ∷ offers 144 64
    -- Bit 4 is at E, so it is stray, and so is bit 511; 13 comes before 14.
    ∷ refuses 8 0 13 ∷ refuses 8 4 13 ∷ says 8 13 ∷ on worked (offer (holding 8) (replicate 64 7)) 13 (replicate 64 7)
    ∷ on worked (step last_bit 0) 13 last_bit.bits ∷ on worked (finished last_bit) 13 []
    -- A buffer of 63 bytes; 1 comes before 13.
    ∷ on worked (offer (holding 8) (replicate 63 7)) 1 (replicate 63 7)
    -- E 5. R 9. A byte less, a byte more.
    ∷ damaged 1 5 ∷ damaged 3 9 ∷ on (take 51 worked) check 12 [] ∷ on (worked ++ (0 ∷ [])) check 12 []
    -- Guard row 8 of event 0.
    ∷ damaged 5 32
    -- Event 3: first 0. Count 1. Count 0. Event 0: count 1.
    ∷ damaged 18 0 ∷ damaged 19 1 ∷ damaged 19 0 ∷ damaged 7 1
    -- Row 1 of kind 1: it names itself. Row 2: control bit 4.
    ∷ damaged 24 64 ∷ damaged 29 2
    -- Row 4, of kind 1: left 5. Row 7, of kind 3: left 7.
    ∷ damaged 37 2 ∷ damaged 49 3
    -- Right 1 in row 0, of kind 0, and in row 3, of kind 1. Row 5, of kind 2: right 5. Row 7: right 7.
    ∷ damaged 23 1 ∷ damaged 35 1 ∷ damaged 43 5 ∷ damaged 51 7
    -- 12 comes before 13 and 14, and after 1. What was lent stays.
    ∷ on (set worked 1 5) (step (holding 8) 9) 12 (holding 8).bits ∷ on (set worked 1 5) (finished (holding 8)) 12 []
    ∷ on (set worked 1 5) (offer (holding 8) (replicate 64 7)) 12 (replicate 64 7)
    ∷ on (set worked 1 5) (offer (holding 8) (replicate 63 7)) 1 (replicate 63 7) ∷ []

-- What a call answers, and what it leaves.
pub record Shown (A : Type 0) : Type 0 where
  pub answer : A
  pub left : List ℕ

abbrev pub shown : {A : Type 0} → A → List ℕ → Shown A
shown answer left = record { answer = answer; left = left }

-- Every line holds, of what the calls do and what stands for a number.
abbrev pub Each : {A C : Type 0} → (List ℕ → C → Shown A) → (ℕ → A) → List (Line C) → Type 0
Each {C = C} does numbered ls = map (λ (l : Line C). does l.table l.call) ls ≡ map (λ (l : Line C). shown (numbered l.number) l.left) ls

abbrev stepped : Stepped → Shown Report
stepped s = shown (report s.answer) s.after.bits

abbrev offered : List ℕ → Record → List ℕ → Result ⊤ Refusal → Shown Report
offered t before lent a = shown (report a) (offer_left t before lent a)

abbrev pub does : List ℕ → Call → Shown Report
does t check = shown (report (check_of t)) []
does t (step before e) = stepped (step_of t before e)
does t (finished before) = shown (finish_report (finished_of t before)) []
does t (offer before lent) = offered t before lent (offer_of t before lent)

-- A number with place 0, and no values.
abbrev pub numbered : ℕ → Report
numbered number = record { number = number; place = 0; values = [] }
