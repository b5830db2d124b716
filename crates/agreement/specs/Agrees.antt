-- A table that says of the control bits what a process with n events says: the seam between translation, which makes such a table, and the book.
use Rattle.std.specs.Prelude.{◌≡◌, true, ◌&&◌, List, ℕ, ◌+◌, ◌<◌, leb, ltb}
use Rattle.process.specs.Process.{Process}
use Rattle.process.specs.Bits.{clears}
use Rattle.process.specs.Guards.{complete, enabled}
use Rattle.record.specs.Bits.{bit_at}
use Rattle.layout.specs.Fields.{events, event_word, first_of, count_of}
use Rattle.layout.specs.Sound.{sound}
use Rattle.layout.specs.Values.{values_of, allows, ended}

pub record Agrees (p : Process) (n : ℕ) (t : List ℕ) : Type 0 where
  pub its_sound : sound t ≡ true
  pub its_events : events t ≡ n
  -- the guard row of event e says whether e may be taken next
  pub its_guards : (bits : List ℕ) (e : ℕ) → e < n → allows t (values_of t bits) e ≡ enabled p (bit_at bits) e
  -- the last row says whether what was taken is a whole run
  pub its_end : (bits : List ℕ) → ended t (values_of t bits) ≡ complete p (bit_at bits)
  -- the bits that the record of event e clears are those that taking e clears
  pub its_clears : (e i : ℕ) → e < n
      → (leb (first_of (event_word t e)) i && ltb i (first_of (event_word t e) + count_of (event_word t e))) ≡ clears p e i
