-- What the calls for C answer, case by case, in the words of the definitions.
use mathlib.Core.Path.{◌≡◌, ap, ◌∙◌}
use mathlib.Core.Bool.{Bool, true, false}
use mathlib.Core.List.{List}
use Prim.Native.Nat.{ℕ}
use lib.ListN.{length}
use lib.Dec.{eqb}
use Rattle.record.specs.Bytes.{words_of}
use Rattle.table.specs.Steps.{step_of, finished_of, offer_of, offer_left}
use Rattle.std.specs.Prelude.{⊤, Result}
use Rattle.base.specs.declared.Refusal.{Refusal}
use Rattle.table.specs.declared.Stepped.{Stepped}
use Rattle.firmware.specs.Calls.{number, left_bytes, finish_number, step_number, step_bytes, finished_number, offer_number, offer_bytes}

module _ (t s : List ℕ) (e : ℕ) where
  pub step_short : eqb (length s) 64 ≡ false → (1 ≡ step_number t s e) × (s ≡ step_bytes t s e)
  unfolding step_number step_bytes
  step_short h = (rw h, rw h)

  module _ (h : eqb (length s) 64 ≡ true) (bits : List ℕ) (B : bits ≡ words_of s) (r : Stepped) (R : r ≡ step_of t (record { bits = bits }) e) where
    pub step_called : (n : ℕ) (out : List ℕ) → n ≡ number r.answer → out ≡ left_bytes s r.after.bits r.answer
        → (n ≡ step_number t s e) × (out ≡ step_bytes t s e)
    unfolding step_number step_bytes
    step_called n out q o = (rw (h, ← B, ← R) q, rw (h, ← B, ← R) o)

module _ (t s : List ℕ) where
  pub finished_short : eqb (length s) 64 ≡ false → 1 ≡ finished_number t s
  unfolding finished_number
  finished_short h = rw h

  pub finished_called : eqb (length s) 64 ≡ true → (bits : List ℕ) → bits ≡ words_of s → (f g : Result Bool Refusal) → f ≡ finished_of t (record { bits = bits }) → f ≡ g
      → finish_number g ≡ finished_number t s
  unfolding finished_number
  finished_called h bits B f g F G = rw (h, ← B, ← F, G)

module _ (t s lent : List ℕ) where
  pub offer_short : eqb (length s) 64 ≡ false → (1 ≡ offer_number t s lent) × (lent ≡ offer_bytes t s lent)
  unfolding offer_number offer_bytes
  offer_short h = (rw h, rw h)

  pub offer_called : eqb (length s) 64 ≡ true → (bits : List ℕ) → bits ≡ words_of s → (a : Result ⊤ Refusal) (n : ℕ) (out : List ℕ)
      → (a ≡ offer_of t (record { bits = bits }) lent) × (out ≡ offer_left t (record { bits = bits }) lent (offer_of t (record { bits = bits }) lent))
      → n ≡ number a → (n ≡ offer_number t s lent) × (out ≡ offer_bytes t s lent)
  unfolding offer_number offer_bytes
  offer_called h bits B a n out A N =
      (rw (h, ← B) (N ∙ ap number A.0), rw (h, ← B) A.1)
