-- Two runs of bytes compared byte by byte: what is found on the way. Assumes nothing.
use mathlib.Core.Path.{◌≡◌, sym, ap, ◌∙◌}
use mathlib.Core.Bool.{true, false}
use mathlib.Core.List.{List}
use Prim.Native.Nat.{ℕ, ◌+◌, ◌≤◌, ◌<◌}
use native.Mathlib.Numerals.{add-one}
use lib.ListN.{length, take, get_or}
use lib.Seq.{take-suc, take_all}
use Rattle.base.proofs.Truth.{is_false}
use Rattle.base.specs.Equal.{same}
use Rattle.base.proofs.Decided.{same_decides}

module _ (v w : List ℕ) where
  differ : (v ≡ w → ⊥) → false ≡ same v w
  differ f = sym (is_false (same v w) (λ t. f ((same_decides v w).0 t)))

  pub other_length : (length v ≡ length w → ⊥) → false ≡ same v w
  other_length f = differ (λ q. f (ap length q))

  pub other_byte : (i : ℕ) → (get_or v i 0 ≡ get_or w i 0 → ⊥) → false ≡ same v w
  other_byte i f = differ (λ q. f (ap (λ (x : List ℕ). get_or x i 0) q))

  -- One byte more is the same.
  pub one_more : (i : ℕ) → i < length v → i < length w → get_or v i 0 ≡ get_or w i 0 → take i v ≡ take i w → take (i + 1) v ≡ take (i + 1) w
  one_more i h k g q = rw (add-one i, take-suc v i 0 h, take-suc w i 0 k, q, g)

  pub all_same : (i : ℕ) → length v ≤ i → length w ≤ i → take i v ≡ take i w → true ≡ same v w
  all_same i h k q = sym ((same_decides v w).1 (sym (take_all i v h) ∙ (q ∙ take_all i w k)))
