-- The rows of a table: what a sound row says, and the list of their values.
use mathlib.Core.Path.{◌≡◌, ◌∙◌}
use mathlib.Core.Bool.{Bool, true, false, ◌&&◌}
use mathlib.Core.List.{List}
use mathlib.Core.Logic.{⊎_elim}
use Prim.Native.Nat.{ℕ, ◌+◌, ◌<◌, ◌≤◌}
use native.Mathlib.Numerals.{add-one}
use native.Mathlib.Omega.{arith}
use lib.Dec.{ltb, leb, eqb}
use lib.ListN.{length, take, set}
use lib.Seq.{get_or-take, take-suc-set}
use borrow.Author.Tests.{lt-ltb, leb-true, leb-false, ltb-true, eq-eqb, ne_eqb, eqb-true, eqb-false}
use Rattle.base.proofs.Truth.{cases, by_cases, agree, and_l, and_r}
use Rattle.layout.specs.Fields.{events, row_word, kind_of, left_of, right_of}
use Rattle.layout.specs.Sound.{row_sound}
use Rattle.layout.specs.Values.{says, row_value, row_values}

-- That a number is 0, as a bound.
below_one : (r : ℕ) → ltb r 1 ≡ eqb r 0
below_one r =
    agree (ltb r 1) (eqb r 0) (λ e. eq-eqb r 0 (omega (arith, ltb-true r 1 e))) (λ e. lt-ltb r 1 (omega (arith, eqb-true r 0 e)))

-- A row's soundness as two bounds, by its kind.
module _ (w n i : ℕ) where
  pub bounds_bit : kind_of w ≡ 0 → (ltb (left_of w) n && ltb (right_of w) 1) ≡ row_sound w n i
  unfolding row_sound
  bounds_bit k = simp (eq-eqb _ _ k, below_one (right_of w))

  pub bounds_not : kind_of w ≡ 1 → (ltb (left_of w) i && ltb (right_of w) 1) ≡ row_sound w n i
  unfolding row_sound
  bounds_not k = simp (k, below_one (right_of w))

  pub bounds_two : 2 ≤ kind_of w → (ltb (left_of w) i && ltb (right_of w) i) ≡ row_sound w n i
  unfolding row_sound
  bounds_two h = simp (ne_eqb (kind_of w) 0 (λ q. omega arith), ne_eqb (kind_of w) 1 (λ q. omega arith))

-- What a sound row says.
module _ (w n i : ℕ) (ok : row_sound w n i ≡ true) where
  pub left_below : (kind_of w ≡ 0 → ⊥) → left_of w < i
  unfolding row_sound
  left_below k = ltb-true _ _ (and_l (ltb (left_of w) i) _ (simp (ne_eqb _ _ k) at ok))

  pub right_below : 2 ≤ kind_of w → right_of w < i
  right_below h = ltb-true _ _ (and_r (ltb (left_of w) i) _ (bounds_two w n i h ∙ ok))

  -- So its right side stands on the sheet, whatever the kind.
  pub right_within : (kind_of w ≡ 0 → ⊥) → i < 12288 → right_of w < 12288
  right_within k I =
      by_cases (leb 2 (kind_of w))
      (λ q. let l = right_below (leb-true _ _ q) in omega arith)
      (λ q. let one : kind_of w ≡ 1 = omega (arith, leb-false _ _ q, k) in
      let l = ltb-true _ _ (and_r (ltb (left_of w) i) _ (bounds_not w n i one ∙ ok)) in omega arith)

  -- So it reads only the rows before it.
  pub value_before : (bits : List ℕ) (vs : List Bool) → row_value w bits vs ≡ row_value w bits (take i vs)
  unfolding says
  value_before bits vs =
      ⊎_elim (λ (e : eqb (kind_of w) 0 ≡ true). simp e)
      (λ (e : eqb (kind_of w) 0 ≡ false). let k = eqb-false (kind_of w) 0 e in let l = get_or-take i vs (left_of w) false (left_below k) in
      ⊎_elim (λ (f : eqb (kind_of w) 1 ≡ true). simp (e, f, l))
      (λ (f : eqb (kind_of w) 1 ≡ false). let j = eqb-false (kind_of w) 1 f in
      simp (e, f, l, get_or-take i vs (right_of w) false (right_below (omega (arith, k, j)))))
      (cases (eqb (kind_of w) 1)))
      (cases (eqb (kind_of w) 0))

-- The values of the rows, and the list where they stand.
module _ (t bits : List ℕ) where
  -- One more row worked out.
  pub values_more : (values : List Bool) (i : ℕ) (v : Bool) → i < length values → take i values ≡ row_values t bits i
      → row_sound (row_word t i) (events t) i ≡ true → v ≡ row_value (row_word t i) bits values
      → take (i + 1) (set values i v) ≡ row_values t bits (i + 1)
  unfolding row_values
  values_more values i v h q ok p =
      rw (add-one, take-suc-set values i v h, q, p, value_before (row_word t i) (events t) i ok bits values, q)
