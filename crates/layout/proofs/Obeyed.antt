-- The values of a table's rows: each says of all the values what its word says.
use mathlib.Core.Path.{◌≡◌, refl, sym, ap, subst, ◌∙◌}
use mathlib.Core.Bool.{Bool, true, false}
use mathlib.Core.List.{List, [], ◌∷◌, ◌++◌}
use Prim.Native.Nat.{ℕ, zero, suc, ◌+◌, ◌≤◌, ◌<◌}
use native.Mathlib.Omega.{arith}
use lib.Dec.{eqb}
use lib.ListN.{length, get_or, take, length-append}
use lib.Seq.{get_or-take, take_all, take-append-le, get_or-append_seam}
use borrow.Author.Tests.{eqb-true, eqb-false}
use Rattle.base.proofs.Truth.{by_cases}
use Rattle.base.proofs.Each.{each_below}
use Rattle.layout.specs.Fields.{events, rows, row_word}
use Rattle.layout.specs.Sound.{row_sound, rows_sound, sound}
use Rattle.layout.specs.Values.{row_value, row_values, values_of}
use Rattle.layout.proofs.Sizes.{sound_rows}
use Rattle.layout.proofs.Rows.{value_before}

module _ (t bits : List ℕ) where
  values_length : (n : ℕ) → length (row_values t bits n) ≡ n
  unfolding row_values
  values_length zero = refl
  values_length (suc n) = length-append (row_values t bits n) _ ∙ (ap (λ k. k + 1) (values_length n) ∙ omega arith)

  -- The values of the first rows stand before the others.
  values_front : (n i : ℕ) → i ≤ n → take i (row_values t bits n) ≡ row_values t bits i
  unfolding row_values
  values_front zero i h = let z : i ≡ 0 = omega arith in rw z refl
  values_front (suc n) i h =
      by_cases (eqb i (suc n))
      (λ q. let e = eqb-true i (suc n) q in rw e (take_all (suc n) (row_values t bits (suc n)) (omega (arith, values_length (suc n)))))
      (λ q. let l : i ≤ n = omega (arith, eqb-false i (suc n) q) in
      take-append-le i (row_values t bits n) _ (omega (arith, values_length n)) ∙ values_front n i l)

  value_there : (n i : ℕ) → i < n → get_or (row_values t bits n) i false ≡ row_value (row_word t i) bits (row_values t bits i)
  unfolding row_values
  value_there n i h =
      sym (get_or-take (suc i) (row_values t bits n) i false (omega arith))
      ∙ (ap (λ (vs : List Bool). get_or vs i false) (values_front n (suc i) h)
      ∙ subst (λ k. get_or (row_values t bits i ++ (row_value (row_word t i) bits (row_values t bits i) ∷ [])) k false ≡ row_value (row_word t i) bits (row_values t bits i)) (values_length i)
      (get_or-append_seam (row_values t bits i) (row_value (row_word t i) bits (row_values t bits i)) [] false))

  pub values_obey : sound t ≡ true → (i : ℕ) → i < rows t → get_or (values_of t bits) i false ≡ row_value (row_word t i) bits (values_of t bits)
  unfolding rows_sound
  values_obey ok i h =
      let s = each_below (rows_sound t) (λ k. row_sound (row_word t k) (events t) k) (λ k. refl) (rows t) i (sound_rows t ok) h in
      value_there (rows t) i h
      ∙ sym (value_before (row_word t i) (events t) i s bits (values_of t bits)
      ∙ ap (row_value (row_word t i) bits) (values_front (rows t) i (omega arith)))
