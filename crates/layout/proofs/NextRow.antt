-- The loop over the rows: one more row, judged and worked out.
use mathlib.Core.Path.{◌≡◌, refl, sym, ap, ◌∙◌}
use mathlib.Core.Bool.{Bool, true, false}
use mathlib.Core.List.{List}
use Prim.Native.Nat.{ℕ, ◌+◌, ◌*◌, ◌<◌}
use native.Mathlib.Numerals.{add-one}
use native.Mathlib.Omega.{arith}
use lib.ListN.{length, take, set}
use Rattle.base.proofs.Truth.{is_false, clash, and_i}
use Rattle.base.proofs.Each.{each_below}
use Rattle.base.specs.Packed.{field}
use Rattle.layout.specs.Fields.{events, row_word}
use Rattle.layout.specs.Sound.{row_sound, rows_sound}
use Rattle.layout.specs.Values.{row_value, row_values}
use Rattle.layout.proofs.Rows.{values_more}

-- Of the first n rows, each is sound if all are.
rows_each : (t : List ℕ) (n i : ℕ) → rows_sound t n ≡ true → i < n → row_sound (row_word t i) (events t) i ≡ true
unfolding rows_sound
rows_each t = each_below (rows_sound t) (λ i. row_sound (row_word t i) (events t) i) (λ k. refl)

-- The word of row i is word E + i of those that stand after E and R.
module _ (t : List ℕ) (n i w : ℕ) (N : n ≡ events t) (W : w ≡ field 4 t (4 + 4 * (n + i))) where
  its_word : w ≡ row_word t i
  its_word = let q : 4 + 4 * (n + i) ≡ 4 + 4 * events t + 4 * i = omega arith in W ∙ ap (field 4 t) q

  its_row : row_sound w n i ≡ row_sound (row_word t i) (events t) i
  its_row = rw (its_word, N)

  -- It is sound, or not all are.
  pub rows_more : row_sound w n i ≡ true → rows_sound t i ≡ true → rows_sound t (i + 1) ≡ true
  unfolding rows_sound
  rows_more s a = rw add-one (and_i a (sym its_row ∙ s))

  pub rows_stop : (m : ℕ) → i < m → row_sound w n i ≡ false → false ≡ rows_sound t m
  rows_stop m h f = sym (is_false (rows_sound t m) (λ a. clash (rows_each t m i a h) (sym its_row ∙ f)))

  pub worked_more : (bits : List ℕ) (values : List Bool) (v : Bool) → i < length values → take i values ≡ row_values t bits i
      → row_sound w n i ≡ true → v ≡ row_value w bits values → take (i + 1) (set values i v) ≡ row_values t bits (i + 1)
  worked_more bits values v h f s e = values_more t bits values i v h f (sym its_row ∙ s) (e ∙ ap (λ (x : ℕ). row_value x bits values) its_word)
