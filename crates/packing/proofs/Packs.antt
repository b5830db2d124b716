-- Values that are put side by side, one after the other.
use Rattle.std.proofs.Common.{◌≡◌, refl, ℕ, ◌+◌, ◌*◌, ◌%◌, ◌≤◌, ◌<◌, List, [], ◌∷◌, ◌++◌, length, take, get_or, add-one, arith}
use Rattle.std.specs.Prelude.{◌^◌}
use Rattle.std.proofs.Math.Nat.{pow-le-pow_right, mod-lt}
use Rattle.std.proofs.Math.Seq.{take-suc}
use Rattle.std.proofs.lemmas.Nat.{pow_pos, pow-add, mul-le, one_shl, mul-add-lt}
use mathlib.Core.List.{foldl}
use Rattle.packing.specs.Packed.{beside}

-- One value more.
folded_more : {A B : Type 0} (f : B → A → B) (b : B) (xs : List A) (x : A) → foldl f b (xs ++ (x ∷ [])) ≡ f (foldl f b xs) x
folded_more f b [] x = refl
folded_more f b (y ∷ ys) x = folded_more f (f b y) ys x

pub beside_more : (w : ℕ) (vs : List ℕ) (i : ℕ) → i < length vs → beside w (take (i + 1) vs) ≡ beside w (take i vs) * 2 ^ w + get_or vs i 0 % 2 ^ w
beside_more w vs i h = rw (add-one, take-suc vs i 0 h) (folded_more (λ n v. n * 2 ^ w + v % 2 ^ w) 0 (take i vs) (get_or vs i 0))

-- It fits: n has the bits of i values, and there are more than these.
module _ (w i len : ℕ) (more : i < len) (fit : len * w ≤ 32) where
  wider : (i + 1) * w ≡ w + i * w
  wider = grind arith

  within : w + i * w ≤ 32
  within = omega (arith, mul-le (i + 1) w len w (omega arith) (omega arith), wider)

  -- The shift in the code is the base.
  pub base_is : 1 * 2 ^ w % 18446744073709551616 ≡ 2 ^ w
  base_is = one_shl w 64 (omega (arith, within))

  module _ (n v : ℕ) (below : n < 2 ^ (i * w)) where
    pub next_below : n * 2 ^ w + v % 2 ^ w < 2 ^ ((i + 1) * w)
    next_below = rw (wider, pow-add 2 w (i * w)) (mul-add-lt n (2 ^ w) (v % 2 ^ w) (2 ^ (i * w)) below (mod-lt v (pow_pos w)))

    pub next_fits : n * 2 ^ w + v % 2 ^ w < 18446744073709551616
    next_fits =
        let most : 2 ^ ((i + 1) * w) ≤ 2 ^ 32 = pow-le-pow_right {n = 2} (omega arith) {i = (i + 1) * w} {j = 32} (omega (arith, within, wider)) in
        omega (arith, next_below)
