-- The test that a number lies between two others, and what it says of a byte's class.
use mathlib.Core.Path.{◌≡◌}
use mathlib.Core.Bool.{Bool, true, false, ◌||◌, cond}
use Prim.Native.Char.{code as byte}
use Prim.Native.Nat.{ℕ, ◌≤◌, ◌<◌}
use native.Mathlib.Omega.{arith}
use lib.Dec.{eqb, leb}
use borrow.Author.Tests.{le-leb, leb-true}
use Rattle.base.proofs.Truth.{and_l, and_r, and_i, is_false, by_cases}
use Rattle.tokens.specs.Classes.{between, spacing, class_of}

pub between_in : (a b x : ℕ) → a ≤ x → x ≤ b → between a b x ≡ true
between_in a b x h l = and_i (le-leb a x h) (le-leb x b l)

pub in_range : (a b x : ℕ) → between a b x ≡ true → (a ≤ x) × (x ≤ b)
in_range a b x e = (leb-true a x (and_l (leb a x) (leb x b) e), leb-true x b (and_r (leb a x) (leb x b) e))

pub between_low : (a b x : ℕ) → x < a → between a b x ≡ false
between_low a b x h = is_false (between a b x) (λ e. let l = in_range a b x e in omega arith)

pub between_high : (a b x : ℕ) → b < x → between a b x ≡ false
between_high a b x h = is_false (between a b x) (λ e. let l = in_range a b x e in omega arith)

-- A byte's class is 0 to 9, and 9 only for #.
module _ (b k : ℕ) (h : 8 ≤ k) where
  either_small : (t : Bool) (x y : ℕ) → x ≤ 8 → y ≤ k → cond t x y ≤ k
  either_small true x y l m = omega arith
  either_small false x y l m = m

  class_within : cond (eqb b (byte "#")) 9 0 ≤ k → class_of b ≤ k
  unfolding class_of
  class_within l =
      either_small (eqb b (byte "(")) 1 _ (omega arith)
      (either_small (eqb b (byte ")")) 2 _ (omega arith)
      (either_small (eqb b (byte ",")) 3 _ (omega arith)
      (either_small (eqb b (byte ":")) 4 _ (omega arith)
      (either_small (between (byte "A") (byte "Z") b || between (byte "a") (byte "z") b) 5 _ (omega arith)
      (either_small (between (byte "0") (byte "9") b) 6 _ (omega arith)
      (either_small (eqb b (byte "_")) 7 _ (omega arith)
      (either_small (spacing b) 8 _ (omega arith) l)))))))

pub class_small : (b : ℕ) → class_of b ≤ 9
class_small b = class_within b 9 (omega arith) (by_cases (eqb b 35) (λ e. rw e (omega arith)) (λ e. rw e (omega arith)))

pub class_smaller : (b : ℕ) → eqb b 35 ≡ false → class_of b ≤ 8
class_smaller b e = class_within b 8 (omega arith) (rw e (omega arith))
