-- What is capped on the way is capped at the end. Assumes nothing.
use mathlib.Core.Path.{◌≡◌, refl, sym, ◌∙◌}
use mathlib.Core.Bool.{Bool, true, false, cond}
use Prim.Native.Nat.{ℕ, zero, suc, ◌+◌, ◌*◌, ◌^◌, ◌≤◌, ◌<◌}
use native.Mathlib.Nat.{mul-zero, mul-suc, mul-le-mul_right}
use native.Mathlib.Omega.{arith}
use lib.Dec.{ltb}
use borrow.Author.Tests.{lt-ltb, ltb-true}
use Rattle.rules.specs.Counted.{capped}

capped_over : (n : ℕ) → 768 < n → capped n ≡ 769
capped_over n h = rw (lt-ltb 768 n h)

over_product : (a b : ℕ) → 768 < a → 768 < a * suc b
over_product a b h = rw (mul-suc a b) (omega arith)

product : (a b : ℕ) (t : Bool) → ltb 768 a ≡ t → capped (cond t 769 a * b) ≡ capped (a * b)
product a b false e = refl
product a zero true e = rw (mul-zero 769, mul-zero a)
product a (suc b) true e =
    capped_over (769 * suc b) (over_product 769 b (omega arith)) ∙ sym (capped_over (a * suc b) (over_product a b (ltb-true 768 a e)))

pub capped_product : (a b : ℕ) → capped (capped a * b) ≡ capped (a * b)
capped_product a b = product a b (ltb 768 a) refl

sum : (a b : ℕ) (t : Bool) → ltb 768 a ≡ t → capped (cond t 769 a + b) ≡ capped (a + b)
sum a b false e = refl
sum a b true e = let h = ltb-true 768 a e in capped_over (769 + b) (omega arith) ∙ sym (capped_over (a + b) (omega arith))

capped_sum : (a b : ℕ) → capped (capped a + b) ≡ capped (a + b)
capped_sum a b = sum a b (ltb 768 a) refl

pub capped_self : (n : ℕ) → n ≤ 769 → capped n ≡ n
capped_self n h = self n h (ltb 768 n) refl
  where
    self : (n : ℕ) → n ≤ 769 → (t : Bool) → ltb 768 n ≡ t → cond t 769 n ≡ n
    self n h true e = let g = ltb-true 768 n e in omega arith
    self n h false e = refl

-- One more node, of t copies, and r those after it.
pub sum_step : (n t r m : ℕ) → m ≡ capped (n + capped t) → capped (m + r) ≡ capped (n + (t + r))
sum_step n t r m p =
    let a : n + capped t + r ≡ capped t + (n + r) = omega arith in
    let b : t + (n + r) ≡ n + (t + r) = omega arith in
    rw (p, capped_sum (n + capped t) r, a, capped_sum t (n + r), b)

pub small_product : (n z : ℕ) → n ≤ 769 → z < 65536 → n * z < 2 ^ 64
small_product n z a b = let h : n * z ≤ 769 * z = mul-le-mul_right z a in omega arith
