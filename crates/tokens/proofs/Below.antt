-- A test that passes at each number below a bound passes at any of them: the rules of tables are computed by it.
use mathlib.Core.Path.{◌≡◌, refl}
use mathlib.Core.Bool.{Bool, true, ◌&&◌}
use Prim.Native.Nat.{ℕ, zero, suc, ◌+◌, ◌-◌, ◌≤◌, ◌<◌}
use native.Mathlib.Omega.{arith}
use Rattle.base.proofs.Each.{each_below}

abbrev pub all_below : (ℕ → Bool) → ℕ → Bool
all_below t zero = true
all_below t (suc n) = all_below t n && t n

pub at_below : (t : ℕ → Bool) (n : ℕ) → all_below t n ≡ true → (k : ℕ) → k < n → t k ≡ true
at_below t n e k h = each_below (all_below t) t (λ m. refl) n k e h

-- The same from a number on.
pub at_between : (t : ℕ → Bool) (low n : ℕ) → all_below (λ d. t (low + d)) n ≡ true → (k : ℕ) → low ≤ k → k < low + n → t k ≡ true
at_between t low n e k l h =
    let q : low + (k - low) ≡ k = omega arith in
    rw q at (at_below (λ d. t (low + d)) n e (k - low) (omega arith))
