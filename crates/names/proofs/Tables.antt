-- Tables as they are made. Assumes nothing.
use mathlib.Core.Path.{◌≡◌, refl}
use Prim.Native.Nat.{ℕ, zero, suc, ◌≤◌}
use native.Mathlib.Omega.{arith}
use lib.ListN.{get_or, replicate}

pub zeros : (n k : ℕ) → ◌≡◌ {A = ℕ} (get_or (replicate n 0) k 0) 0
zeros zero zero = refl
zeros zero (suc k) = refl
zeros (suc n) zero = refl
zeros (suc n) (suc k) = zeros n k

pub ones_small : (n k : ℕ) → get_or (replicate n 1) k 0 ≤ 769
ones_small zero zero = omega arith
ones_small zero (suc k) = omega arith
ones_small (suc n) zero = omega arith
ones_small (suc n) (suc k) = ones_small n k
