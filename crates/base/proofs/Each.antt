-- Tests that go through the numbers below a bound one by one: what holds of all of them holds of each, and back.
use mathlib.Core.Path.{◌≡◌, sym, ◌∙◌}
use mathlib.Core.Bool.{Bool, true, ◌&&◌}
use mathlib.Core.Logic.{⊎_elim}
use Prim.Native.Nat.{ℕ, zero, suc, ◌<◌}
use native.Mathlib.Nat.{le_of_suc-le-suc, eq-or-lt_of_le}
use native.Mathlib.Omega.{arith}
use Rattle.base.proofs.Truth.{and_l, and_r, and_i}

pub each_below : (all each : ℕ → Bool) → ((k : ℕ) → all (suc k) ≡ (all k && each k)) → (m i : ℕ) → all m ≡ true → i < m → each i ≡ true
each_below all each more zero i ok h = let z : ⊥ = omega arith in absurd z
each_below all each more (suc m) i ok h =
    let both = sym (more m) ∙ ok in
    ⊎_elim (λ q. rw q (and_r (all m) (each m) both)) (λ l. each_below all each more m i (and_l (all m) (each m) both) l)
    (eq-or-lt_of_le (le_of_suc-le-suc h))

pub below_each : (all each : ℕ → Bool) → all 0 ≡ true → ((k : ℕ) → all (suc k) ≡ (all k && each k)) → (m : ℕ)
    → ((i : ℕ) → i < m → each i ≡ true) → all m ≡ true
below_each all each none more zero f = none
below_each all each none more (suc m) f =
    more m ∙ and_i (below_each all each none more m (λ i h. f i (omega arith))) (f m (omega arith))
