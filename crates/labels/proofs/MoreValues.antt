-- One value more.
use mathlib.Core.Path.{◌≡◌, refl}
use mathlib.Core.List.{List, [], ◌∷◌, ◌++◌}
use Prim.Native.Nat.{ℕ, ◌<◌}
use native.Mathlib.Omega.{arith}
use lib.ListN.{length}
use borrow.Author.Tests.{eq-eqb, ne_eqb}
use Rattle.labels.specs.declared.Values.{Values}
use Rattle.labels.specs.Values.{values, packed, push}

-- By how many there are.
pub push_first : (v : Values) (x : ℕ) → v.count ≡ 0 → values 1 x 0 0 ≡ push v x
unfolding push
push_first v x h = rw (eq-eqb v.count 0 h)

pub push_second : (v : Values) (x : ℕ) → v.count ≡ 1 → values 2 v.first x 0 ≡ push v x
unfolding push
push_second v x h = rw (ne_eqb v.count 0 (λ z. omega arith), eq-eqb v.count 1 h)

pub push_third : (v : Values) (x : ℕ) → v.count ≡ 2 → values 3 v.first v.second x ≡ push v x
unfolding push
push_third v x h = rw (ne_eqb v.count 0 (λ z. omega arith), ne_eqb v.count 1 (λ z. omega arith), eq-eqb v.count 2 h)

pub push_more : (v : Values) (x : ℕ) → (v.count ≡ 0 → ⊥) → (v.count ≡ 1 → ⊥) → (v.count ≡ 2 → ⊥) → v ≡ push v x
unfolding push
push_more v x a b c = rw (ne_eqb v.count 0 a, ne_eqb v.count 1 b, ne_eqb v.count 2 c)

-- The values with one more at their end, of which there are at most three.
pub packed_more : (vs : List ℕ) (x : ℕ) → length vs < 3 → packed (vs ++ (x ∷ [])) ≡ push (packed vs) x
packed_more [] x h = push_first (packed []) x refl
packed_more (a ∷ []) x h = push_second (packed (a ∷ [])) x refl
packed_more (a ∷ b ∷ []) x h = push_third (packed (a ∷ b ∷ [])) x refl
packed_more (a ∷ b ∷ c ∷ vs) x h = let z : ⊥ = omega arith in absurd z
