-- How often a number stands in a list: `Occurs` and `times` say what they read as.
use mathlib.Core.Path.{◌≡◌, refl, ap}
use mathlib.Core.Logic.{◌⊎◌, inl, inr, ◌↔◌}
use mathlib.Core.Bool.{true, false}
use mathlib.Core.List.{List, [], ◌∷◌, ◌++◌}
use Prim.Native.Nat.{ℕ, ◌+◌, ◌≤◌}
use native.Mathlib.Omega.{arith}
use lib.Dec.{eqb}
use borrow.Author.Tests.{eqb-true, eq-eqb}
use Rattle.base.proofs.Truth.{cases}
use Rattle.process.specs.Once.{Occurs, times}

-- Counted once, it stands somewhere; counted twice, it stands somewhere and again after that.
once_at : (x : ℕ) (w : List ℕ) → 1 ≤ times x w → (u : List ℕ) × (v : List ℕ) × (w ≡ u ++ (x ∷ v))
once_at x [] h = let z : ⊥ = omega arith in absurd z
once_at x (y ∷ w) h = go (once_at x w) (cases (eqb x y))
  where
    go : (1 ≤ times x w → (u : List ℕ) × (v : List ℕ) × (w ≡ u ++ (x ∷ v))) → (eqb x y ≡ true) ⊎ (eqb x y ≡ false) → (u : List ℕ) × (v : List ℕ) × (y ∷ w ≡ u ++ (x ∷ v))
    go ih (inl k) = ([], w, rw (eqb-true x y k))
    go ih (inr k) = let i = ih (rw k at h) in (y ∷ i.0, i.1, ap (λ (l : List ℕ). y ∷ l) i.2)

pub twice_at : (x : ℕ) (w : List ℕ) → 2 ≤ times x w → (u : List ℕ) × (v : List ℕ) × (t : List ℕ) × (w ≡ u ++ (x ∷ (v ++ (x ∷ t))))
twice_at x [] h = let z : ⊥ = omega arith in absurd z
twice_at x (y ∷ w) h = go (twice_at x w) (cases (eqb x y))
  where
    push : (u : List ℕ) × (v : List ℕ) × (t : List ℕ) × (w ≡ u ++ (x ∷ (v ++ (x ∷ t)))) → (u : List ℕ) × (v : List ℕ) × (t : List ℕ) × (y ∷ w ≡ u ++ (x ∷ (v ++ (x ∷ t))))
    push (u, v, t, e) = (y ∷ u, v, t, ap (λ (l : List ℕ). y ∷ l) e)

    go : (2 ≤ times x w → (u : List ℕ) × (v : List ℕ) × (t : List ℕ) × (w ≡ u ++ (x ∷ (v ++ (x ∷ t))))) → (eqb x y ≡ true) ⊎ (eqb x y ≡ false)
        → (u : List ℕ) × (v : List ℕ) × (t : List ℕ) × (y ∷ w ≡ u ++ (x ∷ (v ++ (x ∷ t))))
    go ih (inl k) =
        let a : 2 ≤ 1 + times x w = rw k at h in
        let i = once_at x w (omega arith) in
        ([], i.0, i.1, rw (← eqb-true x y k, ← i.2))
    go ih (inr k) = push (ih (rw k at h))

times_append : (x : ℕ) (u v : List ℕ) → times x (u ++ v) ≡ times x u + times x v
times_append x [] v = let z : 0 + times x v ≡ times x v = omega arith in rw z
times_append x (y ∷ u) v = go (times_append x u v) (cases (eqb x y))
  where
    go : times x (u ++ v) ≡ times x u + times x v → (eqb x y ≡ true) ⊎ (eqb x y ≡ false) → times x (y ∷ (u ++ v)) ≡ times x (y ∷ u) + times x v
    go ih (inl k) = rw k (omega arith)
    go ih (inr k) = rw k ih

times_here : (x : ℕ) (w : List ℕ) → times x (x ∷ w) ≡ 1 + times x w
times_here x w = rw (eq-eqb x x refl)

-- It occurs where the list can be cut before it,
pub occurs_at : (x : ℕ) (w : List ℕ) → Occurs x w ↔ ((u : List ℕ) × (v : List ℕ) × (w ≡ u ++ (x ∷ v)))
occurs_at x w = (to w, λ (u, v, e). rw e (from u v))
  where
    to : (w : List ℕ) → Occurs x w → (u : List ℕ) × (v : List ℕ) × (w ≡ u ++ (x ∷ v))
    to [] o = absurd o
    to (y ∷ w) (inl e) = ([], w, rw e)
    to (y ∷ w) (inr o) = let (u, v, e) = to w o in (y ∷ u, v, ap (λ (l : List ℕ). y ∷ l) e)

    from : (u v : List ℕ) → Occurs x (u ++ (x ∷ v))
    from [] v = inl refl
    from (y ∷ u) v = inr (from u v)

-- that is, where it is counted;
pub occurs_counted : (x : ℕ) (w : List ℕ) → Occurs x w ↔ (1 ≤ times x w)
occurs_counted x w = (
  λ o. let (u, v, e) = (occurs_at x w).0 o in rw (e, times_append x u (x ∷ v), times_here x v) (omega arith),
  λ h. (occurs_at x w).1 (once_at x w h),
)

-- and it occurs twice where it is counted twice.
pub twice_counted : (x : ℕ) (w : List ℕ) → ((u : List ℕ) × (v : List ℕ) × (t : List ℕ) × (w ≡ u ++ (x ∷ (v ++ (x ∷ t))))) ↔ (2 ≤ times x w)
twice_counted x w = (
  λ (u, v, t, e).
      rw (e, times_append x u (x ∷ (v ++ (x ∷ t))), times_here x (v ++ (x ∷ t)), times_append x v (x ∷ t), times_here x t) (omega arith),
  twice_at x w,
)
