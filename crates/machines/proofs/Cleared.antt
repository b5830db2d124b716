-- What an event clears are the events from one on and up to it, so its actions are those that are written.
use mathlib.Core.Path.{◌≡◌, refl, sym, ap, ◌∙◌}
use mathlib.Core.Logic.{◌↔◌, ⊎_elim}
use mathlib.Core.Bool.{Bool, true, false, or-false, false≢true}
use mathlib.Core.List.{List, [], ◌∷◌}
use Prim.Native.Nat.{ℕ, zero, suc, ◌+◌, ◌-◌, ◌≤◌, ◌<◌}
use native.Mathlib.Nat.{eq-or-lt_of_le}
use native.Mathlib.Omega.{arith}
use lib.Dec.{eqb}
use borrow.Author.Tests.{eqb-true}
use Rattle.base.proofs.Truth.{by_cases, clash, is_false}
use Rattle.process.specs.Process.{Process, event, join, again, rounds, owns}
use Rattle.process.specs.Bits.{clears}
use Rattle.process.proofs.Numbered.{size, Numbered, interval, apart, reset_out}
use Rattle.process.proofs.Cleared.{first_lowest}
use Rattle.process.proofs.Local.{closed}
use Rattle.formulas.specs.Actions.{Action, becomes, cleared, actions}
use Rattle.formulas.specs.Opening.{cleared_all}
use Rattle.guarding.specs.code.Asked.{clears_from}

-- ---- those that a process clears
not_its : (p : Process) (x i : ℕ) → owns p x ≡ false → clears p x i ≡ false
not_its p x i h = is_false (clears p x i) (λ k. clash (closed p x i k).0 h)

-- The events from one on and up to another, and not with it.
abbrev Run : (ℕ → Bool) → ℕ → ℕ → Type 0
Run clear from to = (i : ℕ) → (clear i ≡ true) ↔ ((from ≤ i) × (i < to))

no_run : (x : ℕ) → Run (λ i. false) x x
no_run x i = (λ h. absurd (false≢true h), λ (a, b). absurd (omega arith))

module _ (x : ℕ) where
  clears_run : (p : Process) (lo : ℕ) → Numbered p lo → owns p x ≡ true → Run (clears p x) (clears_from p x) x
  unfolding clears_from clears owns Numbered
  clears_run (event n l) lo m h i = no_run x i
  clears_run (again n l) lo m h i = no_run x i
  clears_run (join j p q) lo m h i =
      by_cases (owns p x)
      (λ t. let o : clears q x i ≡ false = not_its q x i (is_false (owns q x) (λ k. apart p q lo m.0 m.1 x t k)) in
      rw (t, o, or-false (clears p x i)) (clears_run p lo m.0 t i))
      (λ t. rw (t, not_its p x i t) (clears_run q (lo + size p) m.1 (rw t at h) i))
  clears_run (rounds p r l) lo m h i =
      by_cases (owns p x)
      (λ t. let q : eqb r x ≡ false = is_false (eqb r x) (λ e. clash t (sym (ap (owns p) (eqb-true r x e)) ∙ reset_out p lo r m.0 m.1)) in
      rw (t, q) (clears_run p lo m.0 t i))
      (λ t. let q : eqb r x ≡ true = rw t at h in
      let e : lo + size p ≡ x = omega (arith, m.1, eqb-true r x q) in
      rw (t, q, not_its p x i t, or-false (owns p i), first_lowest p lo m.0, ← e) (interval p lo i m.0))

  pub from_most : (p : Process) (lo : ℕ) → Numbered p lo → owns p x ≡ true → clears_from p x ≤ x
  unfolding clears_from owns Numbered
  from_most (event n l) lo m h = omega arith
  from_most (again n l) lo m h = omega arith
  from_most (join j p q) lo m h =
      by_cases (owns p x) (λ t. rw t (from_most p lo m.0 t)) (λ t. rw t (from_most q (lo + size p) m.1 (rw t at h)))
  from_most (rounds p r l) lo m h =
      by_cases (owns p x) (λ t. rw t (from_most p lo m.0 t))
      (λ t. rw t (let e = eqb-true r x (rw t at h) in omega (arith, e, first_lowest p lo m.0, m.1)))

-- ---- the actions that clear them
module _ (clear : ℕ → Bool) (from to : ℕ) (run : Run clear from to) where
  not_in : (k : ℕ) → ((from ≤ k) × (k < to) → ⊥) → clear k ≡ false
  not_in k out = is_false (clear k) (λ c. out ((run k).0 c))

  after_run : (k n : ℕ) → to ≤ k → cleared clear k n ≡ []
  unfolding cleared
  after_run k zero h = refl
  after_run k (suc n) h = rw (not_in k (λ (a, b). omega arith), after_run (suc k) n (omega arith))

  in_run : (k n : ℕ) → from ≤ k → k ≤ to → to ≤ k + n → cleared clear k n ≡ cleared_all k (to - k)
  unfolding cleared cleared_all
  in_run k zero f h l = let e : to - k ≡ 0 = omega arith in rw e
  in_run k (suc n) f h l =
      ⊎_elim
      (λ e. let z : to - k ≡ 0 = omega arith in rw z (after_run k (suc n) (omega arith)))
      (λ b. let z : to - k ≡ suc (to - suc k) = omega arith in
      let later : cleared clear (suc k) n ≡ cleared_all (suc k) (to - suc k) = in_run (suc k) n (omega arith) (omega arith) (omega arith) in
      rw ((run k).1 (f, b), z, later))
      (eq-or-lt_of_le h)

  before_run : (k n : ℕ) → k ≤ from → from ≤ to → to ≤ k + n → cleared clear k n ≡ cleared_all from (to - from)
  unfolding cleared
  before_run k zero h f l = let e : k ≡ from = omega arith in rw (← e) (in_run k zero (omega arith) (omega arith) l)
  before_run k (suc n) h f l =
      ⊎_elim
      (λ e. rw (← e) (in_run k (suc n) (omega arith) (omega arith) l))
      (λ b. rw (not_in k (λ (a, c). omega arith)) (before_run (suc k) n (omega arith) f (omega arith)))
      (eq-or-lt_of_le h)

-- The actions of an event of a process with n events.
pub its_actions : (p : Process) (n e : ℕ) → Numbered p 0 → owns p e ≡ true → e ≤ n
    → becomes e true ∷ cleared_all (clears_from p e) (e - clears_from p e) ≡ actions p n e
unfolding actions
its_actions p n e m o l =
    ap (λ (more : List Action). becomes e true ∷ more)
    (sym (before_run (clears p e) (clears_from p e) e (clears_run e p 0 m o) 0 n (omega arith) (from_most e p 0 m o) (omega arith)))
