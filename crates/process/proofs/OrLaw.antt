-- A nonempty choice of two processes, neither of which has an empty run.
use mathlib.Core.Path.{◌≡◌, sym, ◌∙◌, ap}
use mathlib.Core.Logic.Iff
use mathlib.Core.Logic.{◌⊎◌, inl, inr, ◌↔◌}
use mathlib.Core.Bool.{true, not, ◌&&◌, ◌||◌}
use mathlib.Core.List.{List, [], ◌∷◌, ◌++◌}
use Prim.Native.Nat.{ℕ}
use Rattle.base.proofs.Truth.{clash, or_l, or_r, or_e}
use Rattle.process.specs.Process.{or, Process, join, owns}
use Rattle.process.specs.Runs.{Either, Both, Whole, Begins}
use Rattle.process.specs.Bits.{Bits, clears}
use Rattle.process.specs.Guards.{begun, complete, enabled}
use Rattle.process.proofs.Lists.{filled, filled_of, all_in_l, all_swap, Apart, apart_sym, only}
use Rattle.process.proofs.Local.{begins_inside}
use Rattle.process.proofs.Seen.{Seen, Good, not_begun, both_tests, Nonempty, begins_nil, begins_whole}
use Rattle.process.proofs.Parts.{after₂, alone, rest, begins₂}
use Rattle.process.proofs.AndLaw.{Shared, shared_swap, both→, both←, shared→, shared←, own_part_l, own_part_r, shared_goes_on}

nonempty_filled : (p : Process) → Nonempty p → (w : List ℕ) → Whole p w → filled w ≡ true
nonempty_filled p n w h = filled_of w (λ e. n (rw e at h))

-- A process of the choice: its part of the list is a run, or nothing was taken of it.
abbrev Part : Process → List ℕ → Type 0
Part p u = Whole p u ⊎ (u ≡ [])

part_ends : (p : Process) {s : Bits} {u : List ℕ} → Seen p s u → Part p u ↔ ((complete p s || not (begun p s)) ≡ true)
part_ends p {s} {u} S = (to, λ k. from (or_e (complete p s) (not (begun p s)) k))
  where
    to : Part p u → (complete p s || not (begun p s)) ≡ true
    to (inl h) = or_l (not (begun p s)) (S.ends.0 h)
    to (inr h) = or_r (complete p s) ((not_begun p S).0 h)

    from : (complete p s ≡ true) ⊎ (not (begun p s) ≡ true) → Part p u
    from (inl h) = inl (S.ends.1 h)
    from (inr h) = inr ((not_begun p S).1 h)

-- a run of the first alone
pub shared_alone : (p q : Process) → Apart (owns p) (owns q) → (w : List ℕ) → Begins p w → Shared p q w
shared_alone p q d w h =
    let a = alone p q d w h in
    (all_in_l (owns p) (owns q) w (begins_inside p w h), rw a.0 h, rw a.1 (begins_nil q))

module _ (p q : Process) (d : Apart (owns p) (owns q)) where
  pub or_shared : (w : List ℕ) → Begins (join or p q) w ↔ Shared p q w
  unfolding Whole
  or_shared w = (to, λ k. let r = shared← p q d w k in (r.0, inr r.1))
    where
      to : (x : List ℕ) × Either (Either (Whole p) (Whole q)) (Both (Whole p) (Whole q)) (w ++ x) → Shared p q w
      to (x, inl (inl h)) = shared_alone p q d w (x, h)
      to (x, inl (inr h)) = shared_swap q p w (shared_alone q p (apart_sym d) w (x, h))
      to (x, inr h) = shared→ p q d w x h

  module _ (np : Nonempty p) (nq : Nonempty q) (G : Good p) (H : Good q) (w : List ℕ) (h : Shared p q w) where
    abbrev s : Bits
    s = after₂ p q w

    S : Seen p s (only (owns p) w)
    S = own_part_l p q d G H w h

    R : Seen q s (only (owns q) w)
    R = own_part_r p q d G H w h

    -- a run of the choice, by its parts
    parts→ : Whole (join or p q) w → (filled w ≡ true) × Part p (only (owns p) w) × Part q (only (owns q) w)
    unfolding Whole
    parts→ (inl (inl k)) =
        let a = alone p q d w (begins_whole p w k) in
        (nonempty_filled p np w k, inl (rw a.0 k), inr a.1)
    parts→ (inl (inr k)) =
        let a = alone q p (apart_sym d) w (begins_whole q w k) in
        (nonempty_filled q nq w k, inr a.1, inl (rw a.0 k))
    parts→ (inr k) =
        let m = both→ p q d w k in
        (sym (begins₂ p q d w m.0 S R) ∙ or_l (begun q s) (S.begins ∙ nonempty_filled p np (only (owns p) w) m.1), inl m.1, inl m.2)

    parts← : filled w ≡ true → Part p (only (owns p) w) → Part q (only (owns q) w) → Whole (join or p q) w
    unfolding Whole
    parts← f (inl a) (inl b) = inr (both← p q d w (h.0, a, b))
    parts← f (inl a) (inr b) = inl (inl (rw (rest p q d w h.0 b) at a))
    parts← f (inr a) (inl b) = inl (inr (rw (rest q p (apart_sym d) w (all_swap (owns p) (owns q) w h.0) a) at b))
    parts← f (inr a) (inr b) = absurd (clash f (ap filled (sym (rest p q d w h.0 b) ∙ a)))

    or_ends : Whole (join or p q) w ↔ (complete (join or p q) s ≡ true)
    unfolding complete
    or_ends = Iff.trans (λ k. let m = parts→ k in (m.0, (m.1, m.2)), λ k. parts← k.0 k.1.0 k.1.1)
        (both_tests (begun p s || begun q s) ((complete p s || not (begun p s)) && (complete q s || not (begun q s))) (rw (← begins₂ p q d w h.0 S R) Iff.rfl)
        (both_tests (complete p s || not (begun p s)) (complete q s || not (begun q s)) (part_ends p S) (part_ends q R)))

  pub or_good : Nonempty p → Nonempty q → Good p → Good q → Good (join or p q)
  unfolding owns clears begun complete enabled
  or_good np nq G H w h =
      let k = (or_shared w).0 h in
      record {
        begins = begins₂ p q d w k.0 (own_part_l p q d G H w k) (own_part_r p q d G H w k);
        ends = or_ends np nq G H w k;
        goes_on = λ x i. Iff.trans (or_shared (w ++ (x ∷ []))) (shared_goes_on p q d G H w k x i);
      }
