-- Both of two processes, interleaved.
use mathlib.Core.Path.{◌≡◌}
use mathlib.Core.Logic.Iff
use mathlib.Core.Logic.{◌⊎◌, inl, inr, ◌↔◌}
use mathlib.Core.Bool.{true, false, cond}
use mathlib.Core.List.{List, [], ◌∷◌, ◌++◌}
use Prim.Native.Nat.{ℕ}
use Rattle.base.proofs.Truth.{cases, or_l}
use Rattle.process.specs.Process.{and, Process, join, owns}
use Rattle.process.specs.Runs.{All, Both, Whole, Begins}
use Rattle.process.specs.Bits.{clears}
use Rattle.process.specs.Guards.{begun, complete, enabled}
use Rattle.process.proofs.Lists.{all_append, all_left, all_right, all_in_l, all_in_r, all_swap, Apart, apart_sym, only, only_append, union, mix_all, mix_l, mix_r, mix_make}
use Rattle.process.proofs.Local.{inside}
use Rattle.process.proofs.Seen.{Seen, Good, both_tests}
use Rattle.process.proofs.Parts.{after₂, In, seen_l, seen_r, own_l, own_r, one_more, begins₂}

-- Each part of the list begins a run of its process.
abbrev pub Shared : Process → Process → List ℕ → Type 0
Shared p q w = In p q w × Begins p (only (owns p) w) × Begins q (only (owns q) w)

pub shared_swap : (p q : Process) (w : List ℕ) → Shared p q w → Shared q p w
shared_swap p q w (i, a, b) = (all_swap (owns p) (owns q) w i, b, a)

-- with one event more, of the first
pub shared_more : (p q : Process) → Apart (owns p) (owns q) → (w : List ℕ) → Shared p q w → (x : ℕ) → owns p x ≡ true
    → Shared p q (w ++ (x ∷ [])) ↔ Begins p (only (owns p) w ++ (x ∷ []))
shared_more p q d w h x j =
    let m = one_more p q d w x j in
    let i : In p q (w ++ (x ∷ [])) = all_append (union (owns p) (owns q)) w (x ∷ []) h.0 (or_l (owns q x) j, tt) in
    (λ k. rw m.0 at k.1, λ k. (i, rw m.0 k, rw m.1 h.2))

module _ (p q : Process) (d : Apart (owns p) (owns q)) where
  -- a run of both: each part of it is a run of its process
  pub both→ : (w : List ℕ) → Both (Whole p) (Whole q) w → In p q w × Whole p (only (owns p) w) × Whole q (only (owns q) w)
  both→ w (u, v, hu, hv, m) =
      let a = inside p u hu in
      let c = inside q v hv in
      (mix_all (owns p) (owns q) m a c, rw (mix_l (owns p) (owns q) d m a c) hu, rw (mix_r (owns p) (owns q) d m a c) hv)

  pub both← : (w : List ℕ) → In p q w × Whole p (only (owns p) w) × Whole q (only (owns q) w) → Both (Whole p) (Whole q) w
  both← w (i, hu, hv) = (only (owns p) w, only (owns q) w, hu, hv, mix_make (owns p) (owns q) d w i)

  pub shared→ : (w x : List ℕ) → Both (Whole p) (Whole q) (w ++ x) → Shared p q w
  shared→ w x h =
      let m = both→ (w ++ x) h in
      (all_left (union (owns p) (owns q)) w x m.0, (only (owns p) x, rw (only_append (owns p) w x) at m.1), (only (owns q) x, rw (only_append (owns q) w x) at m.2))

  pub shared← : (w : List ℕ) → Shared p q w → (x : List ℕ) × Both (Whole p) (Whole q) (w ++ x)
  shared← w (i, (x, hx), (y, hy)) =
      let ax : All (owns p) x = all_right (owns p) (only (owns p) w) x (inside p (only (owns p) w ++ x) hx) in
      let ay : All (owns q) y = all_right (owns q) (only (owns q) w) y (inside q (only (owns q) w ++ y) hy) in
      let k : In p q (x ++ y) = all_append (union (owns p) (owns q)) x y (all_in_l (owns p) (owns q) x ax) (all_in_r (owns p) (owns q) y ay) in (
        x ++ y,
        both← (w ++ (x ++ y)) (
          all_append (union (owns p) (owns q)) w (x ++ y) i k,
          rw (only_append (owns p) w (x ++ y), own_l p q d x y ax ay) hx,
          rw (only_append (owns q) w (x ++ y), own_r p q d x y ax ay) hy,
        ),
      )

  pub and_shared : (w : List ℕ) → Begins (join and p q) w ↔ Shared p q w
  unfolding Whole
  and_shared w = (λ k. shared→ w k.0 k.1, shared← w)

  module _ (G : Good p) (H : Good q) (w : List ℕ) (h : Shared p q w) where
    pub own_part_l : Seen p (after₂ p q w) (only (owns p) w)
    own_part_l = seen_l p q d G w h.1

    pub own_part_r : Seen q (after₂ p q w) (only (owns q) w)
    own_part_r = seen_r p q d H w h.2

    and_ends : Whole (join and p q) w ↔ (complete (join and p q) (after₂ p q w) ≡ true)
    unfolding Whole complete
    and_ends = Iff.trans (λ k. let m = both→ w k in (m.1, m.2), λ k. both← w (h.0, k.0, k.1))
        (both_tests (complete p (after₂ p q w)) (complete q (after₂ p q w)) own_part_l.ends own_part_r.ends)

    -- the next event is looked at in its own process
    pub shared_goes_on : (x : ℕ) → union (owns p) (owns q) x ≡ true
        → Shared p q (w ++ (x ∷ [])) ↔ (cond (owns p x) (enabled p (after₂ p q w) x) (enabled q (after₂ p q w) x) ≡ true)
    shared_goes_on x i = go (cases (owns p x))
      where
        go : (owns p x ≡ true) ⊎ (owns p x ≡ false)
            → Shared p q (w ++ (x ∷ [])) ↔ (cond (owns p x) (enabled p (after₂ p q w) x) (enabled q (after₂ p q w) x) ≡ true)
        go (inl j) = rw j (Iff.trans (shared_more p q d w h x j) (own_part_l.goes_on x j))
        go (inr j) =
            let o : owns q x ≡ true = rw j at i in
            let v = w ++ (x ∷ []) in
            rw j (Iff.trans (shared_swap p q v, shared_swap q p v) (Iff.trans (shared_more q p (apart_sym d) w (shared_swap p q w h) x o) (own_part_r.goes_on x o)))

  pub and_good : Good p → Good q → Good (join and p q)
  unfolding Whole owns clears begun complete enabled
  and_good G H w h =
      let k = (and_shared w).0 h in
      record {
        begins = begins₂ p q d w k.0 (own_part_l G H w k) (own_part_r G H w k);
        ends = and_ends G H w k;
        goes_on = λ x i. Iff.trans (and_shared (w ++ (x ∷ []))) (shared_goes_on G H w k x i);
      }
