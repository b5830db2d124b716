-- Card 1 of document 02 only adds runs, those with resets left out: what was whole by document 01 alone, where every round has its reset, still is,
-- and every whole run is one of those without some of its resets.
use mathlib.Core.Path.{◌≡◌, refl, sym, ◌∙◌}
use mathlib.Core.Logic.{inl, inr}
use mathlib.Core.Bool.{Bool, true, false, ◌&&◌, ◌||◌, cond}
use mathlib.Core.List.{List, [], ◌∷◌, ◌++◌, append-nil, cons≢nil, head-eq_of_cons-eq, tail-eq_of_cons-eq}
use Prim.Native.Nat.{ℕ, ◌+◌}
use native.Mathlib.Omega.{arith}
use lib.Dec.{eqb}
use borrow.Author.Tests.{eq-eqb}
use Rattle.base.proofs.Truth.{is_false, and_i, and_l, and_r, or_l, or_r}
use Rattle.diagram.specs.Tree.{Flow}
use Rattle.diagram.specs.Count.{flow_events}
use Rattle.diagram.specs.Drawings.{U}
use Rattle.diagram.specs.Sizes.{flow_sized}
use Rattle.process.specs.Process.{Event, Joint, seq, and, or, xor, Process, event, join, again, rounds, owns, event_of}
use Rattle.process.specs.Expand.{expand, flow_process}
use Rattle.process.specs.Runs.{Runs, Then, Mix, done, left, right, Rounds, stop, more, Loop, Joined, Whole, Begins}
use Rattle.process.specs.Before.{WholeBefore, LeavesOut, empty, keep, omit}
use Rattle.process.proofs.RoundsLaw.{rounds_append, rounds_one}
use Rattle.process.proofs.Joins.{Under, joined_under}
use Rattle.process.proofs.Lists.{Apart}
use Rattle.process.proofs.Numbered.{size, Numbered, apart, reset_out}
use Rattle.process.proofs.Labels.{Marked, flow_marked}
use Rattle.process.proofs.Events.{expand_laid}

rounds_wider : {A B : Runs} {r : ℕ} → Under A B → {w : List ℕ} → Rounds A r w → Rounds B r w
rounds_wider f stop = stop
rounds_wider f (more u v hu hv e) = more u v (f u hu) (rounds_wider f hv) e

pub still_whole : (p : Process) → Under (WholeBefore p) (Whole p)
unfolding WholeBefore Whole
still_whole (event n l) w h = h
still_whole (join j p q) w h = joined_under j (still_whole p) (still_whole q) w h
still_whole (again n l) w h = h
still_whole (rounds p r l) w h = (w, [], rounds_wider (still_whole p) h, inl refl, sym (append-nil w))

-- What began a whole run begins one still: a unit that takes every reset is let through as before.
pub still_begins : (p : Process) (w v : List ℕ) → WholeBefore p (w ++ v) → Begins p w
still_begins p w v h = (v, still_whole p (w ++ v) h)

-- ---- what the card lets be left out
out_same : (I : ℕ → Bool) (w : List ℕ) → LeavesOut I w w
out_same I [] = empty
out_same I (x ∷ w) = keep (out_same I w)

out_more : {I J : ℕ → Bool} {w v : List ℕ} → ((x : ℕ) → I x ≡ true → J x ≡ true) → LeavesOut I w v → LeavesOut J w v
out_more f empty = empty
out_more f (keep h) = keep (out_more f h)
out_more f (omit t h) = omit (f _ t) (out_more f h)

out_append : {I : ℕ → Bool} {a b c d : List ℕ} → LeavesOut I a c → LeavesOut I b d → LeavesOut I (a ++ b) (c ++ d)
out_append empty k = k
out_append (keep h) k = keep (out_append h k)
out_append (omit t h) k = omit t (out_append h k)

out_mix : {I : ℕ → Bool} {a b c d w : List ℕ} → LeavesOut I a c → LeavesOut I b d → Mix a b w → (v : List ℕ) × Mix c d v × LeavesOut I w v
out_mix (omit t h) k m = let r = out_mix h k m in (_ ∷ r.0, left r.1, omit t r.2)
out_mix empty (omit t k) m = let r = out_mix empty k m in (_ ∷ r.0, right r.1, omit t r.2)
out_mix empty empty done = ([], done, empty)
out_mix empty (keep k) (right m) = let r = out_mix empty k m in (_ ∷ r.0, right r.1, keep r.2)
out_mix (keep h) (omit t k) m = let r = out_mix (keep h) k m in (_ ∷ r.0, right r.1, omit t r.2)
out_mix (keep h) empty (left m) = let r = out_mix h empty m in (_ ∷ r.0, left r.1, keep r.2)
out_mix (keep h) (keep k) (left m) = let r = out_mix h (keep k) m in (_ ∷ r.0, left r.1, keep r.2)
out_mix (keep h) (keep k) (right m) = let r = out_mix (keep h) k m in (_ ∷ r.0, right r.1, keep r.2)

-- Every run of the first set is one of the second with elements left out that pass the test.
abbrev Filled : (ℕ → Bool) → Runs → Runs → Type 0
Filled I A B = (w : List ℕ) → A w → (v : List ℕ) × B v × LeavesOut I w v

filled_more : {I J : ℕ → Bool} {A B : Runs} → ((x : ℕ) → I x ≡ true → J x ≡ true) → Filled I A B → Filled J A B
filled_more f g w h = let (v, k, o) = g w h in (v, k, out_more f o)

joined_filled : (j : Joint) {I : ℕ → Bool} {A B C D : Runs} → Filled I A C → Filled I B D → Filled I (Joined j A B) (Joined j C D)
joined_filled seq f g w (u, v, hu, hv, e) =
    let (a, ha, oa) = f u hu in let (b, hb, ob) = g v hv in (a ++ b, (a, b, ha, hb, refl), rw e (out_append oa ob))
joined_filled and f g w (u, v, hu, hv, m) =
    let (a, ha, oa) = f u hu in let (b, hb, ob) = g v hv in let (x, n, o) = out_mix oa ob m in (x, (a, b, ha, hb, n), o)
joined_filled or f g w (inl (inl h)) = let (a, ha, oa) = f w h in (a, inl (inl ha), oa)
joined_filled or f g w (inl (inr h)) = let (b, hb, ob) = g w h in (b, inl (inr hb), ob)
joined_filled or f g w (inr (u, v, hu, hv, m)) =
    let (a, ha, oa) = f u hu in let (b, hb, ob) = g v hv in let (x, n, o) = out_mix oa ob m in (x, inr (a, b, ha, hb, n), o)
joined_filled xor f g w (inl h) = let (a, ha, oa) = f w h in (a, inl ha, oa)
joined_filled xor f g w (inr h) = let (b, hb, ob) = g w h in (b, inr hb, ob)

rounds_filled : {I : ℕ → Bool} {A B : Runs} {r : ℕ} → Filled I A B → {w : List ℕ} → Rounds A r w → (v : List ℕ) × Rounds B r v × LeavesOut I w v
rounds_filled f stop = ([], stop, empty)
rounds_filled {r = r} f (more u v hu hv e) =
    let (a, ha, oa) = f u hu in
    let (b, hb, ob) = rounds_filled f hv in
    (a ++ (r ∷ b), more a b ha hb refl, rw e (out_append oa (keep ob)))

-- The further run is a round whose reset was left out.
loop_filled : {I : ℕ → Bool} {A B : Runs} {r : ℕ} → I r ≡ true → Filled I A B → Filled I (Loop A r) (Rounds B r)
loop_filled t f w (u, v, hu, inl h, e) = let (a, ha, oa) = rounds_filled f hu in (a, ha, rw (e, h, append-nil) oa)
loop_filled {B = B} {r = r} t f w (u, v, hu, inr h, e) =
    let (a, ha, oa) = rounds_filled f hu in
    let (b, hb, ob) = f v h in
    (a ++ (b ++ (r ∷ [])), rounds_append B r (b ++ (r ∷ [])) ha (rounds_one B r b hb), rw e (out_append oa (rw append-nil at (out_append ob (omit t empty)))))

-- It is an event of the process, and marked as a reset.
abbrev reset? : Process → ℕ → Bool
reset? p x = owns p x && (event_of p x).reset

-- A reset of a part is one of the whole, whatever event stands elsewhere.
reset_first : (p : Process) (x : ℕ) (elsewhere : Bool) (e : Event) → reset? p x ≡ true
    → ((owns p x || elsewhere) && (cond (owns p x) (event_of p x) e).reset) ≡ true
reset_first p x elsewhere e h = let o = and_l (owns p x) _ h in and_i (or_l elsewhere o) (rw o (and_r (owns p x) _ h))

reset_second : (j : Joint) (p q : Process) → Apart (owns p) (owns q) → (x : ℕ) → reset? q x ≡ true → reset? (join j p q) x ≡ true
unfolding owns event_of
reset_second j p q d x h =
    let o = and_l (owns q x) _ h in
    and_i (or_r (owns p x) o) (rw (is_false (owns p x) (λ k. d x k o)) (and_r (owns q x) _ h))

reset_own : (p : Process) (r : ℕ) (l : Event) → owns p r ≡ false → l.reset ≡ true → reset? (rounds p r l) r ≡ true
unfolding owns event_of
reset_own p r l out m = and_i (or_r (owns p r) (eq-eqb r r refl)) (rw out m)

filled : (p : Process) (lo : ℕ) → Numbered p lo → Marked p → Filled (reset? p) (Whole p) (WholeBefore p)
unfolding owns event_of WholeBefore Whole Numbered Marked
filled (event n l) lo m t w h = (w, h, out_same (reset? (event n l)) w)
filled (join j p q) lo m t w h =
    joined_filled j (filled_more (λ x k. reset_first p x (owns q x) (event_of q x) k) (filled p lo m.0 t.0))
    (filled_more (reset_second j p q (apart p q lo m.0 m.1)) (filled q (lo + size p) m.1 t.1)) w h
filled (again n l) lo m t w h = (w, h, out_same (reset? (again n l)) w)
filled (rounds p r l) lo m t w h =
    loop_filled (reset_own p r l (reset_out p lo r m.0 m.1) t.1)
    (filled_more (λ x k. reset_first p x (eqb r x) l k) (filled p lo m.0 t.0)) w h

-- Every whole run of a diagram is one of before in which resets were left out.
pub resets_left_out : (d : Flow) → flow_sized d ≡ true → (w : List ℕ) → Whole (expand d) w
    → (v : List ℕ) × WholeBefore (expand d) v × LeavesOut (λ x. (event_of (expand d) x).reset) w v
resets_left_out d h =
    filled_more (λ x t. and_r (owns (expand d) x) _ t) (filled (expand d) 0 (expand_laid d h).numbered (flow_marked d [] 0))

-- ---- U
-- U: "0 1 2 3 remains whole".
pub remains_whole : WholeBefore (expand U) (0 ∷ 1 ∷ 2 ∷ 3 ∷ []) × Whole (expand U) (0 ∷ 1 ∷ 2 ∷ 3 ∷ [])
unfolding WholeBefore flow_process flow_events
remains_whole =
    let before : WholeBefore (expand U) (0 ∷ 1 ∷ 2 ∷ 3 ∷ []) =
    (0 ∷ 1 ∷ 2 ∷ [], 3 ∷ [], more (0 ∷ 1 ∷ []) [] (0 ∷ [], 1 ∷ [], refl, refl, refl) stop refl, refl, refl) in
    (before, still_whole (expand U) (0 ∷ 1 ∷ 2 ∷ 3 ∷ []) before)

-- U: "0 1 3 becomes whole". By document 01 alone it was not: no reset stands before 3.
abbrev Body : Runs
Body = Then (λ w. w ≡ 0 ∷ []) (λ w. w ≡ 1 ∷ [])

no_reset : {u : List ℕ} → Rounds Body 2 u → (0 ∷ 1 ∷ 3 ∷ []) ≡ u ++ (3 ∷ []) → ⊥
no_reset stop e = cons≢nil (tail-eq_of_cons-eq e)
no_reset (more a c (x, y, hx, hy, k) hc f) e =
    let g : (0 ∷ 1 ∷ 3 ∷ []) ≡ 0 ∷ 1 ∷ 2 ∷ (c ++ (3 ∷ [])) = e ∙ rw (f, k, hx, hy) refl in
    omega (arith, head-eq_of_cons-eq (tail-eq_of_cons-eq (tail-eq_of_cons-eq g)))

pub becomes_whole : Whole (expand U) (0 ∷ 1 ∷ 3 ∷ []) × (WholeBefore (expand U) (0 ∷ 1 ∷ 3 ∷ []) → ⊥)
unfolding WholeBefore Whole flow_process flow_events
becomes_whole = (
  (0 ∷ 1 ∷ [], 3 ∷ [], ([], 0 ∷ 1 ∷ [], stop, inr (0 ∷ [], 1 ∷ [], refl, refl, refl), refl), refl, refl),
  λ (u, v, hu, hv, e). no_reset hu (e ∙ rw hv refl),
)
