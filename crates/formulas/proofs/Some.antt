-- Every event of a diagram that keeps the rules has at least one guard: the solid child of a flow either stands before an event, and has to be complete then,
-- or has the event in it.
use mathlib.Core.Path.{◌≡◌, refl}
use mathlib.Core.Logic.{◌⊎◌, inl, inr, ⊎_elim, ⊎_map}
use mathlib.Core.Bool.{Bool, true, false, ◌&&◌, false≢true}
use mathlib.Core.List.{List, [], ◌∷◌, ◌++◌, cons≢nil, append-eq-nil_iff}
use Prim.Native.Nat.{ℕ, zero, suc, ◌+◌, ◌-◌, ◌*◌}
use Rattle.base.proofs.Truth.{and_l, and_r, by_cases}
use Rattle.diagram.specs.Tree.{all, some, one, Flow, flow, Children, none, next, Child, plain, loop, group, replicator, Member, leaf, inner, Members, end, also}
use Rattle.diagram.specs.Count.{child_events, member_events}
use Rattle.diagram.specs.Rules.{Keeps}
use Rattle.diagram.specs.Flows.{may_be_solid, none_solid, one_solid, solid, each_flow, children_flows, child_flows, member_flows}
use Rattle.process.specs.Process.{Event, seq, and, or, xor, Process, event, join, again, rounds, owns}
use Rattle.process.specs.Expand.{expand, leaf_copy, copies, flow_process, children_process, child_process, member_process, members_process}
use Rattle.process.specs.Runs.{Whole, done, stop}
use Rattle.process.proofs.Seen.{Nonempty}
use Rattle.process.proofs.Choices.{seq_nonempty}
use Rattle.process.proofs.Expanded.{child_fit}
use Rattle.formulas.specs.Conditions.{Condition, always, when, meet, choice, complete_when, settled_when, guarded, conditions}

-- ---- a process that is always complete has the empty run
meet_always : (c d : Condition) → guarded (meet c d) ≡ [] → (guarded c ≡ []) × (guarded d ≡ [])
meet_always always d h = (refl, h)
meet_always (when f) always h = (h, refl)
meet_always (when f) (when g) h = absurd (cons≢nil h)

choice_always : (c d : Condition) → guarded (choice c d) ≡ [] → (guarded c ≡ []) ⊎ (guarded d ≡ [])
choice_always always d h = inl refl
choice_always (when f) always h = inr refl
choice_always (when f) (when g) h = absurd (cons≢nil h)

always_complete : (p : Process) → guarded (complete_when p) ≡ [] → Whole p []
unfolding complete_when Whole
always_complete (event n l) h = absurd (cons≢nil h)
always_complete (join seq p q) h =
    let k = meet_always (complete_when p) (complete_when q) h in
    ([], [], always_complete p k.0, always_complete q k.1, refl)
always_complete (join and p q) h =
    let k = meet_always (complete_when p) (complete_when q) h in
    ([], [], always_complete p k.0, always_complete q k.1, done)
always_complete (join or p q) h = absurd (cons≢nil (meet_always (when _) (meet (settled_when p) (settled_when q)) h).0)
always_complete (join xor p q) h = go (choice_always (complete_when p) (complete_when q) h) (always_complete p) (always_complete q)
  where
    go : (guarded (complete_when p) ≡ []) ⊎ (guarded (complete_when q) ≡ []) → (guarded (complete_when p) ≡ [] → Whole p [])
        → (guarded (complete_when q) ≡ [] → Whole q []) → Whole p [] ⊎ Whole q []
    go (inl k) f g = inl (f k)
    go (inr k) f g = inr (g k)
always_complete (again n l) h = tt
always_complete (rounds p r l) h = ([], [], stop, inl refl, refl)

-- ---- processes whose events each have a guard
abbrev Guarded : Process → Type 0
Guarded p = (x : ℕ) → conditions p x ≡ [] → ⊥

event_guarded : (n : ℕ) (l : Event) → Guarded (event n l)
unfolding conditions
event_guarded n l x = cons≢nil

xor_guarded : (p q : Process) → Guarded (join xor p q)
unfolding conditions
xor_guarded p q x h = by_cases (owns p x) (λ o. cons≢nil (rw o at h)) (λ o. cons≢nil (rw o at h))

-- A first part that has no empty run is to be complete before the second.
seq_guarded : (p q : Process) → Nonempty p ⊎ Guarded q → Guarded (join seq p q)
unfolding conditions
seq_guarded p q s x h = by_cases (owns p x) (λ o. cons≢nil (rw o at h)) (λ o. go s (append-eq-nil_iff.0 (rw o at h)))
  where
    go : Nonempty p ⊎ Guarded q → (guarded (complete_when p) ≡ []) × (conditions q x ≡ []) → ⊥
    go (inl n) k = n (always_complete p k.0)
    go (inr g) k = g x k.1

copies_guarded : (copy : ℕ → Process) → Guarded (copy 0) → (last : ℕ) → Guarded (copies xor copy last)
copies_guarded copy g zero = g
copies_guarded copy g (suc last) = xor_guarded (copies xor copy last) (copy (suc last))

members_guarded : (ms : Members) (vs : List ℕ) (p : Process) (e : ℕ) → Guarded p → Guarded (members_process ms xor vs p e)
unfolding members_process
members_guarded end vs p e g = g
members_guarded (also m ms) vs p e g = members_guarded ms vs (join xor p (member_process m vs e)) (e + member_events m) (xor_guarded p (member_process m vs e))

-- ---- diagrams
-- What a solid child is: it has no empty run, and each of its events has a guard.
abbrev Firm : Process → Type 0
Firm p = Nonempty p × Guarded p

seq_firm : (p q : Process) → Firm p ⊎ Firm q → Firm (join seq p q)
seq_firm p q (inl (n, g)) = (seq_nonempty p q (inl n), seq_guarded p q (inl n))
seq_firm p q (inr (n, g)) = (seq_nonempty p q (inr n), seq_guarded p q (inr g))

-- Of a child and those after it exactly one is solid: it is the child, or it is still to come.
solid_or_later : (c : Child) (r : Bool) (cs : Children) → one_solid (next c r cs) ≡ true → (may_be_solid c ≡ true) ⊎ (one_solid cs ≡ true)
solid_or_later c true cs h = inl (and_l (may_be_solid c) (none_solid cs) h)
solid_or_later c false cs h = inr h

mutual
  unfolding flow_process each_flow

  flow_guarded : (f : Flow) → each_flow f solid ≡ true → (vs : List ℕ) (e : ℕ) → Guarded (flow_process f vs e)
  flow_guarded (flow n ps sw c r cs) h vs e =
      let k = and_r (one_solid (next c r cs)) (child_flows c solid && children_flows cs solid) h in
      let i = and_l (child_flows c solid) (children_flows cs solid) k in
      children_guarded cs (and_r (child_flows c solid) (children_flows cs solid) k) vs (child_process c vs e) (e + child_events c)
      (⊎_map (λ m. ((child_fit c i vs e).1 m, child_guarded c i vs e m)) (λ l. l)
      (solid_or_later c r cs (and_l (one_solid (next c r cs)) (child_flows c solid && children_flows cs solid) h)))

  children_guarded : (cs : Children) → children_flows cs solid ≡ true → (vs : List ℕ) (p : Process) (e : ℕ) → Firm p ⊎ (one_solid cs ≡ true)
      → Guarded (children_process cs vs p e)
  children_guarded none h vs p e (inl (n, g)) = g
  children_guarded none h vs p e (inr s) = absurd (false≢true s)
  children_guarded (next c r cs) h vs p e s =
      let i = and_l (child_flows c solid) (children_flows cs solid) h in
      children_guarded cs (and_r (child_flows c solid) (children_flows cs solid) h) vs (join seq p (child_process c vs e)) (e + child_events c)
      (⊎_elim (λ F. inl (seq_firm p _ (inl F)))
      (λ o. ⊎_map (λ m. seq_firm p _ (inr ((child_fit c i vs e).1 m, child_guarded c i vs e m))) (λ l. l) (solid_or_later c r cs o)) s)

  child_guarded : (c : Child) → child_flows c solid ≡ true → (vs : List ℕ) (e : ℕ) → may_be_solid c ≡ true → Guarded (child_process c vs e)
  child_guarded (plain m) h vs e s = member_guarded m h vs e
  child_guarded (loop m) h vs e s = absurd (false≢true s)
  child_guarded (group all a b ms) h vs e s = absurd (false≢true s)
  child_guarded (group some a b ms) h vs e s = absurd (false≢true s)
  child_guarded (group one a b ms) h vs e s = members_guarded ms vs _ _ (xor_guarded (member_process a vs e) (member_process b vs (e + member_events a)))
  child_guarded (replicator all par size m) h vs e s = absurd (false≢true s)
  child_guarded (replicator some par size m) h vs e s = absurd (false≢true s)
  child_guarded (replicator one par size m) h vs e s =
      copies_guarded (λ v. member_process m (vs ++ (v ∷ [])) (e + v * member_events m)) (member_guarded m h (vs ++ (0 ∷ [])) (e + 0 * member_events m)) (size - 1)

  member_guarded : (m : Member) → member_flows m solid ≡ true → (vs : List ℕ) (e : ℕ) → Guarded (member_process m vs e)
  member_guarded (leaf n) h vs e = event_guarded e (leaf_copy n vs)
  member_guarded (inner f) h vs e = flow_guarded f h vs e

-- An event of a diagram that keeps the rules has a guard.
pub some_guard : (d : Flow) → Keeps d → (e : ℕ) → (conditions (expand d) e ≡ [] → ⊥)
some_guard d k e = flow_guarded d k.solids [] 0 e
