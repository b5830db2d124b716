-- An event of a diagram without replicators has no values.
use mathlib.Core.Path.{◌≡◌, refl, sym}
use mathlib.Core.Bool.{Bool, true, false, false≢true}
use mathlib.Core.List.{List, [], ◌∷◌}
use Prim.Native.Nat.{ℕ, suc, ◌+◌}
use Rattle.base.proofs.Truth.{by_cases}
use Rattle.diagram.specs.Tree.{Name, Way, all, some, one, Flow, flow, Children, none, next, Child, plain, loop, group, replicator, Member, leaf, inner, Members, end, also}
use Rattle.diagram.specs.Count.{member_nodes, flow_events, child_events, member_events}
use Rattle.diagram.specs.TreeNodes.{ShownNode, shown_as, shown, group_kind, flow_tree_nodes, children_tree_nodes, child_tree_nodes, member_tree_nodes, members_tree_nodes}
use Rattle.diagram.specs.Replicators.{some_replicates}
use Rattle.process.specs.Process.{Joint, seq, Process, join, rounds, owns, event_of, Event}
use Rattle.process.specs.Expand.{reset_of, joint, expand, flow_process, children_process, child_process, loop_process, member_process, members_process}
use Rattle.modelling.specs.Profile.{in_profile}
use Rattle.modelling.proofs.Profile.{no_replicators}

abbrev Valued : Process → List ℕ → Type 0
Valued p vs = (x : ℕ) → (event_of p x).values ≡ vs

join_valued : (j : Joint) (p q : Process) (vs : List ℕ) → Valued p vs → Valued q vs → Valued (join j p q) vs
unfolding event_of
join_valued j p q vs hp hq x = by_cases (owns p x) (λ t. rw t (hp x)) (λ t. rw t (hq x))

rounds_valued : (p : Process) (r : ℕ) (l : Event) (vs : List ℕ) → Valued p vs → l.values ≡ vs → Valued (rounds p r l) vs
unfolding event_of
rounds_valued p r l vs hp h x = by_cases (owns p x) (λ t. rw t (hp x)) (λ t. rw t h)

-- The nodes that a part adds to those after it have no replicator: so its events have the values of the copy that it stands in, and none stands among those after it.
abbrev Bare : Process → List ℕ → List ShownNode → Type 0
Bare p vs more = Valued p vs × (some_replicates more ≡ false)

-- `and`, `or` and `xor` are no replicators.
no_replicator : (y : Way) (b : Bool) (d : ℕ) (more : List ShownNode) → some_replicates (shown_as (group_kind y) b false d [] ∷ more) ≡ false
    → some_replicates more ≡ false
unfolding some_replicates
no_replicator all b d more h = h
no_replicator some b d more h = h
no_replicator one b d more h = h

mutual
  unfolding flow_process flow_tree_nodes some_replicates event_of

  flow_bare : (f : Flow) (a : List Name) (b : Bool) (d i : ℕ) (more : List ShownNode)
      → some_replicates (flow_tree_nodes shown f a b d i more) ≡ false → (vs : List ℕ) (e : ℕ)
      → Bare (flow_process f vs e) vs more
  flow_bare (flow n ps sw c r cs) a b d i more h vs e =
      let k = child_bare c a r (suc d) (suc i) _ h vs e in
      children_bare cs a (suc d) _ more k.1 vs (child_process c vs e) (e + child_events c) k.0

  children_bare : (cs : Children) (a : List Name) (d i : ℕ) (more : List ShownNode)
      → some_replicates (children_tree_nodes shown cs a d i more) ≡ false → (vs : List ℕ) (p : Process) (e : ℕ)
      → Valued p vs → Bare (children_process cs vs p e) vs more
  children_bare none a d i more h vs p e P = (P, h)
  children_bare (next c r cs) a d i more h vs p e P =
      let k = child_bare c a r d i _ h vs e in
      children_bare cs a d _ more k.1 vs (join seq p (child_process c vs e)) (e + child_events c) (join_valued seq p (child_process c vs e) vs P k.0)

  child_bare : (c : Child) (a : List Name) (b : Bool) (d i : ℕ) (more : List ShownNode)
      → some_replicates (child_tree_nodes shown c a b d i more) ≡ false → (vs : List ℕ) (e : ℕ)
      → Bare (child_process c vs e) vs more
  child_bare (plain m) a b d i more h vs e = member_bare m a b d i more h vs e
  child_bare (loop m) a b d i more h vs e = loop_bare m a false (suc d) (suc i) more h vs e
  child_bare (group y m z ms) a b d i more h vs e =
      let j = suc i + member_nodes m in
      let later = member_tree_nodes shown z a false (suc d) j (members_tree_nodes shown ms a (suc d) (j + member_nodes z) more) in
      let k = member_bare m a false (suc d) (suc i) later (no_replicator y b d (member_tree_nodes shown m a false (suc d) (suc i) later) h) vs e in
      let l = member_bare z a false (suc d) _ _ k.1 vs (e + member_events m) in
      let p = member_process m vs e in
      let q = member_process z vs (e + member_events m) in
      members_bare ms a (suc d) _ more l.1 (joint y) vs (join (joint y) p q) (e + member_events m + member_events z) (join_valued (joint y) p q vs k.0 l.0)
  child_bare (replicator all par size m) a b d i more h vs e = absurd (false≢true (sym h))
  child_bare (replicator some par size m) a b d i more h vs e = absurd (false≢true (sym h))
  child_bare (replicator one par size m) a b d i more h vs e = absurd (false≢true (sym h))

  loop_bare : (m : Member) (a : List Name) (b : Bool) (d i : ℕ) (more : List ShownNode)
      → some_replicates (member_tree_nodes shown m a b d i more) ≡ false → (vs : List ℕ) (e : ℕ)
      → Bare (loop_process m vs e) vs more
  loop_bare (leaf n) a b d i more h vs e = (λ x. refl, h)
  loop_bare (inner f) a b d i more h vs e =
      let k = flow_bare f a b d i more h vs e in
      (rounds_valued (flow_process f vs e) (e + flow_events f) (reset_of f vs) vs k.0 refl, k.1)

  member_bare : (m : Member) (a : List Name) (b : Bool) (d i : ℕ) (more : List ShownNode)
      → some_replicates (member_tree_nodes shown m a b d i more) ≡ false → (vs : List ℕ) (e : ℕ)
      → Bare (member_process m vs e) vs more
  member_bare (leaf n) a b d i more h vs e = (λ x. refl, h)
  member_bare (inner f) a b d i more h vs e = flow_bare f a b d i more h vs e

  members_bare : (ms : Members) (a : List Name) (d i : ℕ) (more : List ShownNode) → some_replicates (members_tree_nodes shown ms a d i more) ≡ false
      → (j : Joint) (vs : List ℕ) (p : Process) (e : ℕ)
      → Valued p vs → Bare (members_process ms j vs p e) vs more
  members_bare end a d i more h j vs p e P = (P, h)
  members_bare (also m ms) a d i more h j vs p e P =
      let k = member_bare m a false d i _ h vs e in
      members_bare ms a d _ more k.1 j vs (join j p (member_process m vs e)) (e + member_events m) (join_valued j p (member_process m vs e) vs P k.0)

pub no_values : (d : Flow) → in_profile d ≡ true → (x : ℕ) → (event_of (expand d) x).values ≡ []
no_values d p = (flow_bare d [] false 1 0 [] (no_replicators d p) [] 0).0
