-- The nodes of a tree as they are shown: how many there are, and how deep the first is.
use mathlib.Core.Path.{◌≡◌, refl, sym, ◌∙◌, ap}
use mathlib.Core.Bool.{Bool, false}
use mathlib.Core.List.{List, ◌∷◌}
use Prim.Native.Nat.{ℕ, suc, ◌+◌, ◌≤◌}
use native.Mathlib.Omega.{arith}
use lib.ListN.{drop}
use lib.Seq.{drop-drop}
use Rattle.diagram.specs.Tree.{Name, Flow, flow, Children, none, next, Child, plain, loop, group, replicator, Member, leaf, inner, Members, end, also}
use Rattle.diagram.specs.Count.{flow_nodes, children_nodes, child_nodes, member_nodes, members_nodes}
use Rattle.diagram.specs.TreeNodes.{ShownNode, shown, flow_tree_nodes, children_tree_nodes, child_tree_nodes, member_tree_nodes, members_tree_nodes}
use Rattle.expansion.proofs.ShownNodes.{shown_depth, first}

-- What stands in a list from a place on.
drop_one : {rest : List ShownNode} (l : List ShownNode) (n : ℕ) (v : ShownNode) → drop n l ≡ rest → drop (1 + n) (v ∷ l) ≡ rest
drop_one l n v h = let e : 1 + n ≡ suc n = omega arith in rw e h

pub drop_both : (l : List ShownNode) (n k : ℕ) {mid rest : List ShownNode} → drop n l ≡ mid → drop k mid ≡ rest → drop (n + k) l ≡ rest
drop_both l n k h g = sym (drop-drop k n l) ∙ (ap (drop k) h ∙ g)

-- After as many shown nodes as a tree has stand those that come after it.
mutual
  unfolding flow_tree_nodes flow_nodes

  pub flow_past : (f : Flow) (a : List Name) (b : Bool) (d i : ℕ) (vs : List ShownNode) → drop (flow_nodes f) (flow_tree_nodes shown f a b d i vs) ≡ vs
  flow_past (flow n ps sw c r cs) a b d i vs =
      drop_one _ (child_nodes c + children_nodes cs) _
      (drop_both _ (child_nodes c) (children_nodes cs) (child_past c a r (suc d) _ _) (children_past cs a (suc d) _ vs))

  pub children_past : (cs : Children) (a : List Name) (d i : ℕ) (vs : List ShownNode) → drop (children_nodes cs) (children_tree_nodes shown cs a d i vs) ≡ vs
  children_past none a d i vs = refl
  children_past (next c r cs) a d i vs =
      drop_both _ (child_nodes c) (children_nodes cs) (child_past c a r d i _) (children_past cs a d _ vs)

  pub child_past : (c : Child) (a : List Name) (b : Bool) (d i : ℕ) (vs : List ShownNode) → drop (child_nodes c) (child_tree_nodes shown c a b d i vs) ≡ vs
  child_past (plain m) a b d i vs = member_past m a b d i vs
  child_past (loop m) a b d i vs = drop_one _ (member_nodes m) _ (member_past m _ false (suc d) _ vs)
  child_past (group y m e ms) a b d i vs =
      drop_one _ (member_nodes m + (member_nodes e + members_nodes ms)) _
      (drop_both _ (member_nodes m) (member_nodes e + members_nodes ms)
      (member_past m a false (suc d) _ _)
      (drop_both _ (member_nodes e) (members_nodes ms) (member_past e a false (suc d) _ _) (members_past ms a (suc d) _ vs)))
  child_past (replicator y par size m) a b d i vs = drop_one _ (member_nodes m) _ (member_past m _ false (suc d) _ vs)

  pub member_past : (m : Member) (a : List Name) (b : Bool) (d i : ℕ) (vs : List ShownNode) → drop (member_nodes m) (member_tree_nodes shown m a b d i vs) ≡ vs
  member_past (leaf n) a b d i vs = refl
  member_past (inner f) a b d i vs = flow_past f a b d i vs

  pub members_past : (ms : Members) (a : List Name) (d i : ℕ) (vs : List ShownNode) → drop (members_nodes ms) (members_tree_nodes shown ms a d i vs) ≡ vs
  members_past end a d i vs = refl
  members_past (also m ms) a d i vs =
      drop_both _ (member_nodes m) (members_nodes ms) (member_past m a false d i _) (members_past ms a d _ vs)

-- A tree's first shown node has the depth given.
pub flow_first : (f : Flow) (a : List Name) (b : Bool) (d i : ℕ) (vs : List ShownNode) → first shown_depth (flow_tree_nodes shown f a b d i vs) ≡ d
unfolding flow_tree_nodes
flow_first (flow n ps sw c r cs) a b d i vs = refl

pub member_first : (m : Member) (a : List Name) (b : Bool) (d i : ℕ) (vs : List ShownNode) → first shown_depth (member_tree_nodes shown m a b d i vs) ≡ d
unfolding member_tree_nodes
member_first (leaf n) a b d i vs = refl
member_first (inner f) a b d i vs = flow_first f a b d i vs

pub child_first : (c : Child) (a : List Name) (b : Bool) (d i : ℕ) (vs : List ShownNode) → first shown_depth (child_tree_nodes shown c a b d i vs) ≡ d
unfolding child_tree_nodes
child_first (plain m) a b d i vs = member_first m a b d i vs
child_first (loop m) a b d i vs = refl
child_first (group y m e ms) a b d i vs = refl
child_first (replicator y par size m) a b d i vs = refl

-- The first of what comes after a part is no deeper than the part.
pub children_first : (cs : Children) (a : List Name) (d i : ℕ) (vs : List ShownNode) → first shown_depth vs ≤ d
    → first shown_depth (children_tree_nodes shown cs a d i vs) ≤ d
unfolding children_tree_nodes
children_first none a d i vs h = h
children_first (next c r cs) a d i vs h = omega (arith, child_first c a r d i (children_tree_nodes shown cs a d (i + child_nodes c) vs))

pub members_first : (ms : Members) (a : List Name) (d i : ℕ) (vs : List ShownNode) → first shown_depth vs ≤ d
    → first shown_depth (members_tree_nodes shown ms a d i vs) ≤ d
unfolding members_tree_nodes
members_first end a d i vs h = h
members_first (also m ms) a d i vs h = omega (arith, member_first m a false d i (members_tree_nodes shown ms a d (i + member_nodes m) vs))

-- A part has at least one node.
pub member_some : (m : Member) → 1 ≤ member_nodes m
unfolding member_nodes flow_nodes
member_some (leaf n) = omega arith
member_some (inner (flow n ps sw c r cs)) = omega arith

pub child_some : (c : Child) → 1 ≤ child_nodes c
unfolding child_nodes
child_some (plain m) = member_some m
child_some (loop m) = omega arith
child_some (group y a b ms) = omega arith
child_some (replicator y par size m) = omega arith
