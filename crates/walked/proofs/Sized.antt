-- The nodes of a drawing: no size is over 16.
use mathlib.Core.Path.{◌≡◌}
use mathlib.Core.Bool.{Bool, true, false, ◌&&◌}
use mathlib.Core.List.{List, [], ◌∷◌, ◌++◌}
use Prim.Native.Nat.{ℕ, suc, ◌≤◌}
use native.Mathlib.Omega.{arith}
use lib.Dec.{leb}
use borrow.Author.Tests.{leb-true}
use Rattle.base.proofs.Truth.{and_l, and_r}
use Rattle.diagram.specs.Tree.{Name, Way, all, some, one, Flow, flow, Children, none, next, Child, plain, loop, group, replicator, Member, leaf, inner, Members, end, also}
use Rattle.diagram.specs.Sizes.{flow_sized, children_sized, child_sized, member_sized, members_sized}
use Rattle.diagram.specs.TreeNodes.{TextNode, own, size_of, group_kind, replicator_kind, flow_tree_nodes, children_tree_nodes, child_tree_nodes, member_tree_nodes, members_tree_nodes, nodes_by}
use Rattle.walked.specs.Rows.{Sized}

group_small : (y : Way) → size_of (group_kind y) ≤ 16
group_small all = omega arith
group_small some = omega arith
group_small one = omega arith

replicator_small : (y : Way) (size : ℕ) → size ≤ 16 → size_of (replicator_kind y size) ≤ 16
replicator_small all size h = h
replicator_small some size h = h
replicator_small one size h = h

mutual
  unfolding flow_tree_nodes flow_sized

  flow_small : (f : Flow) (around : List Name) (b : Bool) (d i : ℕ) (hs : List TextNode) → flow_sized f ≡ true → Sized hs
      → Sized (flow_tree_nodes own f around b d i hs)
  flow_small (flow n ps sw c r cs) around b d i hs h a = (
    omega arith,
    child_small c around r (suc d) _ _ (and_l (child_sized c) (children_sized cs) h)
        (children_small cs around (suc d) _ hs (and_r (child_sized c) (children_sized cs) h) a),
  )

  children_small : (cs : Children) (around : List Name) (d i : ℕ) (hs : List TextNode) → children_sized cs ≡ true → Sized hs
      → Sized (children_tree_nodes own cs around d i hs)
  children_small none around d i hs h a = a
  children_small (next c r cs) around d i hs h a =
      child_small c around r d i _ (and_l (child_sized c) (children_sized cs) h)
      (children_small cs around d _ hs (and_r (child_sized c) (children_sized cs) h) a)

  child_small : (c : Child) (around : List Name) (b : Bool) (d i : ℕ) (hs : List TextNode) → child_sized c ≡ true → Sized hs
      → Sized (child_tree_nodes own c around b d i hs)
  child_small (plain m) around b d i hs h a = member_small m around b d i hs h a
  child_small (loop m) around b d i hs h a = (omega arith, member_small m around false (suc d) (suc i) hs h a)
  child_small (group y m o ms) around b d i hs h a =
      let t = and_r (member_sized m) (member_sized o && members_sized ms) h in (
        group_small y,
        member_small m around false (suc d) (suc i) _ (and_l (member_sized m) (member_sized o && members_sized ms) h)
            (member_small o around false (suc d) _ _ (and_l (member_sized o) (members_sized ms) t)
            (members_small ms around (suc d) _ hs (and_r (member_sized o) (members_sized ms) t) a)),
      )
  child_small (replicator y par size m) around b d i hs h a =
      let s = and_l (leb 1 size && leb size 16) (member_sized m) h in (
        replicator_small y size (leb-true size 16 (and_r (leb 1 size) (leb size 16) s)),
        member_small m (around ++ (par ∷ [])) false (suc d) (suc i) hs (and_r (leb 1 size && leb size 16) (member_sized m) h) a,
      )

  member_small : (m : Member) (around : List Name) (b : Bool) (d i : ℕ) (hs : List TextNode) → member_sized m ≡ true → Sized hs
      → Sized (member_tree_nodes own m around b d i hs)
  member_small (leaf n) around b d i hs h a = (omega arith, a)
  member_small (inner f) around b d i hs h a = flow_small f around b d i hs h a

  members_small : (ms : Members) (around : List Name) (d i : ℕ) (hs : List TextNode) → members_sized ms ≡ true → Sized hs
      → Sized (members_tree_nodes own ms around d i hs)
  members_small end around d i hs h a = a
  members_small (also m ms) around d i hs h a =
      member_small m around false d i _ (and_l (member_sized m) (members_sized ms) h)
      (members_small ms around d _ hs (and_r (member_sized m) (members_sized ms) h) a)

pub sized : (d : Flow) → flow_sized d ≡ true → Sized (nodes_by own d)
sized d h = flow_small d [] false 1 0 [] h tt
