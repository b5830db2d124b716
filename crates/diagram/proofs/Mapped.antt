-- What is wanted of each node is applied as the list is made: every list of nodes is a map of another, and all have as many values as the diagram nodes.
use mathlib.Core.Path.{◌≡◌, refl, ap}
use mathlib.Core.Bool.{Bool, false}
use mathlib.Core.List.{List, [], ◌∷◌, ◌++◌, map}
use Prim.Native.Nat.{ℕ, suc, ◌+◌}
use native.Mathlib.Omega.{arith}
use lib.ListN.{length}
use Rattle.diagram.specs.Tree.{Name, Flow, flow, Children, none, next, Child, plain, loop, group, replicator, Member, leaf, inner, Members, end, also}
use Rattle.diagram.specs.Count.{flow_nodes, children_nodes, child_nodes, member_nodes, members_nodes}
use Rattle.diagram.specs.TreeNodes.{TreeNode, nodes_by, flow_tree_nodes, children_tree_nodes, child_tree_nodes, member_tree_nodes, members_tree_nodes}

behind : {B : Type 0} {x : B} {vs ws : List B} → vs ≡ ws → x ∷ vs ≡ x ∷ ws
behind {x = x} e = ap (◌∷◌ x) e

module _ {A B : Type 0} (f : A → B) (g : TreeNode → A) where
  abbrev fg : TreeNode → B
  fg h = f (g h)

  mutual
    unfolding flow_tree_nodes

    pub flow_mapped : (t : Flow) (around : List Name) (b : Bool) (d i : ℕ) (vs : List A) (ws : List B) → map f vs ≡ ws
        → map f (flow_tree_nodes g t around b d i vs) ≡ flow_tree_nodes fg t around b d i ws
    flow_mapped (flow n ps sw c r cs) around b d i vs ws e =
        behind (child_mapped c around r (suc d) (suc i) _ _ (children_mapped cs around (suc d) _ vs ws e))

    pub children_mapped : (cs : Children) (around : List Name) (d i : ℕ) (vs : List A) (ws : List B) → map f vs ≡ ws
        → map f (children_tree_nodes g cs around d i vs) ≡ children_tree_nodes fg cs around d i ws
    children_mapped none around d i vs ws e = e
    children_mapped (next c r cs) around d i vs ws e = child_mapped c around r d i _ _ (children_mapped cs around d _ vs ws e)

    pub child_mapped : (c : Child) (around : List Name) (b : Bool) (d i : ℕ) (vs : List A) (ws : List B) → map f vs ≡ ws
        → map f (child_tree_nodes g c around b d i vs) ≡ child_tree_nodes fg c around b d i ws
    child_mapped (plain m) around b d i vs ws e = member_mapped m around b d i vs ws e
    child_mapped (loop m) around b d i vs ws e = behind (member_mapped m around _ (suc d) (suc i) vs ws e)
    child_mapped (group y m k ms) around b d i vs ws e =
        behind
        (member_mapped m around _ (suc d) (suc i) _ _ (member_mapped k around _ (suc d) _ _ _ (members_mapped ms around (suc d) _ vs ws e)))
    child_mapped (replicator y par size m) around b d i vs ws e = behind (member_mapped m _ _ (suc d) (suc i) vs ws e)

    pub member_mapped : (m : Member) (around : List Name) (b : Bool) (d i : ℕ) (vs : List A) (ws : List B) → map f vs ≡ ws
        → map f (member_tree_nodes g m around b d i vs) ≡ member_tree_nodes fg m around b d i ws
    member_mapped (leaf n) around b d i vs ws e = behind e
    member_mapped (inner t) around b d i vs ws e = flow_mapped t around b d i vs ws e

    pub members_mapped : (ms : Members) (around : List Name) (d i : ℕ) (vs : List A) (ws : List B) → map f vs ≡ ws
        → map f (members_tree_nodes g ms around d i vs) ≡ members_tree_nodes fg ms around d i ws
    members_mapped end around d i vs ws e = e
    members_mapped (also m ms) around d i vs ws e = member_mapped m around _ d i _ _ (members_mapped ms around d _ vs ws e)

pub mapped : {A B : Type 0} (f : A → B) (g : TreeNode → A) (d : Flow) → map f (nodes_by g d) ≡ nodes_by (λ h. f (g h)) d
mapped f g d = flow_mapped f g d [] _ 1 0 [] [] refl

module _ {A : Type 0} (g : TreeNode → A) where
  mutual
    unfolding flow_tree_nodes flow_nodes

    pub flow_counted : (t : Flow) (around : List Name) (b : Bool) (d i : ℕ) (vs : List A)
        → length (flow_tree_nodes g t around b d i vs) ≡ flow_nodes t + length vs
    flow_counted (flow n ps sw c r cs) around b d i vs =
        let us = children_tree_nodes g cs around (suc d) (suc i + child_nodes c) vs in
        omega (arith, child_counted c around r (suc d) (suc i) us, children_counted cs around (suc d) (suc i + child_nodes c) vs)

    pub children_counted : (cs : Children) (around : List Name) (d i : ℕ) (vs : List A)
        → length (children_tree_nodes g cs around d i vs) ≡ children_nodes cs + length vs
    children_counted none around d i vs = omega arith
    children_counted (next c r cs) around d i vs =
        let us = children_tree_nodes g cs around d (i + child_nodes c) vs in
        omega (arith, child_counted c around r d i us, children_counted cs around d (i + child_nodes c) vs)

    pub child_counted : (c : Child) (around : List Name) (b : Bool) (d i : ℕ) (vs : List A)
        → length (child_tree_nodes g c around b d i vs) ≡ child_nodes c + length vs
    child_counted (plain m) around b d i vs = member_counted m around b d i vs
    child_counted (loop m) around b d i vs = omega (arith, member_counted m around false (suc d) (suc i) vs)
    child_counted (group y m e ms) around b d i vs =
        let j = suc i + member_nodes m in
        let us = members_tree_nodes g ms around (suc d) (j + member_nodes e) vs in
        omega (
          arith,
          member_counted m around false (suc d) (suc i) (member_tree_nodes g e around false (suc d) j us),
          member_counted e around false (suc d) j us,
          members_counted ms around (suc d) (j + member_nodes e) vs,
        )
    child_counted (replicator y par size m) around b d i vs = omega (arith, member_counted m (around ++ (par ∷ [])) false (suc d) (suc i) vs)

    pub member_counted : (m : Member) (around : List Name) (b : Bool) (d i : ℕ) (vs : List A)
        → length (member_tree_nodes g m around b d i vs) ≡ member_nodes m + length vs
    member_counted (leaf n) around b d i vs = omega arith
    member_counted (inner t) around b d i vs = flow_counted t around b d i vs

    pub members_counted : (ms : Members) (around : List Name) (d i : ℕ) (vs : List A)
        → length (members_tree_nodes g ms around d i vs) ≡ members_nodes ms + length vs
    members_counted end around d i vs = omega arith
    members_counted (also m ms) around d i vs =
        let us = members_tree_nodes g ms around d (i + member_nodes m) vs in
        omega (arith, member_counted m around false d i us, members_counted ms around d (i + member_nodes m) vs)

pub nodes_counted : {A : Type 0} (g : TreeNode → A) (d : Flow) → length (nodes_by g d) ≡ flow_nodes d
nodes_counted g d = omega (arith, flow_counted g d [] false 1 0 [])
