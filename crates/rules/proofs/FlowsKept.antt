-- Numbers 9 and 10 alike: a rule that is asked of flows alone is broken nowhere just where each flow keeps it.
use Rattle.std.specs.Prelude.{None}
use mathlib.Core.Path.{◌≡◌, refl}
use mathlib.Core.Logic.{◌↔◌}
use mathlib.Core.Bool.{Bool, true, false, cond, ◌&&◌}
use mathlib.Core.List.{List, [], ◌∷◌, ◌++◌}
use Prim.Native.Nat.{ℕ, suc}
use Rattle.diagram.specs.Tree.{Name, Flow, flow, Children, none, next, Child, plain, loop, group, replicator, Member, leaf, inner, Members, end, also}
use Rattle.diagram.specs.Flows.{each_flow, children_flows, child_flows, member_flows, members_flows}
use Rattle.diagram.specs.TreeNodes.{TreeNode, flowing, solid_kinds, flow_text_node, tree_node, nodes_by, flow_tree_nodes, children_tree_nodes, child_tree_nodes, member_tree_nodes, members_tree_nodes}
use Rattle.rules.specs.Broken.{first_broken}
use Rattle.rules.proofs.Clean.{Passes, passes_none, passes_then, passes_node, passes_iff}
use Rattle.rules.proofs.GroupKinds.{group_flows, replicator_flows}

-- The rule by a flow's node and by the flow itself.
abbrev pub Rule : (TreeNode → Bool) → (Flow → Bool) → Type 0
Rule ask ok =
    (n : Name) (ps : List Name) (sw : Bool) (c : Child) (r : Bool) (cs : Children) (A : List Name) (b : Bool) (d i : ℕ)
    → ask (tree_node (flow_text_node i b sw d n ps) A (solid_kinds (next c r cs))) ≡ ok (flow n ps sw c r cs)

module _ (ask : TreeNode → Bool) (ok : Flow → Bool) (rule : Rule ask ok) where
  abbrev pub flow_fit : TreeNode → Bool
  flow_fit h = cond (flowing h.own.kind) (ask h) true

  abbrev Fits : (List TreeNode → List TreeNode) → Bool → Type 0
  Fits = Passes flow_fit

  both : {p q : List TreeNode → List TreeNode} {a b : Bool} → Fits p a → Fits q b → Fits (λ vs. p (q vs)) (a && b)
  both = passes_then flow_fit

  -- A node of another kind, and those under it.
  other : (h : TreeNode) {p : List TreeNode → List TreeNode} {a : Bool} → flowing h.own.kind ≡ false → Fits p a → Fits (λ vs. h ∷ p vs) a
  other h q x = both {a = true} (passes_node flow_fit h (rw q)) x

  mutual
    unfolding flow_tree_nodes each_flow

    flow_fits : (f : Flow) (A : List Name) (b : Bool) (d i : ℕ) → Fits (flow_tree_nodes (λ h. h) f A b d i) (each_flow f ok)
    flow_fits (flow n ps sw c r cs) A b d i =
        both (passes_node flow_fit _ (rule n ps sw c r cs A b d i)) (both (child_fits c A r (suc d) _) (children_fits cs A (suc d) _))

    children_fits : (cs : Children) (A : List Name) (d i : ℕ) → Fits (children_tree_nodes (λ h. h) cs A d i) (children_flows cs ok)
    children_fits none A d i = passes_none flow_fit
    children_fits (next c r cs) A d i = both (child_fits c A r d i) (children_fits cs A d _)

    child_fits : (c : Child) (A : List Name) (b : Bool) (d i : ℕ) → Fits (child_tree_nodes (λ h. h) c A b d i) (child_flows c ok)
    child_fits (plain m) A b d i = member_fits m A b d i
    child_fits (loop m) A b d i = other _ refl (member_fits m A false (suc d) _)
    child_fits (group y a e ms) A b d i =
        other _ (group_flows y) (both (member_fits a A false (suc d) _) (both (member_fits e A false (suc d) _) (members_fits ms A (suc d) _)))
    child_fits (replicator y par size m) A b d i = other _ (replicator_flows y size) (member_fits m (A ++ (par ∷ [])) false (suc d) _)

    member_fits : (m : Member) (A : List Name) (b : Bool) (d i : ℕ) → Fits (member_tree_nodes (λ h. h) m A b d i) (member_flows m ok)
    member_fits (leaf n) A b d i = other _ refl (passes_none flow_fit)
    member_fits (inner f) A b d i = flow_fits f A b d i

    members_fits : (ms : Members) (A : List Name) (d i : ℕ) → Fits (members_tree_nodes (λ h. h) ms A d i) (members_flows ms ok)
    members_fits end A d i = passes_none flow_fit
    members_fits (also m ms) A d i = both (member_fits m A false d i) (members_fits ms A d _)

  pub kept_iff : (d : Flow) → (first_broken flow_fit (nodes_by (λ h. h) d) ≡ None) ↔ (each_flow d ok ≡ true)
  kept_iff d = passes_iff flow_fit (flow_fits d [] false 1 0)
