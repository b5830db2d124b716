-- The parameter rules are kept just where no node breaks one.
use Rattle.std.specs.Prelude.{None}
use mathlib.Core.Path.{◌≡◌, refl}
use mathlib.Core.Logic.{◌↔◌}
use mathlib.Core.Bool.{Bool, true, false, ◌&&◌, and-true}
use mathlib.Core.List.{List, [], ◌∷◌, ◌++◌}
use Prim.Native.Nat.{ℕ, suc}
use Rattle.diagram.specs.Tree.{Name, Flow, flow, Children, none, next, Child, plain, loop, group, replicator, Member, leaf, inner, Members, end, also}
use Rattle.diagram.specs.Names.{new}
use Rattle.diagram.specs.Parameters.{surrounded, flow_parameters, children_parameters, child_parameters, member_parameters, members_parameters}
use Rattle.diagram.specs.TreeNodes.{TreeNode, copying, flowing, nodes_by, flow_tree_nodes, children_tree_nodes, child_tree_nodes, member_tree_nodes, members_tree_nodes}
use Rattle.rules.specs.Broken.{parameters_fit, first_broken}
use Rattle.rules.proofs.Clean.{Passes, passes_none, passes_then, passes_node, passes_iff}
use Rattle.rules.proofs.GroupKinds.{group_copies, replicator_copies, group_flows, replicator_flows}

abbrev Fits : (List TreeNode → List TreeNode) → Bool → Type 0
Fits = Passes parameters_fit

-- What a node is asked by its kind, besides how many replicators surround it.
module _ (h : TreeNode) where
  fits_plain : copying h.own.kind ≡ false → flowing h.own.kind ≡ false → Fits (λ vs. h ∷ vs) (surrounded h.around)
  fits_plain p q = passes_node parameters_fit h (rw (p, q) (and-true (surrounded h.around)))

  fits_copying : copying h.own.kind ≡ true → flowing h.own.kind ≡ false → Fits (λ vs. h ∷ vs) (surrounded h.around && new h.own.name h.around)
  fits_copying p q = passes_node parameters_fit h (rw (p, q, and-true (new h.own.name h.around)))

both : {p q : List TreeNode → List TreeNode} {a b : Bool} → Fits p a → Fits q b → Fits (λ vs. p (q vs)) (a && b)
both = passes_then parameters_fit

mutual
  unfolding flow_tree_nodes flow_parameters

  flow_fits : (f : Flow) (A : List Name) (b : Bool) (d i : ℕ) → Fits (flow_tree_nodes (λ h. h) f A b d i) (flow_parameters f A)
  flow_fits (flow n ps sw c r cs) A b d i =
      both (passes_node parameters_fit _ refl) (both (child_fits c A r (suc d) _) (children_fits cs A (suc d) _))

  children_fits : (cs : Children) (A : List Name) (d i : ℕ) → Fits (children_tree_nodes (λ h. h) cs A d i) (children_parameters cs A)
  children_fits none A d i = passes_none parameters_fit
  children_fits (next c r cs) A d i = both (child_fits c A r d i) (children_fits cs A d _)

  child_fits : (c : Child) (A : List Name) (b : Bool) (d i : ℕ) → Fits (child_tree_nodes (λ h. h) c A b d i) (child_parameters c A)
  child_fits (plain m) A b d i = member_fits m A b d i
  child_fits (loop m) A b d i = both (fits_plain _ refl refl) (member_fits m A false (suc d) _)
  child_fits (group y a e ms) A b d i =
      both (fits_plain _ (group_copies y) (group_flows y))
      (both (member_fits a A false (suc d) _) (both (member_fits e A false (suc d) _) (members_fits ms A (suc d) _)))
  child_fits (replicator y par size m) A b d i =
      both (fits_copying _ (replicator_copies y size) (replicator_flows y size))
      (member_fits m (A ++ (par ∷ [])) false (suc d) _)

  member_fits : (m : Member) (A : List Name) (b : Bool) (d i : ℕ) → Fits (member_tree_nodes (λ h. h) m A b d i) (member_parameters m A)
  member_fits (leaf n) A b d i = fits_plain _ refl refl
  member_fits (inner f) A b d i = flow_fits f A b d i

  members_fits : (ms : Members) (A : List Name) (d i : ℕ) → Fits (members_tree_nodes (λ h. h) ms A d i) (members_parameters ms A)
  members_fits end A d i = passes_none parameters_fit
  members_fits (also m ms) A d i = both (member_fits m A false d i) (members_fits ms A d _)

pub parameters_kept_iff : (d : Flow) → (first_broken parameters_fit (nodes_by (λ h. h) d) ≡ None) ↔ (flow_parameters d [] ≡ true)
parameters_kept_iff d = passes_iff parameters_fit (flow_fits d [] false 1 0)
