-- Number 9 stands at the same node by the nodes' own words and by the tree.
use mathlib.Core.Path.{◌≡◌, refl, sym, ◌∙◌}
use mathlib.Core.Bool.{Bool, true, false, ◌&&◌, cond}
use mathlib.Core.List.{List, [], ◌∷◌, ◌++◌, append_assoc, append-nil}
use Prim.Native.Nat.{ℕ, suc, ◌≤◌, ◌<◌}
use native.Mathlib.Omega.{arith}
use lib.Dec.{eqb}
use borrow.Author.Tests.{eq-eqb, ne_eqb, lt-leb, le-leb}
use Rattle.diagram.specs.Tree.{Name, Flow, flow, Children, none, next, Child, plain, loop, group, replicator, Member, leaf, inner, Members, end, also}
use Rattle.diagram.specs.TreeNodes.{TextNode, TreeNode, own, child_kind, solid_kinds, nodes_by, flow_tree_nodes, children_tree_nodes, child_tree_nodes, member_tree_nodes, members_tree_nodes}
use Rattle.diagram.specs.declared.Kind.{Kind}
use Rattle.diagram.specs.declared.Kind.TheVariants.{Flow as FlowNode}
use Rattle.rules.specs.Kept.{solids, solids_kept, fault}
use Rattle.rules.specs.Broken.{solids_fit, first_broken}
use Rattle.rules.proofs.Faults.{owns, Agree, agree_none, agree_node, by_owns}

-- The nodes that p puts first are of depth d or deeper, and ks are the kinds of the solid ones of depth d. For a flow of less depth they are skipped but
-- for these if they are its children; for a flow as deep the first of them is the end. The rule says the same on both sides.
record Part (d : ℕ) (ks : List Kind) (p : List TreeNode → List TreeNode) : Type 0 where
  skips : (e : ℕ) → e < d → (vs : List TreeNode) → solids e (owns (p vs)) ≡ cond (eqb d (suc e)) ks [] ++ solids e (owns vs)
  ends : (e : ℕ) → d ≤ e → (vs : List TreeNode) → solids e (owns vs) ≡ [] → solids e (owns (p vs)) ≡ []
  agrees : (vs : List TreeNode) → ((e : ℕ) → d ≤ e → solids e (owns vs) ≡ []) → ((before : List TextNode) → Agree solids_kept solids_fit before vs)
      → (before : List TextNode) → Agree solids_kept solids_fit before (p vs)

part_none : {d : ℕ} → Part d [] (λ vs. vs)
part_none {d} = record { skips = λ e l vs. go (eqb d (suc e)) (solids e (owns vs)); ends = λ e l vs z. z; agrees = λ vs over on. on }
  where
    go : (t : Bool) (ls : List Kind) → ls ≡ cond t [] [] ++ ls
    go true ls = refl
    go false ls = refl

part_then : {d : ℕ} {ks ls : List Kind} {p q : List TreeNode → List TreeNode} → Part d ks p → Part d ls q → Part d (ks ++ ls) (λ vs. p (q vs))
part_then {d} {ks} {ls} {p} {q} x y = record {
  skips = λ e l vs. x.skips e l (q vs) ∙ rw (y.skips e l vs) (go (eqb d (suc e)) (solids e (owns vs)));
  ends = λ e l vs z. x.ends e l (q vs) (y.ends e l vs z);
  agrees = λ vs over on. x.agrees (q vs) (λ e l. y.ends e l vs (over e l)) (y.agrees vs over on);
}
  where
    go : (t : Bool) (ms : List Kind) → cond t ks [] ++ (cond t ls [] ++ ms) ≡ cond t (ks ++ ls) [] ++ ms
    go true ms = sym (append_assoc ks ls ms)
    go false ms = refl

-- A node, and those under it.
part_node : (h : TreeNode) {ks : List Kind} {p : List TreeNode → List TreeNode} → ks ≡ h.solids → Part (suc h.own.depth) ks p
    → Part h.own.depth (cond h.own.solid (h.own.kind ∷ []) []) (λ vs. h ∷ p vs)
part_node h {ks} {p} same x =
    let d = h.own.depth in record {
      skips = λ e l vs.
          rw (lt-leb d e l, x.skips e (omega arith) vs, ne_eqb (suc d) (suc e) (λ z. omega arith))
          (first (eqb d (suc e)) h.own.solid (solids e (owns vs)));
      ends = λ e l vs z. rw (le-leb d e l);
      agrees = λ vs over on before.
          agree_node solids_kept solids_fit before h (p vs) (rw (inside vs (over d (omega arith))))
          (x.agrees vs (λ e l. over e (omega arith)) on (own h ∷ before));
    }
  where
    first : (t s : Bool) (ms : List Kind) → cond (t && s) (h.own.kind ∷ ms) ms ≡ cond t (cond s (h.own.kind ∷ []) []) [] ++ ms
    first true true ms = refl
    first true false ms = refl
    first false s ms = refl

    inside : (vs : List TreeNode) → solids h.own.depth (owns vs) ≡ [] → solids h.own.depth (owns (p vs)) ≡ h.solids
    inside vs z =
        x.skips h.own.depth (omega arith) vs
        ∙ rw (eq-eqb (suc h.own.depth) (suc h.own.depth) refl, z) (append-nil ks ∙ same)

-- A child with its ref, before others.
part_child : (k : Kind) (r : Bool) {d : ℕ} {ks : List Kind} {p q : List TreeNode → List TreeNode} → Part d (cond r (k ∷ []) []) p → Part d ks q
    → Part d (cond r (k ∷ ks) ks) (λ vs. p (q vs))
part_child k true x y = part_then x y
part_child k false x y = part_then x y

mutual
  unfolding flow_tree_nodes

  flow_part : (f : Flow) (A : List Name) (b : Bool) (d i : ℕ) → Part d (cond b (FlowNode ∷ []) []) (flow_tree_nodes (λ h. h) f A b d i)
  flow_part (flow n ps sw c r cs) A b d i = part_node _ refl (part_child (child_kind c) r (child_part c A r (suc d) _) (children_part cs A (suc d) _))

  children_part : (cs : Children) (A : List Name) (d i : ℕ) → Part d (solid_kinds cs) (children_tree_nodes (λ h. h) cs A d i)
  children_part none A d i = part_none
  children_part (next c r cs) A d i = part_child (child_kind c) r (child_part c A r d i) (children_part cs A d _)

  child_part : (c : Child) (A : List Name) (b : Bool) (d i : ℕ) → Part d (cond b (child_kind c ∷ []) []) (child_tree_nodes (λ h. h) c A b d i)
  child_part (plain m) A b d i = member_part m A b d i
  child_part (loop m) A b d i = part_node _ refl (member_part m A false (suc d) _)
  child_part (group y a e ms) A b d i =
      part_node _ refl (part_then (member_part a A false (suc d) _) (part_then (member_part e A false (suc d) _) (members_part ms A (suc d) _)))
  child_part (replicator y par size m) A b d i = part_node _ refl (member_part m (A ++ (par ∷ [])) false (suc d) _)

  member_part : (m : Member) (A : List Name) (b : Bool) (d i : ℕ) → Part d (cond b (child_kind (plain m) ∷ []) []) (member_tree_nodes (λ h. h) m A b d i)
  member_part (leaf n) A b d i = part_node _ refl part_none
  member_part (inner f) A b d i = flow_part f A b d i

  members_part : (ms : Members) (A : List Name) (d i : ℕ) → Part d [] (members_tree_nodes (λ h. h) ms A d i)
  members_part end A d i = part_none
  members_part (also m ms) A d i = part_then (member_part m A false d i) (members_part ms A d _)

pub solids_placed : (d : Flow) → fault solids_kept [] (nodes_by own d) ≡ first_broken solids_fit (nodes_by (λ h. h) d)
solids_placed d =
    by_owns (fault solids_kept []) d _ ((flow_part d [] false 1 0).agrees [] (λ e l. refl) (agree_none solids_kept solids_fit) [])
