-- The nodes of a drawing in the order of the text: each is at most one deeper than the one before it.
use mathlib.Core.Bool.{Bool, false}
use mathlib.Core.List.{List, [], ◌∷◌, ◌++◌}
use Prim.Native.Nat.{ℕ, suc, ◌+◌, ◌≤◌}
use native.Mathlib.Omega.{arith}
use Rattle.diagram.specs.Tree.{Name, Flow, flow, Children, none, next, Child, plain, loop, group, replicator, Member, leaf, inner, Members, end, also}
use Rattle.diagram.specs.Count.{child_nodes, member_nodes}
use Rattle.diagram.specs.Depth.{flow_depth, children_depth, child_depth, member_depth, members_depth}
use Rattle.diagram.specs.TreeNodes.{TextNode, own, flow_tree_nodes, children_tree_nodes, child_tree_nodes, member_tree_nodes, members_tree_nodes, nodes_by}
use Rattle.walked.specs.Rows.{Nested}

-- Nodes that may follow any node of a depth or deeper.
abbrev After : ℕ → List TextNode → Type 0
After d hs = (x : ℕ) → d ≤ x → Nested x hs

-- A part whose nodes are those below the depth d, after a node at the depth e.
mutual
  unfolding flow_tree_nodes flow_depth

  flow_nested : (f : Flow) (around : List Name) (b : Bool) (d i e : ℕ) (hs : List TextNode) → d ≤ e → d + flow_depth f ≤ 12 → After (suc d) hs
      → Nested e (flow_tree_nodes own f around b (suc d) i hs)
  flow_nested (flow n ps sw c r cs) around b d i e hs l h a = (
    omega arith,
    omega arith,
    omega arith,
    child_nested c around r (suc d) (suc i) (suc d) _ (omega arith) (omega arith)
        (λ x q. children_nested cs around (suc d) (suc i + child_nodes c) x hs (omega arith) (omega arith) a),
  )

  children_nested : (cs : Children) (around : List Name) (d i e : ℕ) (hs : List TextNode) → d ≤ e → d + children_depth cs ≤ 12 → After d hs
      → Nested e (children_tree_nodes own cs around (suc d) i hs)
  children_nested none around d i e hs l h a = a e l
  children_nested (next c r cs) around d i e hs l h a =
      child_nested c around r d i e _ l (omega arith) (λ x q. children_nested cs around d (i + child_nodes c) x hs (omega arith) (omega arith) a)

  child_nested : (c : Child) (around : List Name) (b : Bool) (d i e : ℕ) (hs : List TextNode) → d ≤ e → d + child_depth c ≤ 12 → After (suc d) hs
      → Nested e (child_tree_nodes own c around b (suc d) i hs)
  child_nested (plain m) around b d i e hs l h a = member_nested m around b d i e hs l h a
  child_nested (loop m) around b d i e hs l h a =
      (omega arith, omega arith, omega arith, member_nested m around false (suc d) (suc i) (suc d) hs (omega arith) (omega arith) (λ x q. a x (omega arith)))
  child_nested (group y m o ms) around b d i e hs l h a =
      let j = suc i + member_nodes m in (
        omega arith,
        omega arith,
        omega arith,
        member_nested m around false (suc d) (suc i) (suc d) _ (omega arith) (omega arith)
            (λ x q. member_nested o around false (suc d) j x _ (omega arith) (omega arith)
            (λ z p. members_nested ms around (suc d) (j + member_nodes o) z hs (omega arith) (omega arith) a)),
      )
  child_nested (replicator y par size m) around b d i e hs l h a = (
    omega arith,
    omega arith,
    omega arith,
    member_nested m (around ++ (par ∷ [])) false (suc d) (suc i) (suc d) hs (omega arith) (omega arith) (λ x q. a x (omega arith)),
  )

  member_nested : (m : Member) (around : List Name) (b : Bool) (d i e : ℕ) (hs : List TextNode) → d ≤ e → d + member_depth m ≤ 12 → After (suc d) hs
      → Nested e (member_tree_nodes own m around b (suc d) i hs)
  member_nested (leaf n) around b d i e hs l h a = (omega arith, omega arith, omega arith, a (suc d) (omega arith))
  member_nested (inner f) around b d i e hs l h a = flow_nested f around b d i e hs l h a

  members_nested : (ms : Members) (around : List Name) (d i e : ℕ) (hs : List TextNode) → d ≤ e → d + members_depth ms ≤ 12 → After d hs
      → Nested e (members_tree_nodes own ms around (suc d) i hs)
  members_nested end around d i e hs l h a = a e l
  members_nested (also m ms) around d i e hs l h a =
      member_nested m around false d i e _ l (omega arith) (λ x q. members_nested ms around d (i + member_nodes m) x hs (omega arith) (omega arith) a)

pub nested : (d : Flow) → flow_depth d ≤ 12 → Nested 0 (nodes_by own d)
nested d h = flow_nested d [] false 0 0 0 [] (omega arith) (omega arith) (λ x q. tt)
