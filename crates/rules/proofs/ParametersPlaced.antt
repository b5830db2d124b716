-- Number 8: the first node that breaks a parameter rule, along the nodes as on the tree.
use mathlib.Core.Path.{◌≡◌, refl, sym, ◌∙◌, ap}
use mathlib.Core.Bool.{Bool, true, false, not, ◌&&◌, and-true}
use mathlib.Core.List.{List, [], ◌∷◌, ◌++◌, reverse, reverse_aux, reverse-append, reverse-reverse}
use Prim.Native.Nat.{ℕ, suc}
use lib.ListN.{length-reverse}
use Rattle.diagram.specs.Tree.{Name, Flow, flow, Children, none, next, Child, plain, loop, group, replicator, Member, leaf, inner, Members, end, also}
use Rattle.diagram.specs.Names.{equal, same, new}
use Rattle.diagram.specs.TreeNodes.{TextNode, TreeNode, own, nodes_by, flow_tree_nodes, children_tree_nodes, child_tree_nodes, member_tree_nodes, members_tree_nodes}
use Rattle.base.proofs.Truth.{agree}
use Rattle.base.proofs.Decided.{all_same_decides}
use Rattle.rules.specs.Kept.{around, parameters_kept, fault}
use Rattle.rules.specs.Broken.{parameters_fit, first_broken}
use Rattle.rules.proofs.Faults.{Agree, agree_none, agree_node, by_owns}
use Rattle.rules.proofs.GroupKinds.{group_copies, replicator_copies}
use Rattle.rules.proofs.Around.{inside, Walked, walked_none, walked_then, walked_node}

-- The pars around, nearest first or outermost first.
swap : (a b c : Bool) → (a && (b && c)) ≡ ((b && a) && c)
swap true true c = refl
swap true false c = refl
swap false true c = refl
swap false false c = refl

new_onto : (m : Name) (l r : List Name) → new m (reverse_aux l r) ≡ (new m l && new m r)
new_onto m [] r = refl
new_onto m (x ∷ l) r = new_onto m l (x ∷ r) ∙ swap (new m l) (not (same m x)) (new m r)

new_back : (m : Name) (l : List Name) → new m (reverse l) ≡ new m l
new_back m l = new_onto m l [] ∙ and-true (new m l)

equal_back : (l m : List Name) → equal same (reverse l) (reverse m) ≡ equal same l m
equal_back l m =
    agree (equal same (reverse l) (reverse m)) (equal same l m)
    (λ h. (all_same_decides l m).1 (sym (reverse-reverse l) ∙ ap reverse ((all_same_decides (reverse l) (reverse m)).0 h) ∙ reverse-reverse m))
    (λ h. (all_same_decides (reverse l) (reverse m)).1 (ap reverse ((all_same_decides l m).0 h)))

-- A node passes by its own words where it does on the tree. It is not asked what comes after.
kept_fits : (before : List TextNode) (h : TreeNode) → around h.own.depth before ≡ reverse h.around → parameters_kept before (own h) [] ≡ parameters_fit h
kept_fits before h e = rw (e, length-reverse h.around, new_back h.own.name h.around, equal_back h.own.pars h.around)

-- Nodes of depth d or deeper, with these pars around them, nearest first.
abbrev nearer : TextNode → List Name → List Name
nearer h a = h.name ∷ a

abbrev Placed : ℕ → List Name → (List TreeNode → List TreeNode) → Type 0
Placed d a p = Walked around nearer d a p (Agree parameters_kept parameters_fit) (Agree parameters_kept parameters_fit)

placed_none : {d : ℕ} {a : List Name} → Placed d a (λ vs. vs)
placed_none = walked_none around nearer

placed_then : {d : ℕ} {a : List Name} {p q : List TreeNode → List TreeNode} → Placed d a p → Placed d a q → Placed d a (λ vs. p (q vs))
placed_then = walked_then around nearer

placed_node : (h : TreeNode) {a : List Name} {p : List TreeNode → List TreeNode} → inside around nearer (own h) (reverse h.around) ≡ a
    → Placed (suc h.own.depth) a p → Placed h.own.depth (reverse h.around) (λ vs. h ∷ p vs)
placed_node h {a} {p} i =
    walked_node around nearer (λ d h before. refl) h i
    (λ before vs e on. agree_node parameters_kept parameters_fit before h (p vs) (kept_fits before h e) on)

mutual
  unfolding flow_tree_nodes

  flow_placed : (f : Flow) (A : List Name) (b : Bool) (d i : ℕ) → Placed d (reverse A) (flow_tree_nodes (λ h. h) f A b d i)
  flow_placed (flow n ps sw c r cs) A b d i = placed_node _ refl (placed_then (child_placed c A r (suc d) _) (children_placed cs A (suc d) _))

  children_placed : (cs : Children) (A : List Name) (d i : ℕ) → Placed d (reverse A) (children_tree_nodes (λ h. h) cs A d i)
  children_placed none A d i = placed_none
  children_placed (next c r cs) A d i = placed_then (child_placed c A r d i) (children_placed cs A d _)

  child_placed : (c : Child) (A : List Name) (b : Bool) (d i : ℕ) → Placed d (reverse A) (child_tree_nodes (λ h. h) c A b d i)
  child_placed (plain m) A b d i = member_placed m A b d i
  child_placed (loop m) A b d i = placed_node _ refl (member_placed m A false (suc d) _)
  child_placed (group y a e ms) A b d i =
      placed_node _ (rw (group_copies y))
      (placed_then (member_placed a A false (suc d) _) (placed_then (member_placed e A false (suc d) _) (members_placed ms A (suc d) _)))
  child_placed (replicator y par size m) A b d i =
      placed_node _ (rw (replicator_copies y size) (sym (reverse-append A (par ∷ [])))) (member_placed m (A ++ (par ∷ [])) false (suc d) _)

  member_placed : (m : Member) (A : List Name) (b : Bool) (d i : ℕ) → Placed d (reverse A) (member_tree_nodes (λ h. h) m A b d i)
  member_placed (leaf n) A b d i = placed_node _ refl placed_none
  member_placed (inner f) A b d i = flow_placed f A b d i

  members_placed : (ms : Members) (A : List Name) (d i : ℕ) → Placed d (reverse A) (members_tree_nodes (λ h. h) ms A d i)
  members_placed end A d i = placed_none
  members_placed (also m ms) A d i = placed_then (member_placed m A false d i) (members_placed ms A d _)

pub parameters_placed : (d : Flow) → fault parameters_kept [] (nodes_by own d) ≡ first_broken parameters_fit (nodes_by (λ h. h) d)
parameters_placed d =
    by_owns (fault parameters_kept []) d _ ((flow_placed d [] false 1 0).go [] refl [] (λ now s. agree_none parameters_kept parameters_fit now))
