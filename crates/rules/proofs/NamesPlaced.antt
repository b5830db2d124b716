-- Number 7 stands at the same node by the nodes' own words and by the tree.
use mathlib.Core.Path.{◌≡◌, refl}
use mathlib.Core.Bool.{Bool, true, false, not, ◌&&◌, cond, and-true}
use mathlib.Core.List.{List, [], ◌∷◌, ◌++◌}
use Rattle.diagram.specs.Tree.{Name, Flow}
use Rattle.diagram.specs.Names.{same, new}
use Rattle.diagram.specs.TreeNodes.{TextNode, TreeNode, own, titled, nodes_by}
use Rattle.rules.specs.Kept.{unused, names_kept, fault}
use Rattle.rules.specs.Broken.{all_new, first_twice}
use Rattle.rules.proofs.Faults.{owns, tree_nodes, by_owns}

-- The names that nodes have, a leaf or flow one and any other node none.
abbrev pub used : List TextNode → List Name
used [] = []
used (h ∷ hs) = cond (titled h.kind) (h.name ∷ []) [] ++ used hs

-- A node passes, and a name is unused, where the names of those before it lack it.
module _ (n : Name) where
  unused_step : (t : Bool) (m : Name) (ns : List Name) → (not (t && same n m) && new n ns) ≡ new n (cond t (m ∷ []) [] ++ ns)
  unused_step true m ns = refl
  unused_step false m ns = refl

  unused_new : (before : List TextNode) → unused n before ≡ new n (used before)
  unused_new [] = refl
  unused_new (h ∷ before) = rw (unused_new before) (unused_step (titled h.kind) h.name (used before))

  pub passes : (t : Bool) (before : List TextNode) → cond t (unused n before) true ≡ all_new (cond t (n ∷ []) []) (used before)
  passes true before = rw and-true (unused_new before)
  passes false before = refl

along : (hs : List TreeNode) (before : List TextNode) → fault names_kept before (owns hs) ≡ first_twice (used before) hs
unfolding fault first_twice
along [] before = refl
along (h ∷ hs) before = rw (passes h.own.name (titled h.own.kind) before, along hs (own h ∷ before))

pub names_placed : (d : Flow) → fault names_kept [] (nodes_by own d) ≡ first_twice [] (nodes_by (λ h. h) d)
names_placed d = by_owns (fault names_kept []) d _ (along (tree_nodes d) [])
