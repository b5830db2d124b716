-- Number 10 stands at the same node by the nodes' own words and by the tree.
use mathlib.Core.Path.{◌≡◌, refl}
use mathlib.Core.List.{List, [], ◌∷◌}
use Rattle.diagram.specs.Tree.{Flow}
use Rattle.diagram.specs.TreeNodes.{TextNode, TreeNode, own, nodes_by}
use Rattle.rules.specs.Kept.{strongs_kept, fault}
use Rattle.rules.specs.Broken.{strongs_fit, first_broken}
use Rattle.rules.proofs.Faults.{Agree, agree_none, agree_node, tree_nodes, by_owns}

along : (hs : List TreeNode) (before : List TextNode) → Agree strongs_kept strongs_fit before hs
along [] before = agree_none strongs_kept strongs_fit before
along (h ∷ hs) before = agree_node strongs_kept strongs_fit before h hs refl (along hs (own h ∷ before))

pub strongs_placed : (d : Flow) → fault strongs_kept [] (nodes_by own d) ≡ first_broken strongs_fit (nodes_by (λ h. h) d)
strongs_placed d = by_owns (fault strongs_kept []) d _ (along (tree_nodes d) [])
