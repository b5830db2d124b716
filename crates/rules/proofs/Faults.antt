-- Numbers 8 to 10 alike: a rule asked along the nodes is broken first where it is broken first on the tree, if node by node the two say the same.
use mathlib.Core.Path.{◌≡◌, refl, sym, ◌∙◌, ap}
use mathlib.Core.Bool.{Bool}
use mathlib.Core.List.{List, [], ◌∷◌, map}
use Rattle.diagram.specs.Tree.{Flow}
use Rattle.diagram.specs.TreeNodes.{TextNode, TreeNode, own, nodes_by}
use Rattle.rules.specs.Kept.{fault}
use Rattle.rules.specs.Broken.{first_broken}
use Rattle.diagram.proofs.Mapped.{mapped}

-- The nodes of a tree as their tokens tell them.
abbrev pub owns : List TreeNode → List TextNode
owns hs = map own hs

abbrev pub tree_nodes : Flow → List TreeNode
tree_nodes d = nodes_by (λ h. h) d

-- A law of a diagram's nodes with what stands around and below them holds of what their tokens tell.
pub by_owns : {A : Type 0} (f : List TextNode → A) (d : Flow) (a : A) → f (owns (tree_nodes d)) ≡ a → f (nodes_by own d) ≡ a
by_owns f d a e = ap f (sym (mapped own (λ h. h) d)) ∙ e

module _ (kept : List TextNode → TextNode → List TextNode → Bool) (fit : TreeNode → Bool) where
  abbrev pub Agree : List TextNode → List TreeNode → Type 0
  Agree before hs = fault kept before (owns hs) ≡ first_broken fit hs

  pub agree_none : (before : List TextNode) → Agree before []
  unfolding fault first_broken
  agree_none before = refl

  pub agree_node : (before : List TextNode) (h : TreeNode) (hs : List TreeNode) → kept before (own h) (owns hs) ≡ fit h → Agree (own h ∷ before) hs
      → Agree before (h ∷ hs)
  unfolding fault first_broken
  agree_node before h hs e p = rw (e, p)
