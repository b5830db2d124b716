-- What a node is told as.
use Rattle.std.specs.Prelude.{cond, List, [], ◌∷◌, ℕ}
use Rattle.diagram.specs.TreeNodes.{size_of}
use Rattle.nodes.specs.Nodes.{kind_index}
use Rattle.diagram.specs.declared.Node.{Node}

-- Which of the kinds it is, in their order; size, whether it is a solid child, whether a flow's sw is 1, and depth.
abbrev pub node_values : Node → List ℕ
node_values n = kind_index n.kind ∷ size_of n.kind ∷ cond n.solid 1 0 ∷ cond n.strong 1 0 ∷ n.depth ∷ []

-- The places of its keyword, and of its name or par.
abbrev pub place_values : Node → List ℕ
place_values n = n.at ∷ n.name ∷ []
