-- Where the nodes of a diagram stand in the text, by its tree.
use Rattle.std.specs.Prelude.{◌≡◌, List, map, ℕ, ◌-◌, take, drop, replicate}
use Rattle.diagram.specs.Tree.{Flow}
use Rattle.diagram.specs.TreeNodes.{nodes_by}
use Rattle.diagram.specs.Stored.{blank_node}
use Rattle.diagram.specs.declared.Node.{Node}
use Rattle.diagram.specs.declared.Diagram.{Diagram}
use Rattle.grammar.specs.Keys.{keyword_at}
use Rattle.reading.specs.Nodes.{name_place}

-- The nodes of the diagram that count stand in the text where the nodes of the tree do, with their keywords and with their names or pars, and those past them,
-- up to 256, are blank. This and `reading.specs.Shows.Shows` leave nothing of a diagram open: `reading.proofs.Placed.one_diagram`.
pub record Placed (text : List ℕ) (d : Flow) (g : Diagram) : Type 0 where
  pub keywords : map (λ (n : Node). n.at) (take g.count g.nodes) ≡ nodes_by (λ h. keyword_at text h.own.number) d
  pub names : map (λ (n : Node). n.name) (take g.count g.nodes) ≡ nodes_by (λ h. name_place text h.own) d
  pub blank : drop g.count g.nodes ≡ replicate (256 - g.count) blank_node
