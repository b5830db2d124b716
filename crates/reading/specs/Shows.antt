-- Property 2: "its diagram is the one derived". The nodes that the diagram holds, with their names as they stand in the text, are the nodes of the tree.
use Rattle.std.specs.Prelude.{◌≡◌, true, cond, List, [], map, ℕ, take}
use Rattle.diagram.specs.Tree.{Flow}
use Rattle.diagram.specs.Count.{flow_nodes, flow_copies, flow_events}
use Rattle.diagram.specs.Parameters.{flow_parameters}
use Rattle.diagram.specs.TreeNodes.{ShownNode, shown_as, has_name, shown, nodes_by}
use Rattle.diagram.specs.declared.Node.{Node}
use Rattle.diagram.specs.declared.Diagram.{Diagram}
use Rattle.tokens.specs.Words.{word_at}

unfoldable pub shown_node : List ℕ → Node → ShownNode
shown_node text n = shown_as n.kind n.solid n.strong n.depth (cond (has_name n.kind) (word_at text n.name) [])

-- The nodes that count.
unfoldable pub shown_nodes : List ℕ → Diagram → List ShownNode
shown_nodes text d = map (shown_node text) (take d.count d.nodes)

-- The diagram holds the nodes of the tree, with their number and how many node copies and events they have.
pub record Shows (text : List ℕ) (d : Flow) (g : Diagram) : Type 0 where
  pub nodes : shown_nodes text g ≡ nodes_by shown d
  pub count : g.count ≡ flow_nodes d
  pub copies : g.copies ≡ flow_copies d
  pub events : g.events ≡ flow_events d

-- "its diagram is the one derived": the diagram shows this tree, and no other tree that keeps the parameter rules. The pars of a flow need no place in a
-- node: "A flow lists exactly the pars of the replicators around it, outermost first."
pub record ShowsOnly (text : List ℕ) (d : Flow) (g : Diagram) : Type 0 where
  pub this : Shows text d g
  pub no_other : (e : Flow) → flow_parameters e [] ≡ true → Shows text e g → e ≡ d
