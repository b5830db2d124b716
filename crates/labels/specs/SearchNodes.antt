-- A node of a diagram as the search for an event reads it.
use Rattle.diagram.specs.declared.Node.{Node}
use Rattle.nodes.specs.Nodes.{form_of}
use Rattle.labels.specs.declared.SearchNode.{SearchNode}

-- Its form, its depth, the place of its name. Its events are not worked out yet.
abbrev pub search_node : Node → SearchNode
search_node n = record { form = form_of n.kind; depth = n.depth; place = n.name; weight = 0 }
