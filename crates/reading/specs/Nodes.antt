-- A node as the diagram holds it: "Each node's kind, with its size where it has one, stands in its record beside the solid mark."
use Rattle.std.specs.Prelude.{cond, List, ◌++◌, map, ℕ, ◌-◌, length, replicate}
use Rattle.diagram.specs.Stored.{blank_node}
use Rattle.diagram.specs.declared.Node.{Node}
use Rattle.diagram.specs.declared.Diagram.{Diagram}
use Rattle.diagram.specs.TreeNodes.{TextNode, has_name}
use Rattle.grammar.specs.Keys.{keyword_at, name_at}

-- The place of the name or par of a node; 0 for a node that has none.
unfoldable pub name_place : List ℕ → TextNode → ℕ
name_place text h = cond (has_name h.kind) (name_at text h.number) 0

unfoldable pub node_of : List ℕ → TextNode → Node
node_of text h = record {
  kind = h.kind;
  solid = h.solid;
  strong = h.strong;
  depth = h.depth;
  at = keyword_at text h.number;
  name = name_place text h;
}

-- The diagram that holds these nodes of a text.
unfoldable pub stored : List ℕ → List TextNode → ℕ → ℕ → Diagram
stored text hs copies events = record {
  nodes = map (node_of text) hs ++ replicate (256 - length hs) blank_node;
  count = length hs;
  copies = copies;
  events = events;
}
