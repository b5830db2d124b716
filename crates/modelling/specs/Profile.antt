-- The profile of card 2 of document 02, the diagrams that are written as machines: no replicator, and at most 32 events. Any other gets number 16.
use Rattle.std.specs.Prelude.{Bool, not, ◌&&◌, leb}
use Rattle.diagram.specs.Tree.{Flow}
use Rattle.diagram.specs.Count.{flow_events}
use Rattle.diagram.specs.TreeNodes.{shown, nodes_by}
use Rattle.diagram.specs.Replicators.{some_replicates}

unfoldable pub in_profile : Flow → Bool
unfolding some_replicates
in_profile d = not (some_replicates (nodes_by shown d)) && leb (flow_events d) 32
