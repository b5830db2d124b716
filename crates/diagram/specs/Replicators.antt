-- Which nodes are replicators.
use Rattle.std.specs.Prelude.{Bool, false, ◌||◌, List, [], ◌∷◌}
use Rattle.diagram.specs.TreeNodes.{ShownNode, copying}

unfoldable pub some_replicates : List ShownNode → Bool
some_replicates [] = false
some_replicates (n ∷ ns) = copying n.kind || some_replicates ns
