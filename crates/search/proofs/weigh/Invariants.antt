-- The invariant: from node i on each has its events, and past those that count there is none.
use Rattle.std.proofs.Common.{◌≡◌, ◌≤◌, ℕ, [], take, drop, length, get_or}
use Rattle.std.specs.Prelude.{map}
use Rattle.labels.specs.SearchNodes.{search_node}
use Rattle.labels.specs.Seeks.{next}
use Rattle.labels.specs.Weights.{weigh}
use Rattle.search.proofs.weigh.Given as goal

abbrev pub invariant-loop-i : goal.invariant-loop-i
invariant-loop-i l =
    (length l.weighed_nodes ≡ 256) × (drop l.i (take (length l.nodes) l.weighed_nodes) ≡ weigh (drop l.i (map search_node l.nodes)))
    × ((i : ℕ) → length l.nodes ≤ i → get_or l.weighed_nodes i (next []) ≡ next [])
