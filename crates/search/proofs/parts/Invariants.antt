-- The invariant: the sum so far and the parts among the nodes that are left come to the whole sum.
use Rattle.std.proofs.Common.{◌≡◌, ◌<◌, drop}
use Rattle.labels.specs.Weights.{parts}
use Rattle.search.proofs.parts.Given as goal

abbrev pub invariant-loop-node : goal.invariant-loop-node
invariant-loop-node l = (l.n < 1024) × (parts l.depth l.n (drop l.node-index l.rest) ≡ parts l.depth 0 l.rest)
