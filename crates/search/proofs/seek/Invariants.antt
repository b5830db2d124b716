-- The invariant: the search along the nodes that are left finds what the whole search does.
use Rattle.std.proofs.Common.{◌≡◌, drop}
use Rattle.labels.specs.Seeks.{seek, begin}
use Rattle.search.proofs.seek.Given as goal

abbrev pub invariant-loop-i : goal.invariant-loop-i
invariant-loop-i l = seek (drop l.i l.nodes) l.s ≡ seek l.nodes (begin l.event)
