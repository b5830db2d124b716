-- The values so far.
use Rattle.std.proofs.Common.{◌≡◌, ◌*◌, ◌<◌, take}
use Rattle.std.specs.Prelude.{◌^◌}
use Rattle.packing.specs.Packed.{beside}
use Rattle.packing.proofs.beside.Given as goal

abbrev pub invariant-loop-v : goal.invariant-loop-v
invariant-loop-v g l = (l.n ≡ beside g.row.W (take l.v-index l.values)) × (l.n < 2 ^ (l.v-index * g.row.W))
