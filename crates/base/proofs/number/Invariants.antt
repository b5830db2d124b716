-- `base::number`: the bytes read so far make the number.
use Rattle.std.proofs.Common.{◌≡◌}
use Rattle.base.specs.Packed.{field}
use Rattle.base.proofs.number.Given as goal

abbrev pub invariant-loop-k : goal.invariant-loop-k
invariant-loop-k g l = l.value ≡ field l.k l.bytes l.i
