-- The first bytes are copied, as far as there is room.
use Rattle.std.proofs.Common.{◌≡◌, take}
use Rattle.base.specs.Fill.{fill}
use Rattle.harness.proofs.copy.Given as goal

abbrev pub invariant-loop-i : goal.invariant-loop-i
invariant-loop-i l = l.out ≡ fill l.initial.out (take l.i l.bytes)
