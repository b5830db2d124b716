-- The first bytes are written, as far as there is room.
use Rattle.std.proofs.Common.{◌≡◌, take}
use Rattle.base.specs.Fill.{fill}
use Rattle.record.specs.Bytes.{bytes_of}
use Rattle.record.proofs.store.Given as goal

abbrev pub invariant-loop-i : goal.invariant-loop-i
invariant-loop-i l = l.out ≡ fill l.initial.out (take l.i (bytes_of l.bits))
