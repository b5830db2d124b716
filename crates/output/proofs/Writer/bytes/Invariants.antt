-- The loop's invariant: the bytes before the index are written.
use Rattle.std.proofs.Common.{take}
use Rattle.output.specs.Writes.{Writes}
use Rattle.output.proofs.Writer.bytes.Given as goal

abbrev pub invariant-loop-b : goal.invariant-loop-b
invariant-loop-b l = Writes l.initial.self l.self (take l.b-index l.source)
