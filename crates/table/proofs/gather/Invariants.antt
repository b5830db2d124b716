-- The loop's invariant: the bits are those of the events passed.
use Rattle.std.proofs.Common.{◌≡◌, take}
use Rattle.layout.specs.Fields.{rows}
use Rattle.table.specs.Steps.{offered}
use Rattle.table.proofs.gather.Given as goal

abbrev pub invariant-loop-e : goal.invariant-loop-e
invariant-loop-e l = l.bits ≡ offered l.t (take (rows l.t) l.values) l.e
