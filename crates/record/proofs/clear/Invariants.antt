-- The bits passed are cleared.
use Rattle.std.proofs.Common.{◌≡◌, ◌-◌}
use Rattle.record.specs.Bits.{clear_bits}
use Rattle.record.proofs.clear.Given as goal

abbrev pub invariant-loop-e : goal.invariant-loop-e
invariant-loop-e l = l.b ≡ clear_bits l.initial.b l.first (l.e - l.first)
