-- In the words passed, no bit at or past `first` is set.
use Rattle.std.proofs.Common.{◌≡◌, ◌*◌, true}
use Rattle.record.specs.Bits.{clear_between}
use Rattle.record.proofs.set_past.Given as goal

abbrev pub invariant-loop-i : goal.invariant-loop-i
invariant-loop-i l = clear_between l.bits l.first (64 * l.i) ≡ true
