-- The rows passed are sound.
use Rattle.std.proofs.Common.{◌≡◌, true}
use Rattle.layout.specs.Sound.{rows_sound}
use Rattle.layout.proofs.Table.rows_sound.Given as goal

abbrev pub invariant-loop-i : goal.invariant-loop-i
invariant-loop-i l = rows_sound l.self.bytes.now l.i ≡ true
