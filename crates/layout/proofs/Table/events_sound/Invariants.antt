-- The records passed are sound.
use Rattle.std.proofs.Common.{◌≡◌, true}
use Rattle.layout.specs.Sound.{events_sound}
use Rattle.layout.proofs.Table.events_sound.Given as goal

abbrev pub invariant-loop-e : goal.invariant-loop-e
invariant-loop-e l = events_sound l.self.bytes.now l.e ≡ true
