-- The loop's invariant: the lines that were met are written, those of them whose bits are set.
use Rattle.std.proofs.Common.{map}
use Rattle.output.specs.Writes.{Writes}
use Rattle.player.specs.Shown.{chosen}
use Rattle.player.proofs.events_line.Given as goal

abbrev pub invariant-loop-e : goal.invariant-loop-e
invariant-loop-e l = Writes l.initial.out l.out (chosen (map (λ p. p.1.now) l.yielded) l.bits 0)
