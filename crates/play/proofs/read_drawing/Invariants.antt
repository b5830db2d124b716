-- The invariant: no more is written than there is room for.
use Rattle.std.proofs.Common.{◌≤◌, length}
use Rattle.play.proofs.read_drawing.Given as goal

abbrev pub invariant-loop : goal.invariant-loop
invariant-loop g l = l.text.at ≤ length l.text.out.now
