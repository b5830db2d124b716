-- The invariant: nothing is written yet that is not shown, and there is room.
use Rattle.play.specs.Room.{Ready}
use Rattle.play.proofs.Game.run.Given as goal

abbrev pub invariant-loop : goal.invariant-loop
invariant-loop g l = Ready l.self.out
