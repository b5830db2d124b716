-- The measure is how many codes there are.
use lib.ListN.{length}
use Rattle.conditions.proofs.+lacks.Given as goal

abbrev pub decreases-lacks : goal.decreases-lacks
decreases-lacks l = length l.codes.now
