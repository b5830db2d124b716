-- The measure is how many codes there are.
use lib.ListN.{length}
use Rattle.guarding.proofs.+write.Given as goal

abbrev pub decreases-write : goal.decreases-write
decreases-write l = length l.codes.now
