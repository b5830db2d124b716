-- The number of digits left falls.
use Rattle.output.proofs.Writer.+digits.Given as goal

abbrev pub decreases-digits : goal.decreases-digits
decreases-digits l = l.left
