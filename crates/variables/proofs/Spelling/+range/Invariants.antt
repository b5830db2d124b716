-- The measure is how many variables come after the first.
use Rattle.variables.proofs.Spelling.+range.Given as goal

abbrev pub decreases-range : goal.decreases-range
decreases-range l = l.after
