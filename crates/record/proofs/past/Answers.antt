-- `record::past` meets its contract: the remainder is the whole word where all of it counts, and 0 where none of it does.
use Rattle.record.proofs.PastEvents.{past_all}
use Rattle.record.proofs.past.Goals as goal

pub returns-then-first-start : goal.returns-then-first-start
returns-then-first-start c = let a = c.args in (past_all a.word a.start a.first c.ranges.word.fits c.if-first-start.true, c.ranges.word.fits)
