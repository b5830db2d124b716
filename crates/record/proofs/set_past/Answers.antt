-- One word with a set bit at or past `first` is enough; past the last, there is none.
use mathlib.Core.Path.{refl}
use Rattle.record.specs.Bits.{clear_between}
use Rattle.record.proofs.PastEvents.{none_more, some_set}
use Rattle.record.proofs.set_past.Goals as goal

pub loop-i-init : goal.loop-i-init
unfolding clear_between
loop-i-init c = refl

pub returns-then-past-ne0 : goal.returns-then-past-ne0
returns-then-past-ne0 c = some_set _ _ _ _ c.loop-i-test.true c.loop-i.invariant c.past.ensures c.if-past-ne0.true

pub loop-i-preserved : goal.loop-i-preserved
loop-i-preserved c = none_more _ _ _ _ c.loop-i-test.true c.loop-i.invariant c.past.ensures c.if-past-ne0.false
