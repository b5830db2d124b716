-- The run of cleared bits ends at 0 where it is empty, and else at the event's own number.
use Rattle.layout.proofs.Events.{end_none, end_own}
use Rattle.layout.proofs.event_sound.Goals as goal
use Rattle.layout.proofs.event_sound.Goals.{then-count-eq0, else-count-eq0}

pub returns : goal.returns
returns c =
    elim c.if-count-eq0.branch [
      | then-count-eq0 w ↦ rw w.end-is (end_none _ _ _ w.if-count-eq0.true)
      | else-count-eq0 w ↦ rw w.end-is (end_own _ _ _ w.if-count-eq0.false)
    ]
