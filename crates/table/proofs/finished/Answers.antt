-- `table::finished` meets its contract: what the first look refuses is passed on; then the last row says.
use mathlib.Core.Path.{sym}
use Rattle.table.proofs.Answered.{done_sound, last_within, looked_finished}
use Rattle.table.proofs.finished.Goals as goal

pub overflow_sub-last : goal.overflow_sub-last
overflow_sub-last c = (last_within _ (done_sound _ _ (sym c.in_ok-admit.ensures.value)) _ c.number-last.ensures.0).0

pub bounds-values-last : goal.bounds-values-last
bounds-values-last c = (last_within _ (done_sound _ _ (sym c.in_ok-admit.ensures.value)) _ c.number-last.ensures.0).1

pub returns : goal.returns
returns c = looked_finished _ _ _ (sym c.in_ok-admit.ensures.value) c.in_ok-admit.ensures.values_after _ c.number-last.ensures.0
