-- `table::step` meets its contract: a refusal leaves the record; else the event's bit is set and its run cleared.
use mathlib.Core.Path.{sym, ◌∙◌}
use Rattle.table.proofs.Answered.{step_as, step_taken}
use Rattle.table.proofs.step.Goals as goal

pub returns-in-Ok : goal.returns-in-Ok
returns-in-Ok c = step_taken _ _ _ _ _ _ (sym c.in-Ok.is ∙ c.allowed.ensures) c.set-set.ensures c.clear-bits.ensures

pub returns-in-Err : goal.returns-in-Err
returns-in-Err c = step_as _ _ _ _ (sym c.in-Err.is ∙ c.allowed.ensures)
