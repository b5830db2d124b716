-- `table::allowed` meets its contract: what the first look refuses is passed on; then 14, 15, or the event's record.
use mathlib.Core.Path.{sym, ap, ◌∙◌}
use Rattle.std.specs.Prelude.{Err}
use Rattle.table.proofs.Answered.{allowed_14, looked_guard, looked_15, looked_done}
use Rattle.table.proofs.allowed.Goals as goal

pub returns-then-number-e : goal.returns-then-number-e
returns-then-number-e c =
    ap Err c.at.ensures ∙ allowed_14 _ _ _ (sym c.in_ok-admit.ensures.value) (rw (← c.number.ensures.0) c.if-number-e.true)

pub bounds-values-guard : goal.bounds-values-guard
bounds-values-guard c =
    looked_guard _ c.args.bits _ (sym c.in_ok-admit.ensures.value) c.in_ok-admit.ensures.values_after _ _ (rw (← c.number.ensures.0) c.if-number-e.false)
    c.number-w.ensures.0

pub returns-then-not-values-guard : goal.returns-then-not-values-guard
returns-then-not-values-guard c =
    ap Err c.at-then-not-values-guard.ensures
    ∙ looked_15 _ _ _ (sym c.in_ok-admit.ensures.value) c.in_ok-admit.ensures.values_after _ _ (rw (← c.number.ensures.0) c.if-number-e.false)
    c.number-w.ensures.0 c.if-not-values-guard.true

pub returns : goal.returns
returns c =
    looked_done _ _ _ (sym c.in_ok-admit.ensures.value) c.in_ok-admit.ensures.values_after _ _ (rw (← c.number.ensures.0) c.if-number-e.false)
    c.number-w.ensures.0 c.if-not-values-guard.false
