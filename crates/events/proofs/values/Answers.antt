-- By what the text is, and where the event stands.
use Rattle.std.proofs.Common.{sym, ◌∙◌}
use Rattle.base.proofs.Reports.{passed}
use Rattle.events.proofs.Answers.{valued_refused, valued_past, valued_reset, valued_leaf}
use Rattle.events.proofs.values.Goals as goal

pub returns-in_err-d : goal.returns-in_err-d
returns-in_err-d c = valued_refused c.args.text.now c.args.event _ _ (sym c.in_err-d.ensures) (passed c.from_residual.ensures)

pub returns-in_default : goal.returns-in_default
returns-in_default c =
    rw c.at.ensures (valued_past c.args.text.now c.in_ok-d.d (sym c.in_ok-d.ensures) c.args.event (sym c.find.ensures ∙ c.in_default.is))

pub returns-then-spot : goal.returns-then-spot
returns-then-spot c =
    valued_reset c.args.text.now c.in_ok-d.d (sym c.in_ok-d.ensures) c.args.event c.in-Some.spot (sym c.find.ensures ∙ c.in-Some.is) c.if-spot.true

pub returns : goal.returns
returns c =
    valued_leaf c.args.text.now c.in_ok-d.d (sym c.in_ok-d.ensures) c.args.event c.in-Some.spot (sym c.find.ensures ∙ c.in-Some.is) c.if-spot.false
