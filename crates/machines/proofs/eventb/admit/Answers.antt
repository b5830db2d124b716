-- By what reading answers, and the profile.
use Rattle.std.proofs.Common.{sym, ◌∙◌}
use Rattle.base.proofs.Reports.{passed}
use Rattle.machines.proofs.Answers.{unread_admission, outside_admission, inside_admission}
use Rattle.machines.proofs.eventb.admit.Goals as goal

pub returns-in_err-d : goal.returns-in_err-d
returns-in_err-d c = rw (passed c.from_residual.ensures) (unread_admission _ _ (sym c.in_err-d.ensures))

pub returns-then-outside : goal.returns-then-outside
returns-then-outside c = rw c.at.ensures (outside_admission _ _ (sym c.in_ok-d.ensures) (sym c.outside.ensures ∙ c.if-outside.true))

pub returns : goal.returns
returns c = inside_admission _ _ (sym c.in_ok-d.ensures) (sym c.outside.ensures ∙ c.if-outside.false)
