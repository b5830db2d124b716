-- By what the text is, and the event's number.
use Rattle.std.proofs.Common.{refl, rules, arith}
use Rattle.base.proofs.Reports.{passed}
use Rattle.modelling.specs.Answers.{short}
use Rattle.machines.proofs.Answers.{drawn_by, turned_away, past_answer, event_answer}
use Rattle.machines.proofs.eventb.event.Goals as goal

pub returns-then-out-lt65536 : goal.returns-then-out-lt65536
returns-then-out-lt65536 c = rw c.at.ensures (short (omega (arith, c.if-out-lt65536.true)) refl refl)

pub returns-in_err-d : goal.returns-in_err-d
returns-in_err-d c =
    let s = c.args in
    rw (passed c.from_residual.ensures) (turned_away s.text.now s.out.now s.out.now (omega (arith, c.if-out-lt65536.false)) _ _ c.in_err-d.ensures refl)

pub returns-then-d-event : goal.returns-then-d-event
returns-then-d-event c =
    let s = c.args in
    let k = drawn_by s.text.now _ c.in_ok-d.ensures in
    rw c.at-then-d-event.ensures (past_answer s.text.now s.out.now s.out.now (omega (arith, c.if-out-lt65536.false)) _ k s.event (omega (arith, c.if-d-event.true)) refl)

pub returns : goal.returns
returns c =
    let s = c.args in
    let k = drawn_by s.text.now _ c.in_ok-d.ensures in
    event_answer s.text.now s.out.now _ (omega (arith, c.if-out-lt65536.false)) _ k s.event c.write.new.w.at (omega (arith, c.if-d-event.false))
    (λ j. let w = (c.write.ensures j).bytes in search rules)
