-- By what the text is.
use Rattle.std.proofs.Common.{refl, rules, arith}
use Rattle.base.proofs.Reports.{passed}
use Rattle.machines.proofs.Answers.{drawn_by, turned_away, opening_answer}
use Rattle.machines.proofs.eventb.opening.Goals as goal

pub returns-in_err-d : goal.returns-in_err-d
returns-in_err-d c =
    let s = c.args in
    rw (passed c.from_residual.ensures) (turned_away s.text.now s.out.now s.out.now (omega (arith, c.if-out-lt65536.false)) _ _ c.in_err-d.ensures refl)

pub returns : goal.returns
returns c =
    let s = c.args in
    let k = drawn_by s.text.now _ c.in_ok-d.ensures in
    opening_answer s.text.now s.out.now _ (omega (arith, c.if-out-lt65536.false)) _ k c.«open».new.w.at
    (λ j. let w = (c.«open».ensures j).bytes in search rules)
