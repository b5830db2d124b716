-- By the buffer's length, and what reading answers.
use Rattle.std.proofs.Common.{rules}
use Rattle.printer.proofs.Answered.{short_answers, refused_answers, done_answers}
use Rattle.base.proofs.Reports.{passed}
use Rattle.printer.proofs.print.Goals as goal

pub returns-then-out-lt16384 : goal.returns-then-out-lt16384
returns-then-out-lt16384 c =
    let told = short_answers c.args.text.now c.args.out.now c.if-out-lt16384.true in
    record { value = rw c.at.ensures told.0; out_after = told.1 }

pub returns-in_err-read : goal.returns-in_err-read
returns-in_err-read c =
    let told = refused_answers c.args.text.now c.args.out.now c.if-out-lt16384.false _ c.in_err-read.ensures _ (passed c.from_residual.ensures) in
    record { value = told.0; out_after = told.1 }

pub returns : goal.returns
returns c =
    let told = done_answers c.args.text.now c.args.out.now c.if-out-lt16384.false _ c.in_ok-read.ensures c.copy.new.w.at _ (search rules) in
    record { value = told.0; out_after = told.1 }
