-- `translate` meets its contract.
use Rattle.std.proofs.Common.{arith}
use Rattle.translator.proofs.Cases.{is_read, translated, refused_answer}
use Rattle.translator.proofs.translate.Goals as goal

pub returns-in_err-d : goal.returns-in_err-d
returns-in_err-d c =
    let a = c.args in
    refused_answer a.text.now _ c.in_err-d.ensures _ c.from_residual.ensures a.out.now (omega (arith, c.if-out-lt51204.false))

pub write-requires : goal.write-requires
write-requires c = (is_read c.args.text.now c.in_ok-d.d (c.in_ok-d.ensures), omega (arith, c.if-out-lt51204.false))

pub returns : goal.returns
returns c =
    let a = c.args in
    let w = c.write in
    translated a.text.now c.in_ok-d.d c.in_ok-d.ensures a.out.now w.result w.new.out (omega (arith, c.if-out-lt51204.false)) w.ensures
