-- `lexer::equal` meets its contract: what was compared decides.
use Rattle.std.proofs.Common.{refl, arith}
use Rattle.base.proofs.Compared.{other_length, other_byte, one_more, all_same}
use Rattle.lexer.proofs.equal.Goals as goal

pub returns-then-v-w : goal.returns-then-v-w
returns-then-v-w c = other_length c.args.v.now c.args.w.now c.if-v-w.true

pub loop-i-init : goal.loop-i-init
loop-i-init c = refl

pub returns-then-v-i : goal.returns-then-v-i
returns-then-v-i c = other_byte c.args.v.now c.args.w.now c.loop-i.i c.if-v-i.true

pub loop-i-preserved : goal.loop-i-preserved
loop-i-preserved c =
    one_more c.args.v.now c.args.w.now c.loop-i.i (omega (arith, c.loop-i-test.true, c.if-v-w.false)) c.loop-i-test.true c.if-v-i.false c.loop-i.invariant

pub returns : goal.returns
returns c =
    all_same c.args.v.now c.args.w.now c.loop-i.i (omega (arith, c.loop-i-test.false, c.if-v-w.false)) c.loop-i-test.false c.loop-i.invariant
