-- The invariant: over the first i codes, with n parts wanted after them, the same is left over.
use Rattle.std.proofs.Common.{◌≡◌, refl, sym, ◌∙◌, ◌+◌, ◌-◌, ◌<◌, get_or, length, arith}
use Rattle.postfix.specs.declared.Code.TheVariants.{Leaf}
use Rattle.parts.proofs.Cut.{wanted_few, from_end, one_back, all_there, none_left}
use Rattle.parts.proofs.second.Goals as goal

pub loop-i-init : goal.loop-i-init
loop-i-init c = (from_end c.args.codes.now (length c.args.codes.now) 1 refl, omega arith)

pub returns-then-n-eq0 : goal.returns-then-n-eq0
returns-then-n-eq0 c =
    let l = c.loop-i in
    let back : l.i - 1 + 1 ≡ l.i = omega arith in
    (back ∙ sym (l.invariant.0 ∙ all_there c.args.codes.now l.i l.n c.if-n-eq0.true l.auto.i), omega arith)

pub loop-i-preserved : goal.loop-i-preserved
loop-i-preserved c =
    let l = c.loop-i in
    let w = c.wanted-n.ensures in
    let some : 0 < l.n = omega (arith, c.if-n-eq0.false) in
    (rw w (l.invariant.0 ∙ one_back c.args.codes.now l.i l.n (l.i - 1) Leaf (omega arith) l.auto.i some), omega (arith, w, wanted_few (get_or c.args.codes.now (l.i - 1) Leaf) l.n))

pub returns : goal.returns
returns c =
    let l = c.loop-i in
    (sym (l.invariant.0 ∙ none_left c.args.codes.now l.i l.n (omega (arith, c.loop-i-test.false))), omega arith)
