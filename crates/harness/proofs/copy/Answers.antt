-- The first bytes are copied, as far as there is room.
use mathlib.Core.Path.{◌≡◌, sym, ap, ◌∙◌}
use native.Mathlib.Numerals.{add-one}
use lib.ListN.{get_or, set, take}
use lib.Seq.{take_all}
use Rattle.base.specs.Fill.{fill}
use Rattle.base.proofs.Filled.{fill_none, fill_more}
use Rattle.harness.proofs.copy.Goals as goal

pub loop-i-init : goal.loop-i-init
loop-i-init c = sym (fill_none c.args.out.now)

pub loop-i-preserved : goal.loop-i-preserved
loop-i-preserved c =
    let l = c.loop-i in
    let bytes = c.args.bytes.now in
    let out = c.args.out.now in
    c.put.ensures
    ∙ (ap (λ o. set o l.i (get_or bytes l.i 0)) l.invariant
    ∙ (fill_more out bytes l.i c.loop-i-test.true ∙ ap (λ k. fill out (take k bytes)) (sym (add-one l.i))))

pub returns-clause-out_after : goal.returns-clause-out_after
returns-clause-out_after c =
    let l = c.loop-i in
    l.invariant ∙ ap (fill c.args.out.now) (take_all l.i c.args.bytes.now c.loop-i-test.false)
