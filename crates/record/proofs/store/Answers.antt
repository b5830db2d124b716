-- The first bytes are written, as far as there is room.
use mathlib.Core.Path.{sym}
use Rattle.base.proofs.Filled.{fill_none}
use Rattle.record.proofs.Bytes.{store_more, store_end}
use Rattle.record.proofs.store.Goals as goal

pub loop-i-init : goal.loop-i-init
loop-i-init c = sym (fill_none c.args.out.now)

pub loop-i-preserved : goal.loop-i-preserved
loop-i-preserved c =
    let l = c.loop-i in
    store_more c.args.bits c.args.out.now l.out c.put.new.column l.i c.loop-i-test.true l.invariant c.put.ensures

pub returns : goal.returns
returns c = let l = c.loop-i in store_end c.args.bits c.args.out.now l.out l.i c.loop-i-test.false l.invariant
