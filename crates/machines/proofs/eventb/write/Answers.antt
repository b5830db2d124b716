-- The codes of the process stand in their column; then one part of the text after the other.
use Rattle.std.proofs.Common.{arith}
use Rattle.translator.proofs.Cases.{numbers_fit, numbers_there}
use Rattle.machines.proofs.Drawn.{as_read, its_shown}
use Rattle.machines.proofs.Written.{event_written}
use Rattle.machines.proofs.eventb.write.Goals as goal

pub slice_bounds-codes-end : goal.slice_bounds-codes-end
slice_bounds-codes-end c =
    let e = c.expand-n in
    numbers_fit c.args.d.now (as_read c.args.text.now c.args.d.now c.requires.0) e.result e.new.codes e.ensures.value e.ensures.codes_after

pub slice_bounds-write-end : goal.slice_bounds-write-end
slice_bounds-write-end c =
    let e = c.expand-n in
    numbers_there c.args.d.now (as_read c.args.text.now c.args.d.now c.requires.0) e.result e.new.codes e.ensures.value e.ensures.codes_after

pub returns : goal.returns
returns c k =
    let e = c.expand-n in
    let v = c.names-variables in
    event_written c.args.text.now c.args.d.now k v.result v.ensures e.result e.new.codes e.ensures.value e.ensures.codes_after c.args.e
    (omega (arith, c.requires.1, (its_shown c.args.text.now c.args.d.now k).events)) _ _ _ _ _ _ c.write-from.result
    c.head.ensures c.write-from.ensures c.bytes.ensures c.write.ensures c.bytes-2.ensures
