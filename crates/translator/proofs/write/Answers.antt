use Rattle.translator.proofs.Cases.{table_written, numbers_fit, numbers_there}
use Rattle.translator.proofs.write.Goals as goal

pub slice_bounds-codes-end : goal.slice_bounds-codes-end
slice_bounds-codes-end c =
    let e = c.expand-n in
    numbers_fit c.args.d.now c.requires.0 e.result e.new.codes e.ensures.value e.ensures.codes_after

pub slice_bounds-write_table-end : goal.slice_bounds-write_table-end
slice_bounds-write_table-end c =
    let e = c.expand-n in
    numbers_there c.args.d.now c.requires.0 e.result e.new.codes e.ensures.value e.ensures.codes_after

pub returns : goal.returns
returns c =
    let e = c.expand-n in
    let l = c.write_table in
    table_written c.args.d.now c.args.out.now c.requires.1 e.result l.result e.new.codes l.new.out e.ensures.value e.ensures.codes_after l.ensures
