-- By the variables and the root.
use Rattle.machines.proofs.Written.{opening_written}
use Rattle.machines.proofs.eventb.open.Goals as goal

pub returns : goal.returns
returns c k =
    let v = c.names-variables in
    opening_written c.args.text.now c.args.d.now k v.result v.ensures _ _ _ (rw c.from.ensures at c.open.ensures)
