-- `both_passes` meets its contract.
use Rattle.std.proofs.Common.{rules}
use Rattle.guards.proofs.PassesJoined.{passes_joined}
use Rattle.guards.proofs.both_passes.Goals as goal

pub returns : goal.returns
returns c =
    let begun = c.new-table.ensures in
    let last = c.finish.ensures in
    passes_joined c.args.ops.now c.args.events c.args.out.now c.new-table.result c.constants.new.self c.first_pass-whole.new.table c.second_pass.new.table
    c.add.new.self c.finish.new.self _ c.first_pass-whole.result _ _ begun.its_events begun.its_next begun.its_bytes c.constants.ensures
    c.first_pass-whole.ensures c.second_pass.ensures c.add.ensures.added last.value last.finished (search rules)
