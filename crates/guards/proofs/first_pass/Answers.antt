-- `first_pass` meets its contract: each turn is a step of the pass.
use Rattle.std.proofs.lemmas.List.{take_more}
use Rattle.guards.proofs.FirstTurns.{first_turn}
use Rattle.guards.proofs.first_pass.Goals as goal

pub loop-op-preserved : goal.loop-op-preserved
loop-op-preserved c =
    let l = c.loop-op in
    let made = c.add_part-added.ensures in
    first_turn _ _ l.op-index l.table l.e l.parts.items l.needs.items l.invariant _ (take_more _ l.op-index _ c.loop-op-test.true) _ c.event_count-e.ensures
    c.add_part-added.result c.add_part-added.new.table c.add_part-added.new.parts.items _ _ made.made made.parts_after made.few c.push.ensures.items c.push-in-loop-op.ensures.items
