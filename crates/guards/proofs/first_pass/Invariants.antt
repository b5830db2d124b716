-- `first_pass` meets its contract: after some turns the pass stands where as many codes lead.
use Rattle.guards.proofs.FirstTurns.{FirstTo}
use Rattle.guards.proofs.first_pass.Given as goal

abbrev pub invariant-loop-op : goal.invariant-loop-op
invariant-loop-op l = FirstTo l.ops l.initial.table l.op-index l.table l.e l.parts.items l.needs.items
