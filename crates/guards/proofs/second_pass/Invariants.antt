-- `second_pass` meets its contract: after some turns the pass stands where as many codes from the end lead.
use Rattle.guards.proofs.SecondTurns.{SecondTo}
use Rattle.guards.proofs.second_pass.Given as goal

abbrev pub invariant-loop-op : goal.invariant-loop-op
invariant-loop-op l = SecondTo l.yielded l.initial.table l.event l.initial.needs.items l.table l.e l.gates.items l.needs.items
