-- The nodes of the first i rows are stored over the blank ones.
use Rattle.reader.proofs.Stored.{Storing}
use Rattle.reader.proofs.store.Given as goal

abbrev pub invariant-loop-i : goal.invariant-loop-i
invariant-loop-i l = Storing l.nodes.rows.now l.nodes.count l.diagram.nodes l.i
