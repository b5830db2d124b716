-- The number, or what the event is called.
use Rattle.said.proofs.Saying.{says_number, says_label}
use Rattle.said.proofs.says.Goals as goal

pub returns-then-eq : goal.returns-then-eq
returns-then-eq c = let p = c.parted.ensures in says_number c.args.line.now c.args.said.now _ _ p.before p.after c.eq.ensures c.if-eq.true

pub returns-else-eq : goal.returns-else-eq
returns-else-eq c = let p = c.parted.ensures in says_label c.args.line.now c.args.said.now _ _ p.before p.after c.eq.ensures c.if-eq.false c.eq-else-eq.ensures
