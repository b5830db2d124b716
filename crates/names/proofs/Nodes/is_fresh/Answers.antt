-- The pars passed, the nearest first, differ from the one that starts at `at`.
use Rattle.names.proofs.Surrounding.{fresh_start, fresh_end, fresh_twice, fresh_next}
use Rattle.std.proofs.Common.{◌∙◌}
use Rattle.names.proofs.Its.{its_name}
use Rattle.names.proofs.Nodes.is_fresh.Goals as goal

pub loop-k-init : goal.loop-k-init
loop-k-init c = fresh_start _ _ _ _ _

pub returns-then-same : goal.returns-then-same
returns-then-same c = fresh_twice c.loop-k.invariant c.loop-k-test.true (c.name.ensures ∙ its_name c.row.ensures) c.same.ensures c.if-same.true

pub loop-k-preserved : goal.loop-k-preserved
loop-k-preserved c = fresh_next c.loop-k.invariant c.loop-k-test.true (c.name.ensures ∙ its_name c.row.ensures) c.same.ensures c.if-same.false

pub returns : goal.returns
returns c = fresh_end c.loop-k.invariant c.loop-k-test.false
