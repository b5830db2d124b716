-- The nodes of the first i rows are stored over the blank ones.
use Rattle.std.proofs.Common.{ap}
use Rattle.walked.specs.declared.Row.{Row}
use Rattle.reader.proofs.Stored.{storing_none, storing_more, storing_all}
use Rattle.reader.proofs.store.Goals as goal

pub loop-i-init : goal.loop-i-init
loop-i-init c = storing_none _ _ c.empty-diagram.ensures

pub loop-i-preserved : goal.loop-i-preserved
loop-i-preserved c = storing_more c.loop-i.invariant c.args.nodes.now.few c.loop-i-test.true (ap (λ (r : Row). r.node) c.row.ensures)

pub returns : goal.returns
returns c text hs l r = storing_all c.loop-i.invariant text hs _ _ c.loop-i-test.false l r
