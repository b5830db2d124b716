-- The nodes passed do not have the name.
use Rattle.std.proofs.Common.{◌-◌, arith}
use Rattle.names.proofs.Chained.{chain_start, chain_end, chain_found, chain_next}
use Rattle.std.proofs.Common.{◌∙◌}
use Rattle.names.proofs.Its.{its_name}
use Rattle.names.proofs.Nodes.is_taken.Goals as goal

pub loop-j-init : goal.loop-j-init
loop-j-init c = (omega arith, λ i l e. chain_start _ _ _ i _ e)

pub returns-then-same : goal.returns-then-same
returns-then-same c = λ i l e.
    chain_found (c.loop-j.invariant.1 i l e) c.loop-j-test.true (c.name.ensures ∙ its_name c.row.ensures) c.same.ensures c.if-same.true

pub loop-j-smaller : goal.loop-j-smaller
loop-j-smaller c = omega (arith, c.requires.1.each (c.loop-j.j - 1))

pub loop-j-preserved : goal.loop-j-preserved
loop-j-preserved c = (
  omega (arith, c.requires.1.each (c.loop-j.j - 1), c.loop-j.invariant.0),
  λ i k e.
      chain_next (c.loop-j.invariant.1 i k e) c.loop-j-test.true (c.name.ensures ∙ its_name c.row.ensures) c.same.ensures c.if-same.false k c.from-j.ensures,
)

pub returns : goal.returns
returns c = λ i l e. chain_end (c.loop-j.invariant.1 i l e) c.loop-j-test.false
