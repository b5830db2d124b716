-- `search::parts` meets its contract, by the depth of a node. Assumes nothing.
use Rattle.std.proofs.Common.{refl, sym, ◌∙◌, arith}
use Rattle.search.proofs.Searched.{parts_stop, parts_done, parts_add, parts_skip}
use Rattle.search.proofs.parts.Goals as goal
use Rattle.search.proofs.parts.Goals.{then-node-depth-eq1, else-node-depth-eq1}

pub returns-then-node-depth-clause-value : goal.returns-then-node-depth-clause-value
returns-then-node-depth-clause-value c =
    let l = c.loop-node in
    sym (parts_stop c.args.depth l.n l.node-index c.args.rest.now _ c.loop-node-test.true c.if-node-depth.true) ∙ l.invariant.1

pub loop-node-preserved : goal.loop-node-preserved
loop-node-preserved c =
    let l = c.loop-node in
    let rs = c.args.rest.now in
    elim c.if-node-depth-eq1.branch [
      | then-node-depth-eq1 w ↦ (
        rw w.n-is (omega arith),
        rw w.n-is (parts_add c.args.depth l.n l.node-index rs _ c.loop-node-test.true _ c.if-node-depth.false w.if-node-depth-eq1.true refl ∙ l.invariant.1),
      )
      | else-node-depth-eq1 w ↦ (
        rw w.n-is l.invariant.0,
        rw w.n-is (parts_skip c.args.depth l.n l.node-index rs _ c.loop-node-test.true c.if-node-depth.false w.if-node-depth-eq1.false ∙ l.invariant.1),
      )
    ]

pub returns-clause-value : goal.returns-clause-value
returns-clause-value c =
    let l = c.loop-node in
    sym (parts_done c.args.depth l.n l.node-index c.args.rest.now c.loop-node-test.false) ∙ l.invariant.1
