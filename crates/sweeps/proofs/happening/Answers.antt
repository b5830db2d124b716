-- `sweeps::happening` meets its contract: a leaf, or a loop before a flow.
use Rattle.std.proofs.Common.{sym, ◌∙◌}
use Rattle.sweeps.proofs.Events.{event_leaf, event_other, event_last, event_next}
use Rattle.names.proofs.Its.{its_kind}
use Rattle.sweeps.proofs.happening.Goals as goal
use Rattle.sweeps.proofs.happening.Goals.{else-is_loop-via-then-is_loop+then-next-nodes+else-is_flow, else-is_loop-via-then-is_loop+else-next-nodes, else-is_loop-via-else-is_loop}

pub returns-then-is_leaf-clause-value : goal.returns-then-is_leaf-clause-value
returns-then-is_leaf-clause-value c = λ t.
    event_leaf t c.requires c.args.n (its_kind c.row-row.ensures) (sym c.is_leaf.ensures ∙ c.if-is_leaf.true)

pub returns-then-is_flow-clause-value : goal.returns-then-is_flow-clause-value
returns-then-is_flow-clause-value c = λ t.
    rw c.if-is_flow.true at
    (event_next t c.requires c.args.n (its_kind c.row-row.ensures) (sym c.is_leaf.ensures ∙ c.if-is_leaf.false)
    (sym c.is_loop.ensures ∙ c.if-is_loop.true) c.if-next-nodes.true (its_kind c.row.ensures) c.is_flow.ensures)

pub returns-clause-value : goal.returns-clause-value
returns-clause-value c = λ t.
    let its = (its_kind c.row-row.ensures) in
    let no = sym c.is_leaf.ensures ∙ c.if-is_leaf.false in
    elim c.else-is_loop.branch [
      | else-is_loop-via-then-is_loop+then-next-nodes+else-is_flow w ↦
          rw w.if-is_flow.false at
          (event_next t c.requires c.args.n its no (sym c.is_loop.ensures ∙ w.if-is_loop.true) w.if-next-nodes.true (its_kind w.row.ensures) w.is_flow.ensures)
      | else-is_loop-via-then-is_loop+else-next-nodes w ↦ event_last t c.requires c.args.n its no (sym c.is_loop.ensures ∙ w.if-is_loop.true) w.if-next-nodes.false
      | else-is_loop-via-else-is_loop w ↦ event_other t c.requires c.args.n its no (sym c.is_loop.ensures ∙ w.if-is_loop.false)
    ]
