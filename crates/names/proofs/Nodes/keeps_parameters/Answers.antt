-- Rule 8 of a node, by its row and the pars around it.
use Rattle.std.proofs.Common.{sym, ◌∙◌}
use Rattle.names.proofs.Asked.{asked_many, asked_flow, asked_other, asked_copying, flow_alone}
use Rattle.names.proofs.Its.{its_kind, its_name, its_end}
use Rattle.names.proofs.Nodes.keeps_parameters.Goals as goal

pub returns-then-around-gt3-clause-value : goal.returns-then-around-gt3-clause-value
returns-then-around-gt3-clause-value c = λ t h a. asked_many t h _ _ a c.if-around-gt3.true

pub returns-then-is_flow-clause-value : goal.returns-then-is_flow-clause-value
returns-then-is_flow-clause-value c = λ t h a.
    asked_flow t h _ _ a c.if-around-gt3.false (its_kind c.row-row.ensures) (sym c.is_flow.ensures ∙ c.if-is_flow.true)
    (flow_alone _ (sym c.is_flow.ensures ∙ c.if-is_flow.true)) (c.end.ensures.value ∙ its_end c.row-row.ensures)
    c.is_listed.ensures

pub returns-then-is_replicator-clause-value : goal.returns-then-is_replicator-clause-value
returns-then-is_replicator-clause-value c = λ t h a.
    asked_copying t h _ _ a c.if-around-gt3.false (its_kind c.row-row.ensures) (sym c.is_flow.ensures ∙ c.if-is_flow.false)
    (sym c.is_replicator.ensures ∙ c.if-is_replicator.true) (c.name.ensures ∙ its_name c.row-row.ensures) c.is_fresh.ensures

pub returns-clause-value : goal.returns-clause-value
returns-clause-value c = λ t h a.
    asked_other t h _ _ a c.if-around-gt3.false (its_kind c.row-row.ensures) (sym c.is_flow.ensures ∙ c.if-is_flow.false)
    (sym c.is_replicator.ensures ∙ c.if-is_replicator.false)
