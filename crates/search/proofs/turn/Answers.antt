-- `search::turn` meets its contract, by the node's depth and how many events it has. Assumes nothing.
use Rattle.std.proofs.Common.{sym, ◌∙◌}
use borrow.Author.Tests.{eqb-true, eqb-false}
use Rattle.labels.proofs.Steps.{turn_other, turn_past, turn_inside}
use Rattle.search.proofs.turn.Goals as goal

pub returns-then-not-is_part : goal.returns-then-not-is_part
returns-then-not-is_part c =
    let a = c.args in
    sym (turn_other a.r a.q a.s (eqb-false _ _ (sym c.is_part.ensures ∙ c.if-not-is_part.true)))

pub returns-then-r-s : goal.returns-then-r-s
returns-then-r-s c =
    let a = c.args in
    sym (turn_past a.r a.q a.s (eqb-true _ _ (sym c.is_part.ensures ∙ c.if-not-is_part.false)) c.if-r-s.true)

pub returns : goal.returns
returns c =
    let a = c.args in
    c.inside.ensures ∙ sym (turn_inside a.r a.q a.s (eqb-true _ _ (sym c.is_part.ensures ∙ c.if-not-is_part.false)) c.if-r-s.false)
