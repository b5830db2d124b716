-- `search::seek` meets its contract: what is found from node i on is what the whole search finds. Assumes nothing.
use Rattle.std.proofs.Common.{[], refl, sym, ◌∙◌}
use borrow.Author.Tests.{eqb-false}
use Rattle.labels.specs.Seeks.{next}
use Rattle.labels.proofs.Steps.{turn_other}
use Rattle.search.proofs.Searched.{seek_found, seek_on, seek_end}
use Rattle.search.proofs.seek.Goals as goal
use Rattle.search.proofs.seek.Goals.{then-is_part+in-Continue, else-is_part}

pub loop-i-init : goal.loop-i-init
loop-i-init c = rw c.none.ensures

pub returns-in-Break : goal.returns-in-Break
returns-in-Break c =
    let l = c.loop-i in
    seek_found c.args.nodes.now l.i l.s c.loop-i-test.true _ c.at-q.ensures c.turn.ensures c.in-Break.spot c.in-Break.is ∙ l.invariant

pub loop-i-preserved : goal.loop-i-preserved
loop-i-preserved c =
    let l = c.loop-i in
    let nodes = c.args.nodes.now in
    elim c.if-is_part.branch [
      | then-is_part+in-Continue w ↦
          rw w.s-is (seek_on nodes l.i l.s c.loop-i-test.true _ w.at-q.ensures w.turn.ensures w.in-Continue.further w.in-Continue.is ∙ l.invariant)
      | else-is_part w ↦
          rw w.s-is
          (seek_on nodes l.i l.s c.loop-i-test.true (next []) refl refl l.s
          (turn_other _ _ l.s (eqb-false _ _ (sym c.is_part.ensures ∙ w.if-is_part.false))) ∙ l.invariant)
    ]

pub returns : goal.returns
returns c = let l = c.loop-i in seek_end c.args.nodes.now l.i l.s c.loop-i-test.false ∙ l.invariant
