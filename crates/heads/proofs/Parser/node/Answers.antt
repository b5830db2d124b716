-- `heads::Parser::node` meets its contract: the tests of the machine at a node's keyword, and its row.
use Rattle.std.proofs.Common.{refl, sym, add-one, arith}
use Rattle.walked.specs.Walk.{begun}
use Rattle.walked.proofs.Laws.{starts, off_grammar, over_limit, opens, begins_none, begins_one, node_no_key, node_barred, node_deep, node_many}
use Rattle.heads.proofs.Parser.node.Goals as goal
use Rattle.heads.proofs.Parser.node.Goals.{then-left-eq0-via-then-left-eq0, then-left-eq0-via-else-left-eq0+then-p-ge256}

pub returns-in_default : goal.returns-in_default
returns-in_default c =
    begins_none (λ s. off_grammar starts c.next-t.ensures c.at.ensures (node_no_key _ _ _ _ (sym c.in_default.ensures)))

pub returns-then-not-allows : goal.returns-then-not-allows
returns-then-not-allows c =
    begins_none (λ s. off_grammar starts c.next-t.ensures c.at-then-not-allows.ensures
    (node_barred _ _ _ _ _ (sym c.in-Some.ensures) (sym c.if-not-allows.ensures)))

pub returns-then-left-eq0 : goal.returns-then-left-eq0
returns-then-left-eq0 c =
    let k = sym c.in-Some.ensures in
    let a = sym c.if-not-allows.ensures in
    begins_none (λ s. over_limit starts c.next-t.ensures c.at-then-left-eq0.ensures
    (elim c.then-left-eq0.branch [
      | then-left-eq0-via-then-left-eq0 w ↦ node_deep _ _ _ _ _ k a w.if-left-eq0.true
      | then-left-eq0-via-else-left-eq0+then-p-ge256 w ↦ node_many _ _ _ _ _ k a (omega arith)
    ]))

pub returns : goal.returns
unfolding begun
returns c =
    let k = sym c.in-Some.ensures in
    let a = sym c.if-not-allows.ensures in
    begins_one a (omega (arith, c.if-left-eq0.false))
    (λ s. opens _ _ c.next-t.ensures (rw (c.put.ensures, add-one c.args.p.nodes, c.begun.ensures, c.kind.ensures, c.saturating_sub-depth.ensures) refl) k a
    c.if-left-eq0.false (omega arith))
