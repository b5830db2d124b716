-- The walks that call each other meet their contracts, by what a node is, and by whether there is one part more. Assumes nothing.
use Rattle.std.proofs.Common.{◌≡◌, ap, ◌∙◌, arith, ◌-◌, sym}
use Rattle.expansion.specs.Walks.{again_at, more, further as further_of, part as part_of}
use Rattle.expansion.proofs.Steps.{parts_left_begin, parts_left_none, parts_left_shallow, parts_left_next, part_none, part_past, part_node}
use Rattle.expansion.proofs.+walk.Goals as goal
use Rattle.expansion.proofs.+walk.Goals.{part-then-left-eq0-via-then-left-eq0, part-then-left-eq0-via-else-left-eq0+then-nodes-s, further-in-None, further-in-Some}

pub further-loop-turn-init : goal.further-loop-turn-init
further-loop-turn-init t c = parts_left_begin

pub further-returns-then-depth : goal.further-returns-then-depth
further-returns-then-depth t c =
    let a = c.args in
    let next : c.match-copies.node ≡ again_at a.copies a.i c.loop-turn.t.node =
    elim c.match-copies.branch [
      | further-in-None w ↦ rw w.in-None.is w.node-is
      | further-in-Some w ↦ rw w.in-Some.is w.node-is
    ] in
    parts_left_shallow c.loop-turn.invariant (omega (arith, c.more-turn-end.ensures, c.loop-turn-test.true)) next
    (omega (arith, c.depth.ensures, c.depth-in-loop-turn.ensures, c.if-depth.true))

pub further-loop-turn-preserved : goal.further-loop-turn-preserved
further-loop-turn-preserved t c =
    let a = c.args in
    let next : c.match-copies.node ≡ again_at a.copies a.i c.loop-turn.t.node =
    elim c.match-copies.branch [
      | further-in-None w ↦ rw w.in-None.is w.node-is
      | further-in-Some w ↦ rw w.in-Some.is w.node-is
    ] in
    parts_left_next c.loop-turn.invariant (omega (arith, c.more-turn-end.ensures, c.loop-turn-test.true)) next
    (omega (arith, c.depth.ensures, c.depth-in-loop-turn.ensures, c.if-depth.false)) c.part-after.ensures c.add-t.ensures
    (c.add-t.auto.codes ∙ c.part-after.auto.codes)

pub further-returns : goal.further-returns
further-returns t c =
    parts_left_none c.loop-turn.invariant (omega (arith, c.more-turn-end.ensures, c.loop-turn-test.false))

pub part-returns-then-left-eq0 : goal.part-returns-then-left-eq0
part-returns-then-left-eq0 t c =
    elim c.then-left-eq0.branch [
      | part-then-left-eq0-via-then-left-eq0 w ↦ part_none _ _ w.if-left-eq0.true
      | part-then-left-eq0-via-else-left-eq0+then-nodes-s w ↦ part_past _ _ _ w.if-nodes-s.true
    ]

pub part-returns-in-Leaf : goal.part-returns-in-Leaf
part-returns-in-Leaf t c =
    c.add.ensures ∙ part_node _ _ _ _ c.if-left-eq0.false c.if-nodes-s.false (sym c.in-Leaf.is ∙ c.from.ensures)

pub part-returns-in-Loop : goal.part-returns-in-Loop
part-returns-in-Loop t c =
    c.looped.ensures ∙ part_node _ _ _ _ c.if-left-eq0.false c.if-nodes-s.false (sym c.in-Loop.is ∙ c.from.ensures)

pub part-returns-in-Joined : goal.part-returns-in-Joined
part-returns-in-Joined t c =
    let a = c.args in
    c.further.ensures
    ∙ ap (further_of (part_of (a.left - 1) a.nodes.now) a.nodes.now a.s.node c.in-Joined.code c.in-Joined.copies (more c.in-Joined.copies)) c.part-first.ensures
    ∙ part_node _ _ _ _ c.if-left-eq0.false c.if-nodes-s.false (sym c.in-Joined.is ∙ c.from.ensures)
