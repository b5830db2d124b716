-- The walks that call each other meet their contracts, by what a node is, and by whether there is one part or one value more. Assumes nothing.
use Rattle.std.proofs.Common.{refl, sym, ◌∙◌}
use Rattle.lines.proofs.Steps.{parts_left_begin, parts_left_none, parts_left_shallow, parts_left_next, copies_left_begin, copies_left_none, copies_left_next, part_none, part_past, part_leaf, part_copies, part_parts, part_reset, part_ends}
use Rattle.lines.proofs.Drawing.+walk.Goals as goal
use Rattle.lines.proofs.Drawing.+walk.Goals.{part-then-left-eq0-via-then-left-eq0, part-then-left-eq0-via-else-left-eq0+then-s-ge256}

pub copies-loop-value-init : goal.copies-loop-value-init
copies-loop-value-init t c = (refl, copies_left_begin)

pub copies-loop-value-preserved : goal.copies-loop-value-preserved
copies-loop-value-preserved t c =
    let l = c.loop-value in
    let p = c.part-t.ensures in
    (p.same ∙ l.invariant.0, copies_left_next l.invariant.1 c.loop-value-test.true (rw c.from.ensures at c.push.ensures) p.places)

pub copies-returns : goal.copies-returns
copies-returns t c =
    let l = c.loop-value in
    record { same = l.invariant.0; places = copies_left_none l.invariant.1 c.loop-value-test.false }

pub part-returns-then-left-eq0 : goal.part-returns-then-left-eq0
part-returns-then-left-eq0 t c = record {
  same = refl;
  places = elim c.then-left-eq0.branch [
    | part-then-left-eq0-via-then-left-eq0 w ↦ part_none _ _ _ _ w.if-left-eq0.true
    | part-then-left-eq0-via-else-left-eq0+then-s-ge256 w ↦ part_past _ _ _ _ _ w.if-s-ge256.true
  ];
}

pub part-returns-in-Leaf : goal.part-returns-in-Leaf
part-returns-in-Leaf t c = record {
  same = c.tell.ensures.same;
  places = c.tell.ensures.places ∙ part_leaf _ _ _ _ c.if-left-eq0.false c.if-s-ge256.false c.at-node.ensures (sym c.from.ensures ∙ c.in-Leaf.is);
}

pub part-returns-in-Some : goal.part-returns-in-Some
part-returns-in-Some t c =
    let p = c.parts-after.ensures in record {
      same = c.tell-in-Some.ensures.same ∙ p.same;
      places = c.tell-in-Some.ensures.places
          ∙ part_reset _ _ _ _ c.if-left-eq0.false c.if-s-ge256.false c.at-node.ensures (sym c.from.ensures ∙ c.in-Loop.is) p.places (sym c.flow_name.ensures ∙ c.in-Some.is);
    }

pub part-returns-in-None : goal.part-returns-in-None
part-returns-in-None t c =
    let p = c.parts-after.ensures in record {
      same = p.same;
      places = part_ends _ _ _ _ c.if-left-eq0.false c.if-s-ge256.false c.at-node.ensures (sym c.from.ensures ∙ c.in-Loop.is) p.places (sym c.flow_name.ensures ∙ c.in-None.is);
    }

pub part-returns-in-Joined-default-None : goal.part-returns-in-Joined-default-None
part-returns-in-Joined-default-None t c =
    let p = c.parts.ensures in record {
      same = p.same;
      places = p.places ∙ part_parts _ _ _ _ c.if-left-eq0.false c.if-s-ge256.false c.at-node.ensures (rw c.in-Joined-default-None.field-1-is at (sym c.from.ensures ∙ c.in-Joined-default-None.is));
    }

pub part-returns-in-Joined-default-Some : goal.part-returns-in-Joined-default-Some
part-returns-in-Joined-default-Some t c =
    let p = c.copies.ensures in record {
      same = p.same;
      places = part_copies _ _ _ _ c.if-left-eq0.false c.if-s-ge256.false c.at-node.ensures (rw c.in-Joined-default-Some.field-1-is at (sym c.from.ensures ∙ c.in-Joined-default-Some.is))
          (sym c.in-Joined-default-Some.size-is) p.places;
    }

pub parts-loop-turn-init : goal.parts-loop-turn-init
parts-loop-turn-init t c = (refl, parts_left_begin)

pub parts-returns-then-depth : goal.parts-returns-then-depth
parts-returns-then-depth t c =
    let l = c.loop-turn in record {
      same = l.invariant.0;
      places = parts_left_shallow l.invariant.1 c.loop-turn-test.true c.depth.ensures c.depth-in-loop-turn.ensures c.if-depth.true;
    }

pub parts-loop-turn-preserved : goal.parts-loop-turn-preserved
parts-loop-turn-preserved t c =
    let l = c.loop-turn in
    let p = c.part-t.ensures in
    (p.same ∙ l.invariant.0, parts_left_next l.invariant.1 c.loop-turn-test.true c.depth.ensures c.depth-in-loop-turn.ensures c.if-depth.false p.places)

pub parts-returns : goal.parts-returns
parts-returns t c =
    let l = c.loop-turn in
    record { same = l.invariant.0; places = parts_left_none l.invariant.1 c.loop-turn-test.false }
