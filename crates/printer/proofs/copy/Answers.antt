-- One part after the other.
use Rattle.printer.proofs.Copied.{copied_start, part_inside, less_left, copied_more, copied_all}
use Rattle.printer.proofs.copy.Goals as goal

pub loop-at-init : goal.loop-at-init
loop-at-init c = copied_start _ _ _ (rw c.new-lexer.ensures at c.gap-at.ensures)

pub slice_bounds-bytes-end : goal.slice_bounds-bytes-end
slice_bounds-bytes-end c = (part_inside _ _ _ _ c.loop-at.invariant _ c.loop-at-test.true (rw c.new-lexer.ensures at c.run_end-end.ensures)).1

pub loop-at-smaller : goal.loop-at-smaller
loop-at-smaller c =
    less_left _ _ _ _ c.loop-at.invariant _ c.loop-at-test.true (rw c.new-lexer.ensures at c.run_end-end.ensures) _ (rw c.new-lexer.ensures at c.gap-at-in-loop-at.ensures)

pub loop-at-preserved : goal.loop-at-preserved
loop-at-preserved c =
    copied_more _ _ _ _ c.loop-at.invariant _ c.loop-at-test.true (rw c.new-lexer.ensures at c.run_end-end.ensures) _ _ c.bytes.ensures
    (rw c.new-lexer.ensures at c.gap-at-in-loop-at.ensures)

pub returns : goal.returns
returns c = copied_all _ _ _ _ c.loop-at.invariant c.loop-at-test.false
