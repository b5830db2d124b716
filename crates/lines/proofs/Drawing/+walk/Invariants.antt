-- The walks that call each other. The measure is twice the depth left, and one more where the walk is inside a node. The invariants of the loops over
-- the parts and over the values: those left from here are those left from the start.
use Rattle.std.proofs.Common.{◌≡◌, ◌+◌}
use Rattle.lines.specs.code.Walks.{stands, part as part_of}
use Rattle.lines.proofs.Steps.{PartsLeft, CopiesLeft}
use Rattle.lines.proofs.Drawing.+walk.Given as goal

abbrev pub decreases-copies : goal.decreases-copies
decreases-copies l = l.left + l.left + 1

abbrev pub decreases-part : goal.decreases-part
decreases-part l = l.left + l.left

abbrev pub decreases-parts : goal.decreases-parts
decreases-parts l = l.left + l.left + 1

abbrev pub invariant-copies-loop-value : goal.invariant-copies-loop-value
invariant-copies-loop-value l =
    (l.w.out.ghost_name ≡ l.initial.w.out.ghost_name)
    × CopiesLeft (part_of l.self.text.now l.left l.self.nodes.now) l.s.node l.values l.size (stands l.s l.initial.w) l.value (stands l.t l.w)

abbrev pub invariant-parts-loop-turn : goal.invariant-parts-loop-turn
invariant-parts-loop-turn l =
    (l.w.out.ghost_name ≡ l.initial.w.out.ghost_name)
    × PartsLeft (part_of l.self.text.now l.left l.self.nodes.now l.values) l.self.nodes.now l.i (stands l.initial.t l.initial.w) l._turn (stands l.t l.w)
