-- The walks that call each other meet their contracts. The measure is twice the depth left, and one more where the walk is inside a node. The
-- invariant of the loop over the parts: those left from here are those left from the start.
use Rattle.std.proofs.Common.{◌+◌}
use Rattle.expansion.proofs.Steps.{PartsLeft}
use Rattle.expansion.proofs.+walk.Given as goal

abbrev pub decreases-further : goal.decreases-further
decreases-further l = l.left + l.left + 1

abbrev pub decreases-looped : goal.decreases-looped
decreases-looped l = l.left + l.left + 1

abbrev pub decreases-part : goal.decreases-part
decreases-part l = l.left + l.left

abbrev pub invariant-further-loop-turn : goal.invariant-further-loop-turn
invariant-further-loop-turn l =
    PartsLeft l.nodes l.left l.i l.code l.copies (record { walk = l.initial.t; codes = l.initial.codes }) l._turn (record { walk = l.t; codes = l.codes })
