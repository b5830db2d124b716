-- The measure is three times the depth left, and one or two more for those that call others with the same depth. The invariants say how the machine
-- got from where the loop began to where it is.
use Rattle.std.proofs.Common.{ℕ, ◌+◌, ◌*◌, ◌-◌, List, [], ◌∷◌, ◌++◌, length}
use Rattle.grammar.specs.Machine.{member, child, node, more, others, ref}
use Rattle.walked.specs.Walk.{state}
use Rattle.walked.proofs.Laws.{Leads}
use Rattle.walk.proofs.+figure.Given as goal

abbrev pub decreases-body : goal.decreases-body
decreases-body l = l.depth * 3 + 1

abbrev pub decreases-read_child : goal.decreases-read_child
decreases-read_child l = l.depth * 3

abbrev pub decreases-of_keyword : goal.decreases-of_keyword
decreases-of_keyword l = l.depth * 3 + 2

abbrev pub decreases-flow : goal.decreases-flow
decreases-flow l = l.depth * 3 + 1

abbrev pub decreases-group : goal.decreases-group
decreases-group l = l.depth * 3 + 1

abbrev pub decreases-read_member : goal.decreases-read_member
decreases-read_member l = l.depth * 3

abbrev pub invariant-flow-loop-p : goal.invariant-flow-loop-p
invariant-flow-loop-p l =
    let ws = node child l.depth ∷ ref ++ (more l.depth ∷ []) in
    (s : List ℕ) → Leads l.parser.lexer.text.now ws l.initial.p.nodes l.initial.p.at (state l.initial.rows s) ws l.p.nodes l.p.at (state l.rows s)

abbrev pub decreases-flow-loop-p : goal.decreases-flow-loop-p
decreases-flow-loop-p l = length l.parser.lexer.text.now - l.p.at

abbrev pub invariant-group-loop-p : goal.invariant-group-loop-p
invariant-group-loop-p l =
    let ws = node member l.depth ∷ others l.depth ∷ [] in
    (s : List ℕ) → Leads l.parser.lexer.text.now ws l.initial.p.nodes l.initial.p.at (state l.initial.rows s) ws l.p.nodes l.p.at (state l.rows s)

abbrev pub decreases-group-loop-p : goal.decreases-group-loop-p
decreases-group-loop-p l = length l.parser.lexer.text.now - l.p.at
