-- The weights of the solid children among the nodes from i on, and the first of these nodes that breaks the rule.
use Rattle.std.proofs.Common.{◌≡◌, ◌<◌, length, IfSome}
use Rattle.names.specs.code.Told.{Told}
use Rattle.sweeps.proofs.Weighed.{Weighed, First}
use Rattle.sweeps.proofs.unsolid.Given as goal

abbrev pub invariant-loop-i : goal.invariant-loop-i
invariant-loop-i l =
    let n = l.nodes in
    (length l.weights ≡ 14) × IfSome l.first (λ k. k < n.count) × ((t : Told n.lexer.now.text.now n.rows.now n.count) → Weighed t.hs l.weights l.i × First t.hs l.first l.i)
