-- The nodes passed keep the rule, and the pars around a node are known at each depth at which the next one may be.
use Rattle.rules.specs.Kept.{parameters_kept}
use Rattle.names.specs.code.Told.{Told}
use Rattle.names.proofs.Searched.{Searched}
use Rattle.names.proofs.Surrounded.{Roomy, Surrounded}
use Rattle.names.proofs.Nodes.unlisted.Given as goal

abbrev pub invariant-loop-i : goal.invariant-loop-i
invariant-loop-i l =
    let text = l.self.lexer.now.text.now in
    let rows = l.self.rows.now in
    Roomy l.pars l.many
    × ((t : Told text rows l.self.count) → Surrounded text rows l.pars l.many t.hs l.i × Searched parameters_kept t.hs l.i)
