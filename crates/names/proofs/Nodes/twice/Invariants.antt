-- The names passed differ, and their nodes are linked by their marks.
use Rattle.rules.specs.Kept.{names_kept}
use Rattle.names.specs.code.Told.{Told}
use Rattle.names.proofs.Searched.{Searched}
use Rattle.names.proofs.Named.{Linkable, Linking}
use Rattle.names.proofs.Nodes.twice.Given as goal

abbrev pub invariant-loop-i : goal.invariant-loop-i
invariant-loop-i l =
    let text = l.self.lexer.now.text.now in
    let rows = l.self.rows.now in
    Linkable l.heads l.links l.i
    × ((t : Told text rows l.self.count) → Linking text rows l.heads l.links l.i × Searched names_kept t.hs l.i)
