-- The nodes passed do not have the name.
use Rattle.std.proofs.Common.{◌≡◌, ℕ, ◌≤◌}
use Rattle.tokens.specs.Words.{word_at}
use Rattle.names.specs.code.Marks.{mark_of, latest, Linked}
use Rattle.names.proofs.Chained.{Chain}
use Rattle.names.proofs.Nodes.is_taken.Given as goal

abbrev pub invariant-loop-j : goal.invariant-loop-j
invariant-loop-j l =
    let text = l.self.lexer.now.text.now in
    let rows = l.self.rows.now in
    (l.j ≤ 256) × ((i : ℕ) → Linked text rows l.links i → l.from ≡ latest text rows (mark_of (word_at text l.at)) i → Chain text rows (word_at text l.at) i l.j)

abbrev pub decreases-loop-j : goal.decreases-loop-j
decreases-loop-j l = l.j
