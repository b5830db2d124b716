-- The nodes passed keep number 10; the counts so far, and the copies of a node at each depth at which the next one may be.
use Rattle.std.proofs.Common.{◌≤◌}
use Rattle.rules.specs.Kept.{strongs_kept}
use Rattle.names.specs.code.Told.{Told}
use Rattle.names.proofs.Searched.{Searched}
use Rattle.sweeps.proofs.Counting.{Small, Counting}
use Rattle.sweeps.proofs.counts.Given as goal

abbrev pub invariant-loop-i : goal.invariant-loop-i
invariant-loop-i l =
    let n = l.nodes in
    (l.copies ≤ 769) × (l.events ≤ 769) × Small l.around
    × ((t : Told n.lexer.now.text.now n.rows.now n.count) → Searched strongs_kept t.hs l.i × Counting t.hs l.around l.copies l.events l.i)
