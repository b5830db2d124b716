-- The pars passed, the nearest first, differ from the one that starts at `at`.
use Rattle.std.proofs.Common.{length}
use Rattle.tokens.specs.Words.{word_at}
use Rattle.names.proofs.Surrounding.{Fresh}
use Rattle.names.proofs.Nodes.is_fresh.Given as goal

abbrev pub invariant-loop-k : goal.invariant-loop-k
invariant-loop-k l =
    let text = l.self.lexer.now.text.now in
    Fresh text l.self.rows.now l.around (word_at text l.at) (length l.around) l.k
