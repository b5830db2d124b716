-- What is left of the two words decides.
use Rattle.std.proofs.Common.{◌≡◌}
use Rattle.diagram.specs.Names.{same}
use Rattle.tokens.specs.Words.{word_at}
use Rattle.lexer.proofs.same.Given as goal

abbrev pub invariant-loop-p : goal.invariant-loop-p
invariant-loop-p l = same (word_at l.text l.a) (word_at l.text l.b) ≡ same (word_at l.text l.p) (word_at l.text l.q)
