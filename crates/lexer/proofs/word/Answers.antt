-- `lexer::word` meets its contract: up to the end of the word, or nothing.
use Rattle.std.proofs.Common.{refl, arith}
use Rattle.tokens.specs.Classes.{worded}
use Rattle.tokens.proofs.WordAt.{word_inside, word_none, word_some}
use Rattle.lexer.proofs.word.Goals as goal

pub returns-then-text-at : goal.returns-then-text-at
returns-then-text-at c = let a = c.args in word_none a.text _ a.at refl (omega (arith, c.if-text-at.true)) (omega arith) refl

pub slice_bounds-result-end-2 : goal.slice_bounds-result-end-2
slice_bounds-result-end-2 c = word_inside c.args.text.now c.args.at c.if-text-at.false (c.past-end.ensures.run worded (λ b r h p. p))

pub returns : goal.returns
returns c =
    let a = c.args in
    word_some a.text _ a.at refl c.past-end.result c.if-text-at.false (c.past-end.ensures.run worded (λ b r h p. p)) (omega arith) refl
