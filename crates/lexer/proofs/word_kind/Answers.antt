-- `lexer::word_kind` meets its contract, one law for each way out.
use Rattle.std.proofs.Common.{refl, sym, ap, ◌∙◌}
use borrow.Author.Tests.{le-leb, lt-leb}
use Rattle.tokens.proofs.WordKinds.{numeral_kind, word_numeral, word_keyword, no_keyword, word_name}
use Rattle.lexer.proofs.word_kind.Goals as goal

pub returns-in-Some : goal.returns-in-Some
returns-in-Some c h = ap numeral_kind c.in-Some.ensures ∙ sym (word_numeral c.args.word.now c.requires.1 c.if-class-ne-LETTER.true)

pub returns-in-None : goal.returns-in-None
returns-in-None c h = ap numeral_kind c.in-None.ensures ∙ sym (word_numeral c.args.word.now c.requires.1 c.if-class-ne-LETTER.true)

pub returns-in-Some-keyword : goal.returns-in-Some-keyword
returns-in-Some-keyword c h = sym (word_keyword c.args.word.now (sym c.in-Some-keyword.ensures))

pub returns-in-None-keyword : goal.returns-in-None-keyword
returns-in-None-keyword c h =
    let k = no_keyword c.args.word.now (sym c.in-None-keyword.ensures) in
    sym (word_name c.args.word.now c.requires.1 k c.if-class-ne-LETTER.false h ∙ rw (le-leb _ 24 c.if-word-le24.true) refl)

pub returns-in-None-2 : goal.returns-in-None-2
returns-in-None-2 c h =
    let k = no_keyword c.args.word.now (sym c.in-None-2.ensures) in
    sym (word_name c.args.word.now c.requires.1 k c.if-class-ne-LETTER.false h ∙ rw (lt-leb _ 24 c.if-word-le24.false) refl)
