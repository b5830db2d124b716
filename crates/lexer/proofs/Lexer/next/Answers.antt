-- `lexer::Lexer::next` meets its contract: nothing, a sign by its class, or a word by its end.
use Rattle.tokens.proofs.WordKinds.{sign_by_class}
use Rattle.lexer.proofs.Positions.{no_token, sign_here, word_here, word_token}
use Rattle.lexer.proofs.Lexer.next.Goals as goal

pub returns-then-self-start : goal.returns-then-self-start
returns-then-self-start c = no_token _ _ _ c.gap-start.ensures c.if-self-start.true

pub returns-then-class-lt-LETTER : goal.returns-then-class-lt-LETTER
returns-then-class-lt-LETTER c =
    rw (c.of_class.ensures, sign_by_class c.class-class.result c.if-class-lt-LETTER.true)
    (sign_here _ _ _ c.gap-start.ensures c.if-self-start.false _ c.class-class.ensures c.if-class-lt-LETTER.true)

pub slice_bounds-word_kind-end : goal.slice_bounds-word_kind-end
slice_bounds-word_kind-end c =
    let w = word_here _ _ _ c.gap-start.ensures c.if-self-start.false _ c.class-class.ensures _ c.if-class-lt-LETTER.false c.run-end.ensures in
    w.2

pub returns : goal.returns
returns c =
    let w = word_here _ _ _ c.gap-start.ensures c.if-self-start.false _ c.class-class.ensures _ c.if-class-lt-LETTER.false c.run-end.ensures in
    word_token _ _ _ c.gap-start.ensures c.if-self-start.false _ c.class-class.ensures _ w.0 _ w.1 w.2 c.word_kind.ensures
