-- `reader::turned_away` meets its contract: each test in its turn.
use borrow.Author.Tests.{lt-ltb, le-ltb}
use Rattle.reader.specs.code.Stages.{turned_away}
use Rattle.reader.proofs.turned_away.Goals as goal

pub returns-then-foreign-lexer : goal.returns-then-foreign-lexer
unfolding turned_away
returns-then-foreign-lexer c = rw (← c.foreign-foreign.ensures, lt-ltb _ _ c.if-foreign-lexer.true) c.at.ensures

pub returns-then-long-lexer : goal.returns-then-long-lexer
unfolding turned_away
returns-then-long-lexer c =
    rw (← c.foreign-foreign.ensures, le-ltb _ _ c.if-foreign-lexer.false, ← c.first_long-long.ensures, lt-ltb _ _ c.if-long-lexer.true) c.at-then-long-lexer.ensures

pub returns : goal.returns
unfolding turned_away
returns c = rw (← c.foreign-foreign.ensures, le-ltb _ _ c.if-foreign-lexer.false, ← c.first_long-long.ensures, le-ltb _ _ c.if-long-lexer.false)
