-- `heads::Parser::size` meets its contract: a number from 1 to 16 is written, and the `)`.
use Rattle.walked.proofs.Laws.{starts, ends, off_grammar, size_taken, number_off, passed}
use Rattle.heads.proofs.Parser.size.Goals as goal

pub returns-in_err-size : goal.returns-in_err-size
returns-in_err-size c s =
    let e = c.in_err-size.ensures.err in
    rw (passed c.from_residual.ensures) (off_grammar starts c.next-t.ensures e.0 (number_off _ _ 1 16 e.1))

pub returns : goal.returns
returns c s =
    let v = c.in_ok-size.ensures.ok in
    rw (c.put.ensures, c.sized-row.ensures, c.row.ensures) (ends (c.sign.ensures _) (size_taken c.next-t.ensures _ v.0 v.1 v.2 starts))
