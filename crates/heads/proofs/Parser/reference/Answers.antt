-- `heads::Parser::reference` meets its contract: the number of a ref is the solid mark of the child that waits.
use Rattle.walked.proofs.Laws.{starts, halts, goes, ends, off_grammar, ref_taken, number_off, passed}
use Rattle.heads.proofs.Parser.reference.Goals as goal

pub returns-in_err-p : goal.returns-in_err-p
returns-in_err-p c s = halts (c.in_err-p.ensures _) (passed c.from_residual.ensures) _ starts

pub returns-in_err-solid : goal.returns-in_err-solid
returns-in_err-solid c s =
    let e = c.in_err-solid.ensures.err in
    rw (passed c.from_residual-in_err-solid.ensures)
    (off_grammar (goes (c.in_ok-p.ensures _) _ starts) c.next-t.ensures e.0 (number_off _ _ 0 1 e.1))

pub returns : goal.returns
returns c s =
    let v = c.in_ok-solid.ensures.ok in
    rw c.mark.ensures (ends (c.sign-2.ensures _) (ref_taken c.next-t.ensures _ v.0 v.2 (goes (c.in_ok-p.ensures _) _ starts)))
