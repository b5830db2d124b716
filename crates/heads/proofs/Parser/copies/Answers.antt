-- `heads::Parser::copies` meets its contract: a par, `:` and a size in parentheses.
use Rattle.walked.proofs.Laws.{starts, halts, goes, ends, passed}
use Rattle.heads.proofs.Parser.copies.Goals as goal

pub returns-in_err-p : goal.returns-in_err-p
returns-in_err-p c s = halts (c.in_err-p.ensures s) (passed c.from_residual.ensures) _ starts

pub returns-in_err-p-2 : goal.returns-in_err-p-2
returns-in_err-p-2 c s = halts (c.in_err-p-2.ensures _) (passed c.from_residual-in_err-p-2.ensures) _ (goes (c.in_ok-p.ensures s) _ starts)

pub returns : goal.returns
returns c s = ends (c.size.ensures s) (goes (c.in_ok-p-2.ensures _) _ (goes (c.in_ok-p.ensures s) _ starts))
