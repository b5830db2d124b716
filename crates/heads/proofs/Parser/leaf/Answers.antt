-- `heads::Parser::leaf` meets its contract: a name in parentheses.
use Rattle.walked.proofs.Laws.{starts, halts, goes, ends, passed}
use Rattle.heads.proofs.Parser.leaf.Goals as goal

pub returns-in_err-p : goal.returns-in_err-p
returns-in_err-p c s = halts (c.in_err-p.ensures s) (passed c.from_residual.ensures) _ starts

pub returns : goal.returns
returns c s = ends (c.sign.ensures _) (goes (c.in_ok-p.ensures s) _ starts)
