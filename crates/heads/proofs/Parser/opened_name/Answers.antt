-- `heads::Parser::opened_name` meets its contract: a sign and a name.
use Rattle.walked.proofs.Laws.{starts, halts, goes, ends, passed}
use Rattle.heads.proofs.Parser.opened_name.Goals as goal

pub returns-in_err-p : goal.returns-in_err-p
returns-in_err-p c s = halts (c.in_err-p.ensures _) (passed c.from_residual.ensures) _ starts

pub returns : goal.returns
returns c s = ends (c.name.ensures s) (goes (c.in_ok-p.ensures _) _ starts)
