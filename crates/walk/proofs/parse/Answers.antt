-- `walk::parse` meets its contract: the root is read, and nothing stands after it.
use Rattle.walked.proofs.Laws.{passed, refused, trailing, read_all}
use Rattle.walk.proofs.parse.Goals as goal

pub returns-in_err-p : goal.returns-in_err-p
returns-in_err-p c = refused (c.in_err-p.ensures _) (passed c.from_residual.ensures)

pub returns-then-t-parser : goal.returns-then-t-parser
returns-then-t-parser c = trailing (c.in_ok-p.ensures _) c.next-t.ensures c.at.ensures c.if-t-parser.true

pub returns : goal.returns
returns c = read_all (c.in_ok-p.ensures _) c.next-t.ensures c.if-t-parser.false
