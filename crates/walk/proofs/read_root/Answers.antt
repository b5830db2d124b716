-- `walk::read_root` meets its contract: a keyword that may stand there, and what follows it.
use Rattle.walked.proofs.Laws.{passed, node_refused, node_read}
use Rattle.walk.proofs.read_root.Goals as goal

pub returns-in_err-keyword : goal.returns-in_err-keyword
returns-in_err-keyword c = node_refused c.in_err-keyword.ensures (passed c.from_residual.ensures)

pub returns : goal.returns
returns c = node_read c.in_ok-keyword.ensures c.of_keyword.ensures
