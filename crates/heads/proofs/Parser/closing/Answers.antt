-- `heads::Parser::closing` meets its contract.
use Rattle.std.proofs.Common.{ℕ, List, Result, Ok, Err}
use Rattle.std.specs.Result.{result_ok}
use Rattle.heads.specs.code.Seen.{Seen}
use Rattle.walked.specs.code.Readers.{Closing as Shut}
use Rattle.tokens.specs.declared.Sign.TheVariants.{Closing}
use Rattle.walked.proofs.Laws.{none_closing, is_closing}
use Rattle.heads.proofs.Parser.closing.Goals as goal

shut : {text : List ℕ} {at : ℕ} (r : Result ℕ ℕ) → Seen text Closing at r → Shut text at (result_ok r)
shut (Ok e) q = rw q.1.0 (is_closing (rw q.1.0 at q.1.1))
shut (Err i) q = none_closing q.1.0 q.1.2

pub returns : goal.returns
returns c = rw c.ok.ensures.value (shut _ c.seen.ensures)
