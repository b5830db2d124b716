-- Each call made the word at its place.
use Rattle.std.proofs.Common.{rules, tests}
use Rattle.record.proofs.Bytes.{loaded}
use Rattle.record.proofs.load.Goals as goal

pub returns : goal.returns
returns c = loaded c.args.bytes.now _ _ (λ i y q k. search (rules, tests)) c.from_fn.ensures.items
