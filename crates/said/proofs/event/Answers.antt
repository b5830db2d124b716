-- The lines after the first, up to the one that says it.
use Rattle.std.proofs.Common.{not, drop, ◌∙◌, rules}
use Rattle.std.proofs.lemmas.Iterator.Consumers.{YieldsList-at, count_from_yields_List}
use Rattle.std.proofs.lemmas.Iterator.Search.{YieldsList-from_take_while}
use Rattle.std.proofs.lemmas.List.Folds.{length-prefix_len}
use Rattle.said.specs.Lines.{lines}
use Rattle.said.specs.Said.{says}
use Rattle.said.proofs.Lines.{lines_few}
use Rattle.said.proofs.Listed.{after_first_line}
use Rattle.said.proofs.Saying.{said_first}
use Rattle.said.proofs.event.Goals as goal

pub count-requires-clause-fits : goal.count-requires-clause-fits
count-requires-clause-fits c = let few = lines_few c.args.listing.now in search rules

pub returns : goal.returns
returns c =
    count_from_yields_List c.take_while.result _ c.count.ensures.ran
    (YieldsList-from_take_while _ (λ l. not (says l c.args.said.now))
    (YieldsList-at c.take_while.ensures.source (after_first_line c.args.listing.now c.new.result c.new.ensures c.skip.ensures.source c.skip.ensures.count))
    c.take_while.ensures.closure c.take_while.ensures.done (λ x b q k. (search rules, search rules)))
    ∙ (length-prefix_len (λ l. not (says l c.args.said.now)) (drop 1 (lines c.args.listing.now)) ∙ said_first c.args.listing.now c.args.said.now)
