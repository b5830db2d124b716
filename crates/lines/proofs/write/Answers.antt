-- `lines::write` meets its contract: the first line, and then the walk over the nodes that count. Assumes nothing.
use Rattle.lines.specs.Lines.{first_line}
use Rattle.lines.proofs.Steps.{listing_written}
use Rattle.lines.proofs.write.Goals as goal

pub returns-clause-listing : goal.returns-clause-listing
unfolding first_line
returns-clause-listing c =
    listing_written c.args.text.now c.args.d.now _ c.numbers.ensures.bytes c.counted-nodes.ensures.value (rw c.none.ensures at c.part.ensures.places)
