-- `expansion::expand` meets its contract: the walk over the nodes that count is the whole. Assumes nothing.
use mathlib.Core.Path.{ap, ◌∙◌}
use mathlib.Core.List.{List}
use Rattle.diagram.specs.declared.Node.{Node}
use Rattle.expansion.specs.Walks.{Place, place, part, expanded}
use Rattle.expansion.proofs.expand.Goals as goal

pub returns : goal.returns
unfolding expanded
returns c =
    let w = c.part.ensures ∙ ap (λ (ns : List Node). part 12 ns (place 0 0 c.args.codes.now)) c.counted.ensures.value in
    record { value = ap (λ (x : Place). x.walk.count) w; codes_after = ap (λ (x : Place). x.codes) w }
