-- The lines after the first, each with its place.
use Rattle.std.proofs.Common.{drop, rules}
use Rattle.std.proofs.lemmas.Iterator.Consumers.{YieldsList-from_enumerate, YieldsList-at, YieldsList-turn, YieldsList-end}
use Rattle.output.specs.Buffer.{put_all}
use Rattle.output.proofs.Writes.{both, none}
use Rattle.said.specs.Lines.{lines, event_lines}
use Rattle.said.proofs.Lines.{lines_few, after_first}
use Rattle.said.proofs.Listed.{after_first_line}
use Rattle.player.specs.Shown.{chosen, events_line}
use Rattle.player.proofs.Chosen.{chosen_more, all_met}
use Rattle.player.proofs.events_line.Goals as goal

pub loop-e-init-derived : goal.loop-e-init-derived
loop-e-init-derived c = let few = lines_few c.args.listing.now in search rules

pub loop-e-init : goal.loop-e-init
unfolding chosen
loop-e-init c = none _

pub loop-e-preserved : goal.loop-e-preserved
loop-e-preserved c =
    let lines_met = YieldsList-from_enumerate (YieldsList-at c.enumerate-e-items.ensures.source (after_first_line c.args.listing.now c.new.result c.new.ensures c.skip.ensures.source c.skip.ensures.count)) c.enumerate-e-items.ensures.count in
    let turn = YieldsList-turn (YieldsList-at c.into_iter-e-iterator.ensures.into_iter_gives lines_met) c.loop-e.yielded _ c.loop-e.yielded_by _ c.next.new.self (c.in-Some.e, c.in-Some.line) c.in-Some.is c.next.ensures.steps in
    rw (chosen_more (drop 1 (lines c.args.listing.now)) c.loop-e.yielded (c.in-Some.e, c.in-Some.line) c.args.bits.now turn)
    (both _ _ _ _ _ c.loop-e.invariant (rw c.bit.ensures at c.item.ensures))

pub returns : goal.returns
unfolding events_line event_lines put_all
returns c =
    let lines_met = YieldsList-from_enumerate (YieldsList-at c.enumerate-e-items.ensures.source (after_first_line c.args.listing.now c.new.result c.new.ensures c.skip.ensures.source c.skip.ensures.count)) c.enumerate-e-items.ensures.count in
    let end = YieldsList-end (YieldsList-at c.into_iter-e-iterator.ensures.into_iter_gives lines_met) c.loop-e.yielded _ c.loop-e.yielded_by _ c.next.new.self c.in-None.is c.next.ensures.steps in
    let all = all_met 0 c.loop-e.yielded (drop 1 (lines c.args.listing.now)) end.0 in
    let shown = rw (all, after_first) at c.loop-e.invariant in
    both _ _ _ _ _ (both _ _ _ _ _ c.bytes.ensures shown) c.bytes-2.ensures
