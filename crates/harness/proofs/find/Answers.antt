-- By where the index is: a text that is read has at most 256 nodes.
use Rattle.std.proofs.Common.{sym, arith}
use Rattle.diagram.specs.Stored.{blank_node}
use Rattle.harness.proofs.Finds.{same_at, found_there, below}
use Rattle.harness.proofs.find.Goals as goal

pub offset_bounds-d-index : goal.offset_bounds-d-index
offset_bounds-d-index c = omega (arith, below c.args.text.now c.args.index c.in_ok-d.d (sym c.in_ok-d.ensures) c.if-d-index.false)

pub bounds-d-index : goal.bounds-d-index
bounds-d-index c = below c.args.text.now c.args.index c.in_ok-d.d (sym c.in_ok-d.ensures) c.if-d-index.false

pub returns : goal.returns
returns c =
    let d = c.in_ok-d.d in
    let h = below c.args.text.now c.args.index d (sym c.in_ok-d.ensures) c.if-d-index.false in
    found_there c.args.text.now c.args.index d (sym c.in_ok-d.ensures) c.if-d-index.false (same_at d.nodes c.args.index _ blank_node (omega arith))
