-- The first of the lines that are left.
use Rattle.std.proofs.Common.{◌≡◌, ◌∷◌, rules}
use Rattle.said.specs.Lines.{lines}
use Rattle.said.proofs.Lines.{one_line, lines_empty}
use Rattle.said.proofs.ListingLinesIterator.next.Goals as goal

pub returns-then-is_empty-clause-steps : goal.returns-then-is_empty-clause-steps
returns-then-is_empty-clause-steps c = let e = lines_empty c.args.self.now.left.now c.if-is_empty.ensures in (e, e)

pub returns-clause-steps : goal.returns-clause-steps
returns-clause-steps c = one_line c.args.self.now.left.now _ _ c.if-is_empty.ensures c.parted.ensures.before c.parted.ensures.after

pub returns-clause-goes : goal.returns-clause-goes
returns-clause-goes c =
    let e : lines c.args.self.now.left.now ≡ c.parted.result.0.now ∷ lines c.parted.result.1.now = one_line c.args.self.now.left.now _ _ c.if-is_empty.ensures c.parted.ensures.before c.parted.ensures.after in
    search rules
