-- By where the byte first stands.
use Rattle.std.proofs.Common.{◌+◌, ◌≤◌, suc, sym, ◌∙◌, drop, add-one, arith}
use lib.Seq.{take_all}
use lib.ListN.{length, length-drop, drop_of_length-le}
use Rattle.said.proofs.Search.{place_found, no_place}
use Rattle.said.proofs.parted.Goals as goal

pub returns-in-Some-clause-before : goal.returns-in-Some-clause-before
returns-in-Some-clause-before c = let p = place_found c.args.b c.args.bytes.now c.in-Some.i c.in-Some.ensures in rw p.0

pub returns-in-Some-clause-after : goal.returns-in-Some-clause-after
returns-in-Some-clause-after c =
    let s = c.args.bytes.now in
    let p = place_found c.args.b s c.in-Some.i c.in-Some.ensures in
    take_all _ (drop (c.in-Some.i + 1) s) (rw (length-drop (c.in-Some.i + 1) s) (omega arith)) ∙ rw (add-one, p.0)

pub returns-in-None-clause-before : goal.returns-in-None-clause-before
returns-in-None-clause-before c =
    let s = c.args.bytes.now in
    let p = no_place c.args.b s c.in-None.ensures in rw p (sym (take_all (length s) s (omega arith)))

pub returns-in-None-clause-after : goal.returns-in-None-clause-after
returns-in-None-clause-after c =
    let s = c.args.bytes.now in
    let p = no_place c.args.b s c.in-None.ensures in
    let past : length s ≤ suc (length s) = omega arith in
    rw p (sym (drop_of_length-le s past))
