-- `lines::tell` meets its contract: one line more. Assumes nothing.
use Rattle.std.proofs.Common.{ap, ◌%◌, ◌+◌}
use Rattle.output.specs.Buffer.{Buffer}
use Rattle.lines.specs.code.Walks.{place, told, tell}
use Rattle.lines.proofs.tell.Goals as goal

pub returns : goal.returns
unfolding tell
returns c =
    let s = c.args.s in
    let l = rw c.from.ensures at c.line.ensures in
    record { same = l.same; places = ap (λ (b : Buffer). place s.node (told (s.event % 1024 + 1) b)) l.bytes }
