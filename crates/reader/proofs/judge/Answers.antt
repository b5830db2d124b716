-- `reader::judge` meets its contract: the verdict refuses, or the diagram is filled.
use Rattle.std.proofs.Common.{◌≡◌, length, refl, arith}
use Rattle.walked.proofs.Laws.{passed}
use Rattle.reader.proofs.Stages.{judged_refused, judged_kept}
use Rattle.reader.proofs.judge.Goals as goal

pub returns-in_err-counts : goal.returns-in_err-counts
returns-in_err-counts c w =
    let e = c.new-nodes.ensures in
    let q = c.in_err-counts.ensures w.nodes (omega (arith, w.count, w.few, e.count)) (rw (e.text, e.rows) w.told) w.deep in
    judged_refused w (rw e.text at q) refl (passed c.from_residual.ensures)

pub returns : goal.returns
returns c w =
    let e = c.new-nodes.ensures in
    let many : length w.nodes ≡ c.new-nodes.result.count = omega (arith, w.count, w.few, e.count) in
    let q = c.in_ok-counts.ensures w.nodes many (rw (e.text, e.rows) w.told) w.deep in
    judged_kept w (rw e.text at q) refl (c.store.ensures _ w.nodes many (rw e.rows w.told))
