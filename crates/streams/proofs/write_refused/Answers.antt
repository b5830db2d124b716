-- The line fits its buffer, so what is written is the line.
use Rattle.std.proofs.Common.{◌≡◌, ℕ, ◌≤◌, List, length, take, replicate, ◌∙◌, arith}
use Rattle.std.proofs.lemmas.List.{length-replicate}
use Rattle.base.proofs.Filled.{fill_front}
use Rattle.base.specs.Refusals.{number}
use Rattle.output.specs.Buffer.{buffer, put_all}
use Rattle.output.specs.Lines.{refused_line}
use Rattle.output.proofs.Buffers.{whole}
use Rattle.output.proofs.Lines.{refused_most}
use Rattle.streams.proofs.write_refused.Goals as goal

-- What was written over the front of a buffer with room for it.
front : (bs lent left : List ℕ) (r : ℕ) → buffer r left ≡ put_all bs (buffer 0 lent) → length bs ≤ length lent → take r left ≡ bs
front bs lent left r q h = let w = whole bs lent left r q h in rw (w.0, w.1) (fill_front lent bs h)

pub returns : goal.returns
returns g c =
    let line = refused_line (number c.args.why.reason) c.args.why.place in
    let w = c.refused.new.self in
    let fits : length line ≤ length (replicate {A = ℕ} 64 0) = omega (arith, refused_most (number c.args.why.reason) c.args.why.place, length-replicate {A = ℕ} 64 0) in
    let shown : c.written.result.now ≡ line =
    c.written.ensures ∙ front line (replicate 64 0) w.out.now w.at (rw c.new-w.ensures.none at c.refused.ensures.bytes) fits in
    rw shown at c.write_there.ensures
