-- `lines::line` meets its contract: its parts stand one after the other. Assumes nothing.
use Rattle.lines.specs.code.Written.{line_at}
use Rattle.output.proofs.Writes.{both}
use Rattle.lines.proofs.line.Goals as goal

pub returns : goal.returns
unfolding line_at
returns c =
    let a = c.args.w.now in
    let whole = c.bytes-2.new.self in
    both a c.head.new.w whole _ _ c.head.ensures
    (both c.head.new.w c.bytes.new.self whole _ _ (rw c.word.ensures.its_word at c.bytes.ensures)
    (both c.bytes.new.self c.spaced.new.w whole _ _ c.spaced.ensures c.bytes-2.ensures))
