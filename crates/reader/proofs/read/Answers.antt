-- `reader::read` meets its contract: too long, refused on the walk, or judged by the rows that the walk leaves.
use Rattle.std.proofs.Common.{◌≤◌, length, ◌∙◌, ap}
use Rattle.reading.specs.Answers.{read_of}
use Rattle.walked.proofs.Laws.{passed}
use Rattle.reader.proofs.Stages.{long_text, walk_refused, walk_whole}
use Rattle.reader.proofs.read.Goals as goal

pub returns-in_err-parser : goal.returns-in_err-parser
returns-in_err-parser c = let e = c.in_err-parser.ensures.err in passed c.from_residual.ensures ∙ long_text _ e.1 e.0

pub returns-in-Ok : goal.returns-in-Ok
returns-in-Ok c =
    let o = c.in_ok-parser.ensures.ok in
    let l : length c.in_ok-parser.parser.lexer.text.now ≤ 16384 = rw o.0 o.1 in
    c.judge.ensures (walk_whole _ _ l (rw c.blank-rows.ensures at c.in-Ok.ensures)) ∙ ap read_of o.0

pub returns-in-Err : goal.returns-in-Err
returns-in-Err c =
    let o = c.in_ok-parser.ensures.ok in
    let l : length c.in_ok-parser.parser.lexer.text.now ≤ 16384 = rw o.0 o.1 in
    walk_refused _ c.parse.new.rows l (rw c.blank-rows.ensures at c.in-Err.ensures) c.turned_away.ensures ∙ ap read_of o.0
