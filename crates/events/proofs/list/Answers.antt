-- By what the text is.
use Rattle.std.proofs.Common.{sym}
use Rattle.events.proofs.Answers.{listed_drawn, listed_refused}
use Rattle.events.proofs.list.Goals as goal
use Rattle.events.proofs.list.Goals.{in-Ok, in-Err}

pub returns : goal.returns
returns c =
    elim c.match-read.branch [
      | in-Ok w ↦ rw w.w-is (listed_drawn c.args.text.now c.args.out.now _ w.in-Ok.d _ (sym w.in-Ok.ensures) c.told-out (rw c.new-w.ensures.none at w.write.ensures.listing))
      | in-Err w ↦ rw w.w-is (listed_refused c.args.text.now c.args.out.now _ w.in-Err.why _ (sym w.in-Err.ensures) c.told-out (rw c.new-w.ensures.none at w.refused.ensures.bytes))
    ]
