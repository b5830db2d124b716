-- `names::mark` meets its contract: the bytes of the word that it reads.
use Rattle.std.proofs.Common.{refl}
use Rattle.names.proofs.Marked.{mark_none, mark_inside, mark_is}
use Rattle.names.proofs.mark.Goals as goal
use Rattle.names.proofs.mark.Goals.{then-end-at-via-then-end-at, then-end-at-via-else-end-at+then-text-end}

pub returns-then-end-at-clause-value : goal.returns-then-end-at-clause-value
returns-then-end-at-clause-value c = λ e.
    elim c.then-end-at.branch [
      | then-end-at-via-then-end-at w ↦ mark_none _ _ e w.if-end-at.true
      | then-end-at-via-else-end-at+then-text-end w ↦ absurd (mark_inside _ _ e w.if-end-at.false w.if-text-end.true)
    ]

pub returns-clause-value : goal.returns-clause-value
returns-clause-value c = λ e.
    mark_is _ _ e c.if-end-at.false refl c.from-first.ensures c.from-middle.ensures c.from_end-last.ensures.0 c.from_end-before.ensures.0
    c.from_end-third.ensures.0 refl
