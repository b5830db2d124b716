-- What a text is to the calls that start from one: a drawing, or turned away with a number and a place by that number's sentence. Every text is one of the two, and only one:
-- `reading.proofs.Reading.reading`, `reading.proofs.Reading.one_reading`.
use Rattle.std.specs.Prelude.{List, ℕ}
use Rattle.base.specs.Refusals.{number}
use Rattle.base.specs.declared.Reason.{Reason}
use Rattle.diagram.specs.Tree.{Flow}
use Rattle.reading.specs.Accepted.{Accepted}
use Rattle.reading.specs.Refused.{RefusedAt}

pub data Reading (text : List ℕ) : Type 0 where
  drawing : (d : Flow) → Accepted text d → Reading text
  no_drawing : (reason : Reason) (place : ℕ) → RefusedAt text (number reason) place → Reading text
