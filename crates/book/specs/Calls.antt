-- The calls of property 3, what they answer, and a call by value. Document 01: "The calls are step, with any event number, and finished."
use Rattle.std.specs.Prelude.{Bool, List, ℕ, ⊤, Result}
use Rattle.base.specs.declared.Refusal.{Refusal}
use Rattle.plays.specs.Plays.{Line}
use Rattle.record.specs.declared.Record.{Record}
use Rattle.table.specs.Steps.{step_of, finished_of}

pub data Call : Type 0 where
  step : ℕ → Call
  finished : Call

-- What a step answers, and what is reported to the question.
pub data Reply : Type 0 where
  stepped : Result ⊤ Refusal → Reply
  reported : Result Bool Refusal → Reply

-- What a call answers on a table and a record, and the record after it: `step_of` and `finished_of` are what the contracts of `table::step` and `table::finished` say
-- that the calls return.
abbrev pub call : List ℕ → Record → Call → Line Reply Record
call t before (step e) = record { reply = stepped (step_of t before e).answer; after = (step_of t before e).after }
call t before finished = record { reply = reported (finished_of t before); after = before }
