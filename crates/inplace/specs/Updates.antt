-- "One thin call, after the core, updates a run record that the caller lends": what it answers and leaves, for any table, record and event number.
use Rattle.std.specs.Prelude.{List, ℕ, ⊤, Result}
use Rattle.base.specs.declared.Refusal.{Refusal}
use Rattle.record.specs.declared.Record.{Record}
use Rattle.table.specs.Steps.{step_of}

-- What it answers, with event e on the record `before`: what the step by value answers.
abbrev pub answer_of : List ℕ → Record → ℕ → Result ⊤ Refusal
answer_of t before e = (step_of t before e).answer

-- The record that it leaves with the caller: the one that the step by value returns.
abbrev pub left_of : List ℕ → Record → ℕ → Record
left_of t before e = (step_of t before e).after
