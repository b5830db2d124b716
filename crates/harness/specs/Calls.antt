-- What the calls for tests answer where the call that each wraps promises a relation: there is an answer with that promise, and it is told.
use Rattle.std.specs.Prelude.{◌≡◌, List, ℕ, length, Result}
use Rattle.std.specs.Borrow.{Bor}
use Rattle.base.specs.Fill.{fill}
use Rattle.base.specs.Reports.{Written, written}
use Rattle.base.specs.declared.Refusal.{Refusal}
use Rattle.translator.specs.Translates.{Translation}
use Rattle.events.specs.declared.Label.{Label}
use Rattle.events.specs.Labels.{Valued}
use Rattle.events.specs.Names.{Named}
use Rattle.events.specs.Reports.{report as label_report}
use Rattle.modelling.specs.Answers.{EventAnswer}
use Rattle.packing.specs.Packed.{packed}

-- Translation's answer, and the lent bytes as it leaves them.
pub record Translates (text lent : List ℕ) (r : ℕ) (left : List ℕ) : Type 0 where
  pub answer : Written
  pub its_promise : Translation text lent answer left
  pub its_number : r ≡ packed 32 (written answer)

-- The answer of the call that writes an event of a machine, and the lent bytes as it leaves them.
pub record WritesEvent (text : List ℕ) (e : ℕ) (lent : List ℕ) (r : ℕ) (left : List ℕ) : Type 0 where
  pub answer : Written
  pub its_promise : EventAnswer text e lent answer left
  pub its_number : r ≡ packed 32 (written answer)

-- The label of an event: the mark, the count and the three values.
pub record Labels (text : List ℕ) (e r : ℕ) : Type 0 where
  pub answer : Result Label Refusal
  pub its_promise : Valued text e answer
  pub its_number : r ≡ packed 6 (label_report answer)

-- How many bytes the name of an event has, and the name over the front of the lent bytes, as far as they go.
pub record Names (text : Bor (List ℕ)) (e : ℕ) (lent : List ℕ) (r : ℕ) (left : List ℕ) : Type 0 where
  pub answer : Bor (List ℕ)
  pub its_promise : Named text e answer
  pub its_count : r ≡ length answer.now
  pub its_bytes : left ≡ fill lent answer.now
