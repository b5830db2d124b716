-- Property 1, for printing: an answer is a number of bytes that were written, or one refusal, "which leaves lent memory untouched". There is one such answer for
-- each text and buffer, and one list of bytes that it leaves: `printer.proofs.Bounds.one_print`.
use Rattle.std.specs.Prelude.{◌≡◌, List, [], ◌∷◌, ℕ, ◌≤◌, ◌<◌, length, take, drop}
use Rattle.base.specs.Reports.{Written, result as result_report, refusal as refusal_report}
use Rattle.diagram.specs.Tree.{Flow}
use Rattle.grammar.specs.Printed.{printed}
use Rattle.reading.specs.Accepted.{Accepted}
use Rattle.reading.specs.Refused.{RefusedAt}
use Rattle.printer.specs.Reports.{report}

-- The text is accepted and the buffer long enough: the front of the bytes left is the text without its blanks, and the bytes past it are those that were
-- there.
pub record Result (text lent : List ℕ) (p : Written) (left : List ℕ) : Type 0 where
  pub enough : 16384 ≤ length lent
  pub tree : Flow
  pub limits : Accepted text tree
  pub count : ℕ
  pub reported : report p ≡ result_report (count ∷ [])
  pub few : count ≤ 16384
  pub length_stays : length left ≡ length lent
  pub front : take count left ≡ printed text
  pub past : drop count left ≡ drop count lent

-- Number 1 at place 0, "printing lent under 16,384 bytes", before all others; then reading's, each by its own sentence.
pub data Reason (text lent : List ℕ) (number place : ℕ) : Type 0 where
  short_sheet : length lent < 16384 → number ≡ 1 → place ≡ 0 → Reason text lent number place
  unread : 16384 ≤ length lent → RefusedAt text number place → Reason text lent number place

-- One of the numbers 1 to 11, and every lent byte as it was.
pub record Refusal (text lent : List ℕ) (p : Written) (left : List ℕ) : Type 0 where
  pub number : ℕ
  pub place : ℕ
  pub why : Reason text lent number place
  pub reported : report p ≡ refusal_report number place
  pub low : 1 ≤ number
  pub high : number ≤ 11
  pub near : place ≤ 16384
  pub untouched : left ≡ lent

pub data Bounded (text lent : List ℕ) (p : Written) (left : List ℕ) : Type 0 where
  -- "a result within the limits"
  result : Result text lent p left → Bounded text lent p left
  -- "or one numbered refusal with its place"
  refusal : Refusal text lent p left → Bounded text lent p left
