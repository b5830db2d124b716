-- Property 1, for translation: an answer is the table of the text's diagram, or one refusal, "which leaves lent memory untouched". No more than one answer is bounded so.
use Rattle.std.specs.Prelude.{◌≡◌, List, [], ◌∷◌, ℕ, ◌≤◌, ◌<◌, length, take, drop}
use Rattle.base.specs.Reports.{Written as Answer, result, refusal}
use Rattle.diagram.specs.Tree.{Flow}
use Rattle.reading.specs.Accepted.{Accepted}
use Rattle.reading.specs.Refused.{RefusedAt}
use Rattle.translator.specs.Reports.{report}
use Rattle.translator.specs.Translates.{TableOf, table_of}

-- The front of the lent bytes is the table of the diagram, and the bytes past it are those that were there.
pub record Result (text lent : List ℕ) (r : Answer) (left : List ℕ) : Type 0 where
  pub long : 51204 ≤ length lent
  pub tree : Flow
  pub accepted : Accepted text tree
  pub count : ℕ
  pub is : report r ≡ result (count ∷ [])
  pub few : count ≤ 51204
  pub length_stays : length left ≡ length lent
  pub its_table : TableOf tree (table_of tree)
  pub front : take count left ≡ table_of tree
  pub past : drop count left ≡ drop count lent

-- Number 1, at 0, exactly where "translation under 51,204" bytes is lent; else the text's number and place.
pub data Reason (text lent : List ℕ) (number place : ℕ) : Type 0 where
  short_sheet : length lent < 51204 → number ≡ 1 → place ≡ 0 → Reason text lent number place
  of_text : 51204 ≤ length lent → RefusedAt text number place → Reason text lent number place

-- One of the numbers 1 to 11, and every lent byte as it was.
pub record Refusal (text lent : List ℕ) (r : Answer) (left : List ℕ) : Type 0 where
  pub number : ℕ
  pub place : ℕ
  pub is : report r ≡ refusal number place
  pub low : 1 ≤ number
  pub high : number ≤ 11
  pub near : place ≤ 16384
  pub reason : Reason text lent number place
  pub untouched : left ≡ lent

pub data Bounded (text lent : List ℕ) (r : Answer) (left : List ℕ) : Type 0 where
  its_result : Result text lent r left → Bounded text lent r left
  its_refusal : Refusal text lent r left → Bounded text lent r left
