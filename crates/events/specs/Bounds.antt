-- Property 1 for names, values and listings: "Every answer .. is a result within the limits or one numbered refusal with its place, which leaves lent memory
-- untouched". The text is lent for reading only.
use Rattle.std.specs.Prelude.{◌≡◌, ◌⊎◌, List, ℕ, ◌+◌, ◌≤◌, ◌<◌, length, drop, Result}
use Rattle.std.specs.Borrow.{Bor}
use Rattle.base.specs.Reports.{result as result_report, refusal as refusal_report}
use Rattle.base.specs.declared.Refusal.{Refusal}
use Rattle.diagram.specs.Tree.{Flow}
use Rattle.diagram.specs.Count.{flow_events}
use Rattle.reading.specs.Accepted.{Accepted}
use Rattle.reading.specs.Refused.{RefusedAt}
use Rattle.process.specs.Process.{event_of}
use Rattle.process.specs.Expand.{expand}
use Rattle.labels.specs.Values.{packed}
use Rattle.labels.specs.declared.Values.{Values}
use Rattle.tokens.specs.Parts.{Part}
use Rattle.events.specs.Reports.{report, event_marked}
use Rattle.events.specs.declared.Label.{Label}

-- A name is a part of the text, of at most 24 bytes; empty where refused. Which part it is, `events.specs.Names.Named` says, and there is one:
-- `events.proofs.Bounds.one_name`.
pub record NameBounded (text r : Bor (List ℕ)) : Type 0 where
  pub short : length r.now ≤ 24
  pub place : ℕ
  pub inside : place + length r.now ≤ length text.now
  pub its_part : Part text r place (length r.now)

-- At most 3 values, each below 16.
pub record Within (v : Values) : Type 0 where
  pub few : v.count ≤ 3
  pub first_small : v.first < 16
  pub second_small : v.second < 16
  pub third_small : v.third < 16

-- Event e of the drawing: the mark that tells a reset from a leaf, and its values.
pub record ValuesResult (text : List ℕ) (e : ℕ) (r : Result Label Refusal) : Type 0 where
  pub tree : Flow
  pub limits : Accepted text tree
  pub below : e < flow_events tree
  pub reported : report r ≡ result_report (event_marked (event_of (expand tree) e))
  pub within : Within (packed (event_of (expand tree) e).values)

-- Reading's number and place, each by its own sentence; then 14 at 0, "number at or past E".
pub data Reason (text : List ℕ) (e number place : ℕ) : Type 0 where
  unread : RefusedAt text number place → Reason text e number place
  no_event : (d : Flow) → Accepted text d → flow_events d ≤ e → number ≡ 14 → place ≡ 0 → Reason text e number place

-- One of the numbers 2 to 11 and 14, with a place in a text within the limits or at its end.
pub record ValuesRefusal (text : List ℕ) (e : ℕ) (r : Result Label Refusal) : Type 0 where
  pub number : ℕ
  pub place : ℕ
  pub why : Reason text e number place
  pub reported : report r ≡ refusal_report number place
  pub one_of : ((2 ≤ number) × (number ≤ 11)) ⊎ (number ≡ 14)
  pub near : place ≤ 16384

-- There is one such answer for each text and event number: `events.proofs.Bounds.one_values`.
pub data ValuesBounded (text : List ℕ) (e : ℕ) (r : Result Label Refusal) : Type 0 where
  -- "a result within the limits"
  result : ValuesResult text e r → ValuesBounded text e r
  -- "or one numbered refusal with its place"
  refusal : ValuesRefusal text e r → ValuesBounded text e r

-- The bytes fit, and those past them are as they were. Which bytes they are, `events.specs.Listing.Listed` says, and there is one such list:
-- `events.proofs.Bounds.one_list`.
pub record ListBounded (lent : List ℕ) (r : ℕ) (left : List ℕ) : Type 0 where
  pub few : r ≤ 32768
  pub length_stays : length left ≡ length lent
  pub past : drop r left ≡ drop r lent
