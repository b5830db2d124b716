-- Property 1, for reading: "Every answer is a result within the limits or one numbered refusal with its place". There is one such answer for each text:
-- `reading.proofs.Bounds.one_answer`.
use Rattle.std.specs.Prelude.{◌≡◌, List, [], ◌∷◌, ℕ, ◌≤◌, Ok, Err}
use Rattle.base.specs.Refusals.{number, refusal as refusal_at}
use Rattle.base.specs.Reports.{result as result_report, refusal as refusal_report}
use Rattle.base.specs.declared.Reason.{Reason}
use Rattle.diagram.specs.Tree.{Flow}
use Rattle.diagram.specs.Count.{flow_nodes, flow_copies, flow_events}
use Rattle.diagram.specs.declared.Diagram.{Diagram}
use Rattle.reading.specs.Answers.{Read}
use Rattle.reading.specs.Accepted.{Accepted}
use Rattle.reading.specs.Refused.{RefusedAt}
use Rattle.reading.specs.Reports.{report}
use Rattle.reading.specs.Shows.{Shows}
use Rattle.reading.specs.Places.{Placed}

-- The nodes of a diagram within the limits, and its counts; each node with its places in the text.
pub record Result (text : List ℕ) (o : Read) : Type 0 where
  pub tree : Flow
  pub limits : Accepted text tree
  pub reported : report o ≡ result_report (flow_nodes tree ∷ flow_copies tree ∷ flow_events tree ∷ [])
  pub diagram : Diagram
  pub done : o ≡ Ok diagram
  pub shown : Shows text tree diagram
  pub placed : Placed text tree diagram

-- One of the numbers 2 to 11, by its own sentence, with a place in a text within the limits or at its end, and nothing else.
pub record Refusal (text : List ℕ) (o : Read) : Type 0 where
  pub reason : Reason
  pub place : ℕ
  pub why : RefusedAt text (number reason) place
  pub reported : report o ≡ refusal_report (number reason) place
  pub is : o ≡ Err (refusal_at reason place)
  pub low : 2 ≤ number reason
  pub high : number reason ≤ 11
  pub near : place ≤ 16384

pub data Bounded (text : List ℕ) (o : Read) : Type 0 where
  -- "a result within the limits"
  result : Result text o → Bounded text o
  -- "or one numbered refusal with its place"
  refusal : Refusal text o → Bounded text o
