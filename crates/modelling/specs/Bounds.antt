-- Property 1, for the calls that write machines: an answer is so many bytes within the limits, or one refusal, "which leaves lent memory untouched". Which bytes, and which
-- refusal by which condition, `modelling.specs.Answers.EventAnswer` and `OpeningAnswer` say, each of one answer alone: `modelling.proofs.Bounds.one_event`, `one_opening`.
use Rattle.std.specs.Prelude.{◌≡◌, ◌⊎◌, List, [], ◌∷◌, ℕ, ◌≤◌, length, drop}
use Rattle.base.specs.Reports.{result, refusal, Written}
use Rattle.modelling.specs.Reports.{report}

-- At most 65,536 bytes at the front of what was lent, whose length stays, as do the bytes past them.
pub record Result (lent : List ℕ) (r : Written) (left : List ℕ) : Type 0 where
  pub count : ℕ
  pub reported : report r ≡ result (count ∷ [])
  pub few : count ≤ 65536
  pub room : count ≤ length lent
  pub length_stays : length left ≡ length lent
  pub past : drop count left ≡ drop count lent

-- One of the numbers 1 to 11, 14 and 16, with a place in a text within the limits or at its end.
pub record Refusal (lent : List ℕ) (r : Written) (left : List ℕ) : Type 0 where
  pub number : ℕ
  pub place : ℕ
  pub reported : report r ≡ refusal number place
  pub one_of : ((1 ≤ number) × (number ≤ 11)) ⊎ ((number ≡ 14) ⊎ (number ≡ 16))
  pub near : place ≤ 16384
  pub untouched : left ≡ lent

pub data Bounded (lent : List ℕ) (r : Written) (left : List ℕ) : Type 0 where
  its_result : Result lent r left → Bounded lent r left
  its_refusal : Refusal lent r left → Bounded lent r left
