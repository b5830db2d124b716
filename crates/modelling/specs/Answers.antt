-- What the calls answer and leave in the lent buffer. Card 2 has number 1 for a shorter buffer, and number 16 for a diagram "outside this profile", after 11.
use Rattle.std.specs.Prelude.{◌≡◌, true, false, List, [], ◌∷◌, ℕ, ◌≤◌, ◌<◌, length}
use Rattle.base.specs.Fill.{fill}
use Rattle.base.specs.Reports.{result, refusal, Written}
use Rattle.diagram.specs.Tree.{Flow}
use Rattle.diagram.specs.Count.{flow_events}
use Rattle.reading.specs.Accepted.{Accepted}
use Rattle.reading.specs.Refused.{RefusedAt}
use Rattle.modelling.specs.Profile.{in_profile}
use Rattle.modelling.specs.Texts.{guards_of, event_text, opening_text}
use Rattle.modelling.specs.Guards.{Guards}
use Rattle.modelling.specs.Reports.{report}

-- The answer to a text, and the lent bytes after it, whatever it is that is written of a diagram: number 1 for under 65,536 bytes, before all others; reading's refusal; number 16
-- for a diagram outside the profile; or what is answered of the diagram. What is refused changes no lent byte.
pub data Answered (text lent : List ℕ) (r : Written) (left : List ℕ) (Of : Flow → Type 0) : Type 0 where
  short : length lent < 65536 → report r ≡ refusal 1 0 → left ≡ lent → Answered text lent r left Of
  refused : (number place : ℕ) → 65536 ≤ length lent → RefusedAt text number place → report r ≡ refusal number place → left ≡ lent → Answered text lent r left Of
  outside : (d : Flow) → 65536 ≤ length lent → Accepted text d → in_profile d ≡ false → report r ≡ refusal 16 0 → left ≡ lent → Answered text lent r left Of
  inside : (d : Flow) → 65536 ≤ length lent → Accepted text d → in_profile d ≡ true → Of d → Answered text lent r left Of

-- These bytes stand over the front of the lent ones, which always have room for them; the lent bytes past them stay.
pub record Filled (bytes lent : List ℕ) (r : Written) (left : List ℕ) : Type 0 where
  pub its_count : report r ≡ result (length bytes ∷ [])
  pub its_bytes : left ≡ fill lent bytes
  pub enough : length bytes ≤ 65536

-- Event e of a diagram: number 14 at or past E; or its text, whose guards say what they have to.
pub data EventOf (d : Flow) (e : ℕ) (lent : List ℕ) (r : Written) (left : List ℕ) : Type 0 where
  no_event : flow_events d ≤ e → report r ≡ refusal 14 0 → left ≡ lent → EventOf d e lent r left
  event : e < flow_events d → Filled (event_text d e) lent r left → Guards d e (guards_of d e) → EventOf d e lent r left

-- The answer of `eventb::event`.
abbrev pub EventAnswer : List ℕ → ℕ → List ℕ → Written → List ℕ → Type 0
EventAnswer text e lent r left = Answered text lent r left (λ d. EventOf d e lent r left)

-- The answer of `eventb::opening`.
abbrev pub OpeningAnswer : List ℕ → List ℕ → Written → List ℕ → Type 0
OpeningAnswer text lent r left = Answered text lent r left (λ d. Filled (opening_text d) lent r left)
