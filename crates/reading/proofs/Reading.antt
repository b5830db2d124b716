-- Every text is a drawing or turned away, never both, and with one diagram, or one reason and place.
use mathlib.Core.Path.{subst, subst₂}
use mathlib.Core.List.{List}
use Prim.Native.Nat.{ℕ}
use Rattle.base.specs.Refusals.{number}
use Rattle.base.specs.declared.Reason.{Reason}
use Rattle.diagram.specs.Tree.{Flow}
use Rattle.reading.specs.Accepted.{Accepted}
use Rattle.reading.specs.Refused.{RefusedAt}
use Rattle.reading.proofs.Exact.{Fate, taken, refused_at, fate, accepted_once, one_reason, never_both}
use Rattle.reading.specs.Reading.{Reading, drawing, no_drawing}

pub reading : (text : List ℕ) → Reading text
reading text = go (fate text)
  where
    go : Fate text → Reading text
    go (taken d a) = drawing d a
    go (refused_at reason place t) = no_drawing reason place t

-- Two readings that say the same: only their proofs may differ, at which no answer looks.
pub data Same {text : List ℕ} : Reading text → Reading text → Type 0 where
  same_drawing : (d : Flow) (a b : Accepted text d) → Same (drawing d a) (drawing d b)
  same_no_drawing : (reason : Reason) (place : ℕ) (r s : RefusedAt text (number reason) place) → Same (no_drawing reason place r) (no_drawing reason place s)

pub one_reading : {text : List ℕ} (v w : Reading text) → Same v w
one_reading {text} (drawing d a) (drawing e b) =
    subst (λ (f : Flow). (c : Accepted text f) → Same (drawing d a) (drawing f c)) (accepted_once text d e a b) (same_drawing d a) b
one_reading {text} (drawing d a) (no_drawing n p r) = absurd (never_both text d (number n) p a r)
one_reading {text} (no_drawing n p r) (drawing d a) = absurd (never_both text d (number n) p a r)
one_reading {text} (no_drawing n p r) (no_drawing m q s) =
    let e = one_reason text n m p q r s in
    subst₂ (λ (k : Reason) (l : ℕ). (t : RefusedAt text (number k) l) → Same (no_drawing n p r) (no_drawing k l t)) e.0 e.1 (same_no_drawing n p r) s
