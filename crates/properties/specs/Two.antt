-- Property 2, over the calls read and print: "A text is accepted exactly if the grammar with its rules and limits derives it; its diagram is the one derived;
-- printing and reading again yields that diagram; two accepted texts print alike exactly if their diagrams are equal." And document 02, card 4: "A remark is a
-- blank wherever a blank may stand".
use Rattle.std.specs.Prelude.{◌≡◌, ◌↔◌, false, List, [], ◌∷◌, ℕ, ◌≤◌, length, Ok}
use Rattle.base.specs.Reports.{Written, result, refusal}
use Rattle.diagram.specs.Tree.{Flow}
use Rattle.diagram.specs.declared.Diagram.{Diagram}
use Rattle.reading.specs.Accepted.{Accepted}
use Rattle.reading.specs.Blanked.{blanked}
use Rattle.reading.specs.Refused.{Usual, RefusedAt}
use Rattle.reading.specs.Reports.{report as read_report}
use Rattle.reading.specs.Shows.{Shows, ShowsOnly}
use Rattle.reading.specs.Places.{Placed}
use Rattle.reading.specs.Answers.{Read}
use Rattle.printer.specs.Reports.{report}
use Rattle.printer.specs.Same.{Same, written}
use Rattle.properties.specs.Calls.{Reads, Prints}

-- An accepted text that was printed into a buffer that is long enough: the answer, and the bytes that were left.
pub record Printing (text : List ℕ) (d : Flow) (p : Written) (left : List ℕ) : Type 0 where
  pub accepted : Accepted text d
  pub lent : List ℕ
  pub enough : 16384 ≤ length lent
  pub printing : Prints text lent p left

-- What was written, read again, is a drawing, with the same diagram: the same nodes and counts, places aside, and the same names at those places; both show the one
-- tree.
pub record Again (text : List ℕ) (d : Flow) (p : Written) (left : List ℕ) (o again : Read) : Type 0 where
  pub reported : report p ≡ result (length (written p left) ∷ [])
  pub first : Diagram
  pub second : Diagram
  pub read : o ≡ Ok first
  pub done : again ≡ Ok second
  pub same : Same (written p left) second text first
  pub shows : Shows text d first
  pub shows_again : Shows (written p left) d second

pub record Property2 : Type 0 where
  pub accepted_exactly : (text : List ℕ) (o : Read) → Reads text o → ((g : Diagram) × (o ≡ Ok g)) ↔ ((d : Flow) × Accepted text d)
  -- and else it is turned away, with a number and a place by the sentence of that number
  pub refused_exactly : (text : List ℕ) (o : Read) → Reads text o → (number place : ℕ)
      → (read_report o ≡ refusal number place) ↔ RefusedAt text number place
  -- with the places of its nodes in the text
  pub the_one_derived : (text : List ℕ) (o : Read) → Reads text o → (d : Flow) → Accepted text d
      → (g : Diagram) × (o ≡ Ok g) × ShowsOnly text d g × Placed text d g
  pub read_again : (text : List ℕ) (d : Flow) (p : Written) (left : List ℕ) → Printing text d p left
      → (o again : Read) → Reads text o → Reads (written p left) again → Again text d p left o again
  pub print_alike : (s t : List ℕ) (d e : Flow) (p q : Written) (left other : List ℕ) → Printing s d p left → Printing t e q other
      → (written p left ≡ written q other) ↔ (d ≡ e)
  -- "their diagrams are equal", of what reading answered: the same, places aside, exactly if the trees are
  pub same_exactly : (s t : List ℕ) (d e : Flow) (g h : Diagram) → Accepted s d → Accepted t e → Reads s (Ok g) → Reads t (Ok h)
      → Same s g t h ↔ (d ≡ e)
  -- with blanks in place of its remarks, byte for byte, a text that has no foreign byte gets the same answer, the diagram and all places included
  pub remarks_are_blanks : (text : List ℕ) (o q : Read) → Usual text → Reads text o → Reads (blanked false text) q → q ≡ o
