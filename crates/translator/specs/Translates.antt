-- What translation answers and leaves in the lent buffer. Document 01 leaves the choice of rows open: "Open here is a translation's choice of rows, of which soundness, the
-- row bound and property 3 hold." What is chosen is a function of the diagram, never of what the buffer held, so that all is told by equality; of what is chosen, those properties.
use Rattle.std.specs.Prelude.{◌≡◌, true, ◌&&◌, List, [], ◌∷◌, ℕ, ◌+◌, ◌*◌, ◌≤◌, ◌<◌, leb, ltb, length}
use Rattle.base.specs.Fill.{fill}
use Rattle.base.specs.Reports.{Written as Answer, result, refusal}
use Rattle.diagram.specs.Tree.{Flow}
use Rattle.diagram.specs.Count.{flow_copies, flow_events}
use Rattle.diagram.specs.declared.Diagram.{Diagram}
use Rattle.reading.specs.Accepted.{Accepted}
use Rattle.reading.specs.Refused.{RefusedAt}
use Rattle.reading.specs.Shows.{Shows}
use Rattle.process.specs.Expand.{expand}
use Rattle.process.specs.Bits.{clears}
use Rattle.layout.specs.Fields.{events, rows, event_word, first_of, count_of}
use Rattle.layout.specs.Sound.{sound}
use Rattle.book.specs.Plays.{PlaysByBook}
use Rattle.plan.specs.Plan.{planned}
use Rattle.translator.specs.Reports.{report}

-- A table of a diagram.
pub record TableOf (d : Flow) (t : List ℕ) : Type 0 where
  pub its_sound : sound t ≡ true
  pub its_events : events t ≡ flow_events d
  -- the bits that the record of event e clears: at a reset those of its loop's body
  pub its_clears : (e i : ℕ) → e < flow_events d
      → (leb (first_of (event_word t e)) i && ltb i (first_of (event_word t e) + count_of (event_word t e))) ≡ clears (expand d) e i
  -- "A translation uses at most 16 rows for each node copy": this one at most 8
  pub its_rows : rows t ≤ 8 * flow_copies d
  -- property 3
  pub its_runs : PlaysByBook d t

-- The bytes that are chosen for a diagram. Which rows they have is open; they depend on the diagram alone.
unfoldable pub table_of : Flow → List ℕ
table_of d = planned (expand d)

-- They stand over the front of the lent bytes, which has room for them, and are a table of the diagram. "On success, bytes past those written stay too."
pub record Written (d : Flow) (lent : List ℕ) (count : ℕ) (left : List ℕ) : Type 0 where
  pub its_count : count ≡ length (table_of d)
  pub its_left : left ≡ fill lent (table_of d)
  pub fits : length (table_of d) ≤ length lent
  pub its_table : TableOf d (table_of d)

-- The answer to a text, and the lent bytes after it: number 1, "translation under 51,204", before all others; then reading's refusal, "Lent buffers and records keep their
-- bytes"; or the table of the text's diagram.
pub data Translation (text lent : List ℕ) (r : Answer) (left : List ℕ) : Type 0 where
  short : length lent < 51204 → report r ≡ refusal 1 0 → left ≡ lent → Translation text lent r left
  refused : (number place : ℕ) → 51204 ≤ length lent → RefusedAt text number place → report r ≡ refusal number place → left ≡ lent → Translation text lent r left
  done : (d : Flow) (count : ℕ) → 51204 ≤ length lent → Accepted text d → report r ≡ result (count ∷ []) → Written d lent count left → Translation text lent r left

-- A diagram that reading a text answered: for the contract of a private function.
pub record Read (g : Diagram) : Type 0 where
  pub text : List ℕ
  pub tree : Flow
  pub accepted : Accepted text tree
  pub shown : Shows text tree g

-- Whatever text and tree it is of, its table is written.
abbrev pub Writes : Diagram → List ℕ → ℕ → List ℕ → Type 0
Writes g lent count left = (text : List ℕ) (d : Flow) → Accepted text d → Shows text d g → Written d lent count left
