-- The book. Document 01: "Hold the list against a book kept from the diagram and the calls' event numbers and questions alone, never from table, record or
-- answers. The book is a list of events, empty at first; it is what property 3 calls the events taken so far."
use Rattle.std.specs.Prelude.{◌≡◌, List, [], ◌∷◌, ◌++◌, ℕ, ◌≤◌, ◌<◌, true, false, Ok, Err}
use Rattle.base.specs.Refusals.{refusal}
use Rattle.base.specs.declared.Reason.TheVariants as Reason
use Rattle.diagram.specs.Tree.{Flow}
use Rattle.diagram.specs.Count.{flow_events}
use Rattle.process.specs.Expand.{expand}
use Rattle.process.specs.Runs.{Whole, Begins}
use Rattle.plays.specs.Plays.{Line, Admits}
use Rattle.record.specs.declared.Record.{Record}
use Rattle.book.specs.Calls.{Call, step, finished, Reply, stepped, reported}
use Rattle.book.specs.Marked.{record_after}

-- "Step with e: if the book followed by e begins a whole run, e is put at its end and the answer is done. Otherwise the book stays, and the answer is 14 if e
-- is at or past E, the diagram's number of events, else 15."
pub data StepEntry (d : Flow) (book : List ℕ) (e : ℕ) (l : Line Reply (List ℕ)) : Type 0 where
  begins : Begins (expand d) (book ++ (e ∷ [])) → l ≡ record { reply = stepped (Ok tt); after = book ++ (e ∷ []) } → StepEntry d book e l
  past : (Begins (expand d) (book ++ (e ∷ [])) → ⊥) → flow_events d ≤ e → l ≡ record { reply = stepped (Err (refusal Reason.Event 0)); after = book } → StepEntry d book e l
  below : (Begins (expand d) (book ++ (e ∷ [])) → ⊥) → e < flow_events d → l ≡ record { reply = stepped (Err (refusal Reason.Guard 0)); after = book } → StepEntry d book e l

-- "Finished: yes exactly when the book is a whole run; it stays."
pub data FinishEntry (d : Flow) (book : List ℕ) (l : Line Reply (List ℕ)) : Type 0 where
  whole : Whole (expand d) book → l ≡ record { reply = reported (Ok true); after = book } → FinishEntry d book l
  part : (Whole (expand d) book → ⊥) → l ≡ record { reply = reported (Ok false); after = book } → FinishEntry d book l

-- What the book says to a call: its answer, and the book after it.
abbrev pub Entry : Flow → List ℕ → Call → Line Reply (List ℕ) → Type 0
Entry d book (step e) l = StepEntry d book e l
Entry d book finished l = FinishEntry d book l

-- The lines that the book of a diagram, "empty at first", admits for a list of calls. "Every answer is the book's. After every call the record is the starting one
-- with, for each event of the book in order, its bit set and, at a reset, those of its loop's body cleared."
abbrev pub ByBook : Flow → List Call → List (Line Reply Record) → Type 0
ByBook d calls lines = Admits (Entry d) (record_after d) [] calls lines
