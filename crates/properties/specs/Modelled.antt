-- Card 2 of document 02, over calls that were made: the text of an event, and that on the bits of every record "that a run reaches" its guards say where a step takes it.
use Rattle.std.specs.Prelude.{◌≡◌, ◌↔◌, true, List, [], ◌∷◌, ℕ, ◌≤◌, ◌<◌, length, take, Ok}
use Rattle.base.specs.Fill.{fill}
use Rattle.base.specs.Reports.{result, Written}
use Rattle.diagram.specs.Tree.{Flow}
use Rattle.diagram.specs.Count.{flow_events}
use Rattle.reading.specs.Accepted.{Accepted}
use Rattle.process.specs.Expand.{expand}
use Rattle.process.specs.Runs.{Begins}
use Rattle.record.specs.Bits.{bit_at}
use Rattle.table.specs.declared.Stepped.{Stepped}
use Rattle.book.specs.Marked.{record_after}
use Rattle.formulas.specs.Formulas.{Formula, all_hold, AllSpeak}
use Rattle.formulas.specs.Lines.{event_lines}
use Rattle.modelling.specs.Profile.{in_profile}
use Rattle.modelling.specs.Texts.{naming, actions_of}
use Rattle.modelling.specs.Reports.{report}
use Rattle.properties.specs.Calls.{Translates, Steps, WritesEvent}

-- The bytes of event e that were written over the front of a lent buffer.
pub record Modelled (text : List ℕ) (d : Flow) (e : ℕ) (lent : List ℕ) (w : Written) (left : List ℕ) : Type 0 where
  -- how the guards are put is left open: there are formulas, at least one,
  pub guards : List Formula
  pub some : guards ≡ [] → ⊥
  -- whose rendering, in the card's lines, is what was written,
  pub its_count : report w ≡ result (length (event_lines (naming d) e guards (actions_of d e)) ∷ [])
  pub its_bytes : left ≡ fill lent (event_lines (naming d) e guards (actions_of d e))
  -- and no other formulas over the diagram's variables have these bytes;
  pub its_formulas : AllSpeak (flow_events d) guards
  pub no_others : (others : List Formula) → AllSpeak (flow_events d) others
      → event_lines (naming d) e others (actions_of d e) ≡ event_lines (naming d) e guards (actions_of d e) → others ≡ guards
  -- whatever translation wrote for the text, and whatever a step on that table answered, on the record that a beginning of a whole run leads to: they hold exactly where
  -- the step was done
  pub hold : (buffer : List ℕ) (t : Written) (table : List ℕ) → Translates text buffer t table → (count : ℕ) → t ≡ Ok count → (book : List ℕ) → Begins (expand d) book
      → (s : Stepped) → Steps (take count table) (record_after d book) e s → (all_hold guards (bit_at (record_after d book).bits) ≡ true) ↔ (s.answer ≡ Ok tt)

-- Any accepted text in the profile, any event of its diagram, any buffer of 65,536 bytes or more, and whatever `eventb::event` answered and left.
abbrev pub EventsModelled : Type 0
EventsModelled =
    (text : List ℕ) (d : Flow) → Accepted text d → in_profile d ≡ true → (e : ℕ) → e < flow_events d → (lent : List ℕ) → 65536 ≤ length lent
    → (w : Written) (left : List ℕ) → WritesEvent text e lent w left → Modelled text d e lent w left
