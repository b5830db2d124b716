-- What the guards of an event have to say. Card 2: on the bits of a record "that a run reaches" they hold exactly if a step takes the event.
use Rattle.std.specs.Prelude.{◌≡◌, ◌↔◌, true, List, [], ℕ, Ok}
use Rattle.diagram.specs.Tree.{Flow}
use Rattle.diagram.specs.Count.{flow_events}
use Rattle.process.specs.Expand.{expand}
use Rattle.process.specs.Runs.{Begins}
use Rattle.record.specs.Bits.{bit_at}
use Rattle.table.specs.Steps.{step_of}
use Rattle.book.specs.Marked.{record_after}
use Rattle.translator.specs.Translates.{table_of}
use Rattle.formulas.specs.Formulas.{Formula, all_hold, AllSpeak}

pub record Guards (d : Flow) (e : ℕ) (guards : List Formula) : Type 0 where
  -- there is at least one
  pub some : guards ≡ [] → ⊥
  -- they speak of the diagram's events
  pub speak : AllSpeak (flow_events d) guards
  -- on the bits of the record that a list of events leads to, where it begins a whole run, they hold exactly if a step on the diagram's table takes the event
  pub hold : (book : List ℕ) → Begins (expand d) book
      → (all_hold guards (bit_at (record_after d book).bits) ≡ true) ↔ ((step_of (table_of d) (record_after d book) e).answer ≡ Ok tt)
