-- What holds of the machine of a diagram: of the texts of its events, and of running it.
use Rattle.std.specs.Prelude.{◌≡◌, ◌↔◌, List, map, ℕ, ◌≤◌, ◌<◌, length}
use Rattle.diagram.specs.Tree.{Flow}
use Rattle.diagram.specs.Count.{flow_events}
use Rattle.process.specs.Expand.{expand}
use Rattle.process.specs.Runs.{Begins}
use Rattle.process.specs.Bits.{blank}
use Rattle.process.specs.Once.{times}
use Rattle.formulas.specs.Formulas.{Formula, AllSpeak}
use Rattle.formulas.specs.Actions.{Action, AllSet}
use Rattle.formulas.specs.Lines.{event_lines}
use Rattle.formulas.specs.Machine.{Takes}
use Rattle.modelling.specs.Texts.{naming, guards_of, actions_of, event_text, opening_text}
use Rattle.modelling.specs.Guards.{Guards}

-- Whatever formulas are put into the guards of an event, and whatever actions it has: the bytes of the event tell which event it is, which formulas they are, in their
-- order, and which actions. So what is said of formulas whose rendering was written is said of what was written.
abbrev pub OneReading : Flow → Type 0
OneReading d =
    (e f : ℕ) → e < flow_events d → f < flow_events d → (guards others : List Formula) → AllSpeak (flow_events d) guards → AllSpeak (flow_events d) others
    → (acts further : List Action) → AllSet (flow_events d) acts → AllSet (flow_events d) further
    → event_lines (naming d) e guards acts ≡ event_lines (naming d) f others further → (e ≡ f) × (guards ≡ others) × (acts ≡ further)

pub record MachineOf (d : Flow) : Type 0 where
  -- the guards of each event say where a step takes it
  pub its_guards : (e : ℕ) → e < flow_events d → Guards d e (guards_of d e)
  -- from all variables FALSE the machine takes exactly the lists of events that begin a whole run
  pub its_runs : (w : List ℕ) → Takes (flow_events d) (guards_of d) (actions_of d) blank w ↔ Begins (expand d) w
  -- no event sets a variable twice, so its actions may happen at once, as Event-B has them
  pub its_actions : (e n : ℕ) → times n (map (λ (a : Action). a.variable) (actions_of d e)) ≤ 1
  -- 65,536 bytes are "always enough"
  pub events_fit : (e : ℕ) → e < flow_events d → length (event_text d e) ≤ 65536
  pub opening_fits : length (opening_text d) ≤ 65536
  pub its_texts : OneReading d
