-- The text of a diagram's machine: of each event, of what stands before the first, and of all of it.
use Rattle.std.specs.Prelude.{List, [], ◌++◌, ℕ, zero, suc}
use Rattle.base.specs.Text.{bytes}
use Rattle.diagram.specs.Tree.{Flow}
use Rattle.diagram.specs.Count.{flow_events}
use Rattle.process.specs.Process.{event_of}
use Rattle.process.specs.Expand.{flow_name, expand}
use Rattle.formulas.specs.Formulas.{Formula}
use Rattle.formulas.specs.Actions.{Action, actions}
use Rattle.formulas.specs.Lines.{Naming, variable, event_lines}
use Rattle.formulas.specs.Conditions.{conditions}
use Rattle.formulas.specs.Opening.{opening_lines}

-- What the variable of each event is called, and the event.
abbrev pub naming : Flow → Naming
naming d n = variable (event_of (expand d) n)

-- The formulas that are chosen for the guards of event e. Card 2 leaves them "free". They depend on the diagram and the event alone.
unfoldable pub guards_of : Flow → ℕ → List Formula
guards_of d e = conditions (expand d) e

-- What it sets and clears.
unfoldable pub actions_of : Flow → ℕ → List Action
actions_of d e = actions (expand d) (flow_events d) e

unfoldable pub event_text : Flow → ℕ → List ℕ
unfolding guards_of actions_of
event_text d e = event_lines (naming d) e (guards_of d e) (actions_of d e)

-- The machine has the root's name.
unfoldable pub opening_text : Flow → List ℕ
opening_text d = opening_lines (naming d) (flow_name d) (flow_events d)

-- The texts of n events, from event e on.
unfoldable pub event_texts : Flow → ℕ → ℕ → List ℕ
unfolding event_text
event_texts d e zero = []
event_texts d e (suc n) = event_text d e ++ event_texts d (suc e) n

-- The whole machine, as the program prints it.
unfoldable pub machine_text : Flow → List ℕ
unfolding opening_text event_texts
machine_text d = opening_text d ++ (event_texts d 0 (flow_events d) ++ bytes "end\n")
