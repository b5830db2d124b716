-- The machines worked through, computed.
use mathlib.Core.Path.{refl}
use Rattle.diagram.specs.Count.{flow_events}
use Rattle.diagram.specs.TreeNodes.{flow_tree_nodes}
use Rattle.diagram.specs.Replicators.{some_replicates}
use Rattle.output.specs.Decimal.{digits}
use Rattle.process.specs.Process.{owns, event_of, events}
use Rattle.process.specs.Expand.{flow_process}
use Rattle.process.specs.Bits.{clears}
use Rattle.process.specs.Bodies.{first}
use Rattle.formulas.specs.Actions.{cleared, actions}
use Rattle.formulas.specs.Conditions.{some_true, all_false, complete_when, settled_when, conditions}
use Rattle.formulas.specs.Lines.{formula, guard_lines, action_lines, event_lines}
use Rattle.formulas.specs.Opening.{variable_lines, invariant_lines, cleared_all, opening_lines}
use Rattle.modelling.specs.Profile.{in_profile}
use Rattle.modelling.specs.Texts.{guards_of, actions_of, event_text, opening_text, event_texts, machine_text}
use Rattle.modelling.specs.Worked.{texts, TextsWorked, MachineWorked, profiles, Profiled}

pub texts_worked : TextsWorked texts
unfolding flow_events flow_process owns event_of events clears first digits cleared actions some_true all_false complete_when settled_when conditions formula guard_lines action_lines event_lines guards_of actions_of event_text
texts_worked = refl

pub machine_worked : MachineWorked
unfolding flow_events flow_process owns event_of events clears first digits cleared actions some_true all_false complete_when settled_when conditions formula guard_lines action_lines event_lines guards_of actions_of event_text variable_lines invariant_lines cleared_all opening_lines opening_text event_texts machine_text
machine_worked = refl

pub profiled : Profiled profiles
unfolding flow_events flow_tree_nodes some_replicates in_profile
profiled = refl
