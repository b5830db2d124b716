-- The text of an event, line by line. Card 2 of document 02: `event` with the name, `where` and the guards, `then` and the actions, `end`; guards and actions each with a label
-- and a number, "counted on" from 1; byte 10 after every line.
use Rattle.std.specs.Prelude.{Bool, cond, List, [], ◌∷◌, ◌++◌, ℕ, suc}
use Rattle.base.specs.Text.{bytes}
use Rattle.output.specs.Decimal.{decimal}
use Rattle.process.specs.Process.{Event}
use Rattle.formulas.specs.Formulas.{Formula, is, both, either}
use Rattle.formulas.specs.Actions.{Action}

-- What the variable of each event is called.
abbrev pub Naming : Type 0
Naming = ℕ → List ℕ

-- What card 2 calls the variable of a leaf, `v_` and the leaf's name, and that of a reset, `r_` and the name of its flow; the event is called the same.
abbrev pub variable : Event → List ℕ
variable l = cond l.reset (bytes "r_") (bytes "v_") ++ l.name

abbrev pub truth : Bool → List ℕ
truth b = cond b (bytes "TRUE") (bytes "FALSE")

-- The four forms of a formula, as card 2 writes them.
unfoldable pub formula : Naming → Formula → List ℕ
formula v (is n b) = v n ++ (bytes " = " ++ truth b)
formula v (both f g) = bytes "(" ++ (formula v f ++ (bytes " & " ++ (formula v g ++ bytes ")")))
formula v (either f g) = bytes "(" ++ (formula v f ++ (bytes " or " ++ (formula v g ++ bytes ")")))

-- A label, "counted on", and what it labels.
abbrev pub labelled : List ℕ → ℕ → List ℕ → List ℕ
labelled label k line = label ++ (decimal k ++ (bytes " " ++ (line ++ bytes "\n")))

-- The guards from number k on.
unfoldable pub guard_lines : Naming → ℕ → List Formula → List ℕ
unfolding formula
guard_lines v k [] = []
guard_lines v k (f ∷ fs) = labelled (bytes "@grd_") k (formula v f) ++ guard_lines v (suc k) fs

abbrev pub action : Naming → Action → List ℕ
action v a = v a.variable ++ (bytes " := " ++ truth a.value)

-- The actions from number k on.
unfoldable pub action_lines : Naming → ℕ → List Action → List ℕ
action_lines v k [] = []
action_lines v k (a ∷ more) = labelled (bytes "@act_") k (action v a) ++ action_lines v (suc k) more

-- The text of event e with these guards and actions.
unfoldable pub event_lines : Naming → ℕ → List Formula → List Action → List ℕ
unfolding guard_lines action_lines
event_lines v e guards acts =
    bytes "event " ++ (v e ++ (bytes "\nwhere\n" ++ (guard_lines v 1 guards ++ (bytes "then\n" ++ (action_lines v 1 acts ++ bytes "end\n")))))
