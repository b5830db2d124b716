-- A machine up to its first event, as Rodin's text editors read it: the machine's name, its variables, invariants that type them, and the event that begins with all of them
-- FALSE. After it come the events, and `end`.
use Rattle.std.specs.Prelude.{false, List, [], ◌∷◌, ◌++◌, ℕ, zero, suc}
use Rattle.base.specs.Text.{bytes}
use Rattle.formulas.specs.Actions.{Action, becomes}
use Rattle.formulas.specs.Lines.{Naming, labelled, action_lines}

-- A line for each of n variables, the first being that of event `from`.
unfoldable pub variable_lines : Naming → ℕ → ℕ → List ℕ
variable_lines v from zero = []
variable_lines v from (suc n) = (v from ++ bytes "\n") ++ variable_lines v (suc from) n

-- An invariant for each variable, that it is Boolean, from number k on.
unfoldable pub invariant_lines : Naming → ℕ → ℕ → ℕ → List ℕ
invariant_lines v k from zero = []
invariant_lines v k from (suc n) = labelled (bytes "@inv_") k (v from ++ bytes " : BOOL") ++ invariant_lines v (suc k) (suc from) n

-- At the beginning every variable is FALSE: the actions of the event INITIALISATION.
unfoldable pub cleared_all : ℕ → ℕ → List Action
cleared_all from zero = []
cleared_all from (suc n) = becomes from false ∷ cleared_all (suc from) n

-- The machine of this name with n variables.
unfoldable pub opening_lines : Naming → List ℕ → ℕ → List ℕ
unfolding action_lines
opening_lines v name n =
    bytes "machine " ++ (name ++ (bytes "\nvariables\n" ++ (variable_lines v 0 n ++ (bytes "invariants\n" ++ (invariant_lines v 1 0 n
    ++ (bytes "events\nevent INITIALISATION\nthen\n" ++ (action_lines v 1 (cleared_all 0 n) ++ bytes "end\n")))))))
