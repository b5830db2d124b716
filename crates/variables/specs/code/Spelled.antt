-- Variables and formulas over them as the functions write them, by where the names stand.
use Rattle.std.specs.Prelude.{Bool, false, cond, List, ◌++◌, ℕ, get_or}
use Rattle.base.specs.Text.{bytes}
use Rattle.tokens.specs.Words.{word_at}
use Rattle.formulas.specs.Formulas.{Formula, is}
use Rattle.formulas.specs.Lines.{Naming, formula}
use Rattle.formulas.specs.Conditions.{some_true, all_false}
use Rattle.variables.specs.declared.Variable.{Variable}
use Rattle.variables.specs.declared.Spelling.{Spelling}

abbrev pub mark : Bool → List ℕ
mark reset = cond reset (bytes "r_") (bytes "v_")

-- Of an event past the last.
abbrev pub none : Variable
none = record { place = 0; reset = false }

-- The variable of event n, its name as it stands in the text.
unfoldable pub spelled : List ℕ → List Variable → Naming
spelled text variables n = mark (get_or variables n none).reset ++ word_at text (get_or variables n none).place

-- As a spelling says.
abbrev pub naming : Spelling → Naming
naming s = spelled s.text.now s.variables

abbrev pub connective : Bool → List ℕ
connective either = cond either (bytes " or ") (bytes " & ")

-- A formula of two, up to its second.
abbrev pub lead : Naming → ℕ → Bool → List ℕ
lead v n value = bytes "(" ++ (formula v (is n value) ++ connective value)

-- Some variable is TRUE, or each is FALSE.
abbrev pub over : Bool → ℕ → ℕ → Formula
over value from after = cond value (some_true from after) (all_false from after)
