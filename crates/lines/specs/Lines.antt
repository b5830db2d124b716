-- The lines of a listing. Document 01: "Each line ends with byte 10. First line: events and node copies. Then number, name, and values outermost first, each after
-- a space; a reset has `reset` before the flow's name."
use Rattle.std.specs.Prelude.{Bool, cond, List, [], ◌∷◌, ◌++◌, ℕ, suc}
use Rattle.base.specs.Text.{bytes}
use Rattle.process.specs.Process.{Event}
use Rattle.output.specs.Decimal.{decimal}
use Rattle.output.specs.Lines.{two_numbers}

-- `events E copies C`
unfoldable pub first_line : ℕ → ℕ → List ℕ
first_line e c = two_numbers (bytes "events ") e (bytes " copies ") c

-- Values, "each after a space".
unfoldable pub spaced : List ℕ → List ℕ
spaced [] = []
spaced (v ∷ vs) = bytes " " ++ (decimal v ++ spaced vs)

-- `reset` and a space, or nothing.
abbrev pub mark : Bool → List ℕ
mark reset = cond reset (bytes "reset ") []

-- The line of event e.
unfoldable pub line : ℕ → Event → List ℕ
line e l = decimal e ++ (bytes " " ++ (mark l.reset ++ (l.name ++ (spaced l.values ++ bytes "\n"))))

-- The lines of some events, of which the first has the number e.
unfoldable pub lines : ℕ → List Event → List ℕ
lines e [] = []
lines e (l ∷ ls) = line e l ++ lines (suc e) ls
