-- The line of an event by its mark, the place of its name and its values: for the contracts of the functions that write it.
use Rattle.std.specs.Prelude.{Bool, cond, List, [], ◌++◌, ℕ, ltb}
use Rattle.base.specs.Text.{bytes}
use Rattle.tokens.specs.Words.{word_at}
use Rattle.output.specs.Decimal.{decimal}
use Rattle.labels.specs.declared.Values.{Values}
use Rattle.lines.specs.Lines.{mark}

-- A value after a space, if it is there; and up to three of them.
abbrev pub spaced_value : Bool → ℕ → List ℕ
spaced_value there v = cond there (bytes " " ++ decimal v) []

unfoldable pub spaced_values : Values → List ℕ
spaced_values v = spaced_value (ltb 0 v.count) v.first ++ (spaced_value (ltb 1 v.count) v.second ++ spaced_value (ltb 2 v.count) v.third)

-- The line of event e, up to the name, and whole.
unfoldable pub line_head : ℕ → Bool → List ℕ
line_head e reset = decimal e ++ (bytes " " ++ mark reset)

unfoldable pub line_at : List ℕ → ℕ → Bool → ℕ → Values → List ℕ
line_at text e reset name vs = line_head e reset ++ (word_at text name ++ (spaced_values vs ++ bytes "\n"))
