-- Lines that the programs print. Document 01: "Each line ends with byte 10."
use Rattle.std.specs.Prelude.{List, ◌++◌, ℕ}
use Rattle.base.specs.Text.{bytes}
use Rattle.output.specs.Decimal.{decimal}

-- A line of two numbers, each after some words.
abbrev pub two_numbers : List ℕ → ℕ → List ℕ → ℕ → List ℕ
two_numbers words m between n = words ++ (decimal m ++ (between ++ (decimal n ++ bytes "\n")))

-- "If turned away it prints one line: `refused`, number and place, one space between."
unfoldable pub refused_line : ℕ → ℕ → List ℕ
refused_line number place = two_numbers (bytes "refused ") number (bytes " ") place
