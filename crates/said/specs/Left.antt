-- The lines that an iterator over lines still has.
use Rattle.std.specs.Prelude.{List, ℕ}
use Rattle.said.specs.Lines.{lines}
use Rattle.said.specs.declared.ListingLines.{ListingLines}

abbrev pub lines_left : ListingLines → List (List ℕ)
lines_left s = lines s.left.now
