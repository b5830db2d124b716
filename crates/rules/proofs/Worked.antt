-- The counts that are worked through, computed over the table.
use mathlib.Core.Path.{refl}
use Rattle.rules.specs.Worked.{counts, Counted}

pub counted : Counted counts
counted = refl
