-- The limits of a table's size, by computation.
use mathlib.Core.Path.{refl}
use Rattle.base.specs.Packed.{field}
use Rattle.layout.specs.Sound.{sized}
use Rattle.layout.specs.Worked.{limits, Sizes}

pub sizes_hold : Sizes limits
unfolding field sized
sizes_hold = refl
