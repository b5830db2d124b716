-- The four bytes of the part are those at the place.
use mathlib.Core.Path.{◌∙◌}
use Prim.Native.Nat.{◌+◌, ◌-◌, ◌*◌}
use native.Mathlib.Omega.{arith}
use Rattle.base.proofs.Fields.{field_part}
use Rattle.layout.proofs.Table.word.Goals as goal

pub returns : goal.returns
returns c = let at = 4 + 4 * c.args.k in c.number.ensures.0 ∙ field_part 4 (at + 4 - at) _ at (omega arith)
