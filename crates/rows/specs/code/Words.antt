-- A row as a word of 32 bits, as `layout` reads it: for the contracts of the code.
use Rattle.std.specs.Prelude.{ℕ}
use Rattle.layout.specs.Fields.{bit_row, not_row, both_row, either_row}
use Rattle.rows.specs.declared.Row.{Row}
use Rattle.rows.specs.declared.Row.TheVariants.{Bit, Not, Both, Either}

abbrev pub word : Row → ℕ
word (Bit e) = bit_row e
word (Not a) = not_row a
word (Both a b) = both_row a b
word (Either a b) = either_row a b
