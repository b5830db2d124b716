-- The table worked through: every line, by computation.
use mathlib.Core.Path.{refl}
use Rattle.base.specs.Fill.{fill}
use Rattle.record.specs.Bits.{bit_at, change, clear_bits, clear_between}
use Rattle.record.specs.Bytes.{bytes_to}
use Rattle.base.specs.Packed.{field}
use Rattle.layout.specs.Sound.{sized, event_sound, row_sound, events_sound, rows_sound, sound}
use Rattle.layout.specs.Values.{says, row_values}
use Rattle.table.specs.Steps.{check_of, admit_of, taken, taken_or_not, step_of, finished_of, offered, offer_of}
use Rattle.table.specs.Worked.{lines, Each, does, numbered}

pub lines_hold : Each does numbered lines
unfolding fill bit_at change clear_bits clear_between field bytes_to sized event_sound row_sound events_sound rows_sound sound says row_values check_of admit_of taken taken_or_not step_of finished_of offered offer_of
lines_hold = refl
