-- The table worked through by the C calls: every line, by computation.
use mathlib.Core.Path.{refl}
use Rattle.base.specs.Fill.{fill}
use Rattle.record.specs.Bits.{bit_at, change, clear_bits, clear_between}
use Rattle.record.specs.Bytes.{words_of, bytes_to}
use Rattle.base.specs.Packed.{field}
use Rattle.layout.specs.Sound.{sized, event_sound, row_sound, events_sound, rows_sound, sound}
use Rattle.layout.specs.Values.{says, row_values}
use Rattle.table.specs.Worked.{Each}
use Rattle.table.specs.Steps.{check_of, admit_of, taken, taken_or_not, step_of, finished_of, offered, offer_of}
use Rattle.firmware.specs.Calls.{step_number, step_bytes, finished_number, offer_number, offer_bytes}
use Rattle.firmware.specs.Worked.{lines, does}

pub lines_hold : Each does (λ n. n) lines
unfolding fill bit_at change clear_bits clear_between field words_of bytes_to sized event_sound row_sound events_sound rows_sound sound says row_values check_of admit_of taken taken_or_not step_of finished_of offered offer_of step_number step_bytes finished_number offer_number offer_bytes
lines_hold = refl
