-- The calls of property 3 through the C calls step and finished, "whose numbers and record bytes are those that stand for them".
use Rattle.std.specs.Prelude.{List, ℕ}
use Rattle.plays.specs.Plays.{Line}
use Rattle.record.specs.Bytes.{bytes_of}
use Rattle.record.specs.declared.Record.{Record}
use Rattle.firmware.specs.Calls.{number, finish_number, step_number, step_bytes, finished_number}
use Rattle.book.specs.Calls.{Call, step, finished, Reply, stepped, reported}

-- The number that stands for an answer.
abbrev pub reply_number : Reply → ℕ
reply_number (stepped a) = number a
reply_number (reported f) = finish_number f

-- The number and the bytes that stand for an answer and the record after it.
abbrev pub in_c : Line Reply Record → Line ℕ (List ℕ)
in_c l = record { reply = reply_number l.reply; after = bytes_of l.after.bits }

-- What a C call answers on a table and a record's bytes, and the bytes after it: `step_number`, `step_bytes` and `finished_number` are what the contracts of `adl_step` and
-- `adl_finished` say of the number and of every byte.
abbrev pub c_call : List ℕ → List ℕ → Call → Line ℕ (List ℕ)
c_call t bytes (step e) = record { reply = step_number t bytes e; after = step_bytes t bytes e }
c_call t bytes finished = record { reply = finished_number t bytes; after = bytes }
