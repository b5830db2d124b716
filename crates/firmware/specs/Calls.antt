-- What the C firmware's calls answer, and every byte that they leave: "Each answers one number: 0 for sound, done or not finished, 255 for finished,
-- otherwise the refusal's, whose place is always 0 here."
use Rattle.std.specs.Prelude.{Bool, cond, List, ℕ, eqb, length, ⊤, Result, Ok, Err}
use Rattle.base.specs.Fill.{fill}
use Rattle.base.specs.declared.Refusal.{Refusal}
use Rattle.record.specs.Bytes.{words_of, bytes_of}
use Rattle.record.specs.declared.Record.{Record}
use Rattle.table.specs.Steps.{check_of, step_of, finished_of, offer_of, offer_left}
use Rattle.table.specs.Reports.{report, finish_report}

-- The number that stands for an answer, and for what is said of a finished run.
abbrev pub number : Result ⊤ Refusal → ℕ
number a = (report a).number

abbrev pub finish_number : Result Bool Refusal → ℕ
finish_number f = (finish_report f).number

-- The record that 64 bytes hold.
abbrev pub record_of : List ℕ → Record
record_of bytes = record { bits = words_of bytes }

-- adl_check.
abbrev pub check_number : List ℕ → ℕ
check_number t = number (check_of t)

-- Number 1, "a C record not of 64", before all others.
abbrev pub with_record : List ℕ → ℕ → ℕ
with_record bytes n = cond (eqb (length bytes) 64) n 1

-- adl_step: its number, and the record's bytes after it.
unfoldable pub step_number : List ℕ → List ℕ → ℕ → ℕ
step_number t bytes e = with_record bytes (number (step_of t (record_of bytes) e).answer)

-- The record's bytes by the answer: those of the record after the event over those before it; a refusal leaves them.
abbrev pub left_bytes : List ℕ → List ℕ → Result ⊤ Refusal → List ℕ
left_bytes bytes bits (Ok done) = fill bytes (bytes_of bits)
left_bytes bytes bits (Err r) = bytes

unfoldable pub step_bytes : List ℕ → List ℕ → ℕ → List ℕ
step_bytes t bytes e =
    cond (eqb (length bytes) 64) (left_bytes bytes (step_of t (record_of bytes) e).after.bits (step_of t (record_of bytes) e).answer) bytes

-- adl_finished.
unfoldable pub finished_number : List ℕ → List ℕ → ℕ
finished_number t bytes = with_record bytes (finish_number (finished_of t (record_of bytes)))

-- adl_offer: its number, and the lent bytes after it.
unfoldable pub offer_number : List ℕ → List ℕ → List ℕ → ℕ
offer_number t bytes lent = with_record bytes (number (offer_of t (record_of bytes) lent))

unfoldable pub offer_bytes : List ℕ → List ℕ → List ℕ → List ℕ
offer_bytes t bytes lent =
    cond (eqb (length bytes) 64) (offer_left t (record_of bytes) lent (offer_of t (record_of bytes) lent)) lent
