-- What checking, a step, the question whether a run is finished, and an offer answer: the refusals `Table`, `Record`, `Event` and `Guard`, numbers 12 to 15,
-- in their order.
use Rattle.std.specs.Prelude.{Bool, cond, List, ℕ, zero, suc, ltb, length, replicate, ⊤, Result, Ok, Err}
use Rattle.std.specs.Result.{result_and}
use Rattle.base.specs.Fill.{fill}
use Rattle.base.specs.Refusals.{refusal}
use Rattle.base.specs.declared.Reason.TheVariants as Reason
use Rattle.base.specs.declared.Refusal.{Refusal}
use Rattle.record.specs.Bits.{set_bit, clear_bits, set_past}
use Rattle.record.specs.Bytes.{bytes_of}
use Rattle.record.specs.declared.Record.{Record}
use Rattle.layout.specs.Fields.{events, event_word, first_of, count_of}
use Rattle.layout.specs.Sound.{sound}
use Rattle.layout.specs.Values.{values_of, allows, ended}
use Rattle.table.specs.declared.Stepped.{Stepped}

-- Number 12, "unsound table".
unfoldable pub check_of : List ℕ → Result ⊤ Refusal
check_of t = cond (sound t) (Ok tt) (Err (refusal Reason.Table 0))

-- Numbers 12 and 13, of a table and a record's words: what step, finished and offer look at first.
unfoldable pub admit_of : List ℕ → List ℕ → Result ⊤ Refusal
admit_of t bits =
    cond (sound t) (cond (set_past bits (events t)) (Err (refusal Reason.Record 0)) (Ok tt)) (Err (refusal Reason.Table 0))

-- Numbers 14 and 15, or the event's record.
unfoldable pub taken_or_not : List ℕ → List ℕ → ℕ → Result ℕ Refusal
taken_or_not t bits e =
    cond (ltb e (events t)) (cond (allows t (values_of t bits) e) (Ok (event_word t e)) (Err (refusal Reason.Guard 0)))
    (Err (refusal Reason.Event 0))

-- The record of an event that is taken, or the refusal: that of the first look before all others.
abbrev pub allowed_of : List ℕ → List ℕ → ℕ → Result ℕ Refusal
allowed_of t bits e = result_and (admit_of t bits) (taken_or_not t bits e)

-- "Event e has control bit e: set when e is taken." The event's record says which bits are cleared.
unfoldable pub taken : List ℕ → List ℕ → ℕ → List ℕ
taken t bits e = clear_bits (set_bit bits e) (first_of (event_word t e)) (count_of (event_word t e))

-- "Lent buffers and records keep their bytes" where the answer is a refusal.
abbrev pub refused : Record → Refusal → Stepped
refused before r = record { answer = Err r; after = before }

abbrev pub stepped : List ℕ → Record → ℕ → Result ℕ Refusal → Stepped
stepped t before e (Ok w) = record { answer = Ok tt; after = record { bits = taken t before.bits e } }
stepped t before e (Err r) = refused before r

-- What a step with event e answers, and the record after it.
unfoldable pub step_of : List ℕ → Record → ℕ → Stepped
step_of t before e = stepped t before e (allowed_of t before.bits e)

-- Whether a run is finished.
unfoldable pub finished_of : List ℕ → Record → Result Bool Refusal
finished_of t before = result_and (admit_of t before.bits) (Ok (ended t (values_of t before.bits)))

-- The bits of the events below e that a step would take, from what the rows say.
unfoldable pub offered : List ℕ → List Bool → ℕ → List ℕ
offered t vs zero = replicate 8 0
offered t vs (suc e) = cond (allows t vs e) (set_bit (offered t vs e) e) (offered t vs e)

-- Number 1, "offer under 64", and then 12 and 13.
unfoldable pub offer_of : List ℕ → Record → List ℕ → Result ⊤ Refusal
offer_of t before lent = cond (ltb (length lent) 64) (Err (refusal Reason.Buffer 0)) (admit_of t before.bits)

-- "Offer writes 64 bytes: the bit of each event that a step would take."
abbrev pub offer_left : List ℕ → Record → List ℕ → Result ⊤ Refusal → List ℕ
offer_left t before lent (Ok made) = fill lent (bytes_of (offered t (values_of t before.bits) (events t)))
offer_left t before lent (Err r) = lent
