-- Property 1, for tables: every answer is a result or one numbered refusal, each exactly under its condition, and a refusal leaves what was lent.
-- `base.specs.Refusals.number` is the number of a refusal's reason.
use Rattle.std.specs.Prelude.{◌≡◌, Bool, true, false, List, ℕ, ◌≤◌, ◌<◌, length, ⊤, Result, Ok, Err}
use Rattle.base.specs.Fill.{fill}
use Rattle.base.specs.Refusals.{refusal}
use Rattle.base.specs.declared.Reason.TheVariants as Reason
use Rattle.base.specs.declared.Refusal.{Refusal}
use Rattle.record.specs.Bits.{set_past}
use Rattle.record.specs.Bytes.{bytes_of}
use Rattle.record.specs.declared.Record.{Record}
use Rattle.layout.specs.Fields.{events}
use Rattle.layout.specs.Sound.{sound}
use Rattle.layout.specs.Values.{values_of, allows, ended}
use Rattle.table.specs.Steps.{check_of, taken, refused, step_of, finished_of, offered, offer_of, offer_left}
use Rattle.table.specs.declared.Stepped.{Stepped}

pub data CheckAnswer (t : List ℕ) (a : Result ⊤ Refusal) : Type 0 where
  is_sound : a ≡ Ok tt → sound t ≡ true → CheckAnswer t a
  not_sound : a ≡ Err (refusal Reason.Table 0) → sound t ≡ false → CheckAnswer t a

-- Neither 12 nor 13.
pub record Ready (t bits : List ℕ) : Type 0 where
  pub its_table : sound t ≡ true
  pub its_bits : set_past bits (events t) ≡ false

-- What a step with event e needs to be done: an event below E, whose guard row says yes.
pub record Takes (t : List ℕ) (before : Record) (e : ℕ) : Type 0 where
  pub ready : Ready t before.bits
  pub below : e < events t
  pub allowed : allows t (values_of t before.bits) e ≡ true

-- What a run needs to be finished: a last row that says yes.
pub record Ends (t : List ℕ) (before : Record) : Type 0 where
  pub ready : Ready t before.bits
  pub says_so : ended t (values_of t before.bits) ≡ true

-- Number 12, or 13.
pub data NotReady (t bits : List ℕ) (r : Refusal) : Type 0 where
  unsound : r ≡ refusal Reason.Table 0 → sound t ≡ false → NotReady t bits r
  bit_past : r ≡ refusal Reason.Record 0 → sound t ≡ true → set_past bits (events t) ≡ true → NotReady t bits r

pub data StepAnswer (t : List ℕ) (before : Record) (e : ℕ) (s : Stepped) : Type 0 where
  event_taken : s ≡ record { answer = Ok tt; after = record { bits = taken t before.bits e } } → Takes t before e → StepAnswer t before e s
  step_not_ready : (r : Refusal) → s ≡ refused before r → NotReady t before.bits r → StepAnswer t before e s
  past_events : s ≡ refused before (refusal Reason.Event 0) → Ready t before.bits → events t ≤ e → StepAnswer t before e s
  guard_says_no : s ≡ refused before (refusal Reason.Guard 0) → Ready t before.bits → e < events t
      → allows t (values_of t before.bits) e ≡ false → StepAnswer t before e s

pub data FinishAnswer (t : List ℕ) (before : Record) (f : Result Bool Refusal) : Type 0 where
  run_finished : f ≡ Ok true → Ends t before → FinishAnswer t before f
  run_open : f ≡ Ok false → Ready t before.bits → ended t (values_of t before.bits) ≡ false → FinishAnswer t before f
  finished_not_ready : (r : Refusal) → f ≡ Err r → NotReady t before.bits r → FinishAnswer t before f

pub data OfferAnswer (t : List ℕ) (before : Record) (lent : List ℕ) (a : Result ⊤ Refusal) (left : List ℕ) : Type 0 where
  offer_made : a ≡ Ok tt → 64 ≤ length lent → Ready t before.bits
      → left ≡ fill lent (bytes_of (offered t (values_of t before.bits) (events t))) → OfferAnswer t before lent a left
  buffer_short : a ≡ Err (refusal Reason.Buffer 0) → length lent < 64 → left ≡ lent → OfferAnswer t before lent a left
  offer_not_ready : (r : Refusal) → a ≡ Err r → 64 ≤ length lent → NotReady t before.bits r → left ≡ lent → OfferAnswer t before lent a left

-- The four calls, on any table, record, event number and buffer.
pub record Answers (t : List ℕ) (before : Record) (lent : List ℕ) (e : ℕ) : Type 0 where
  pub check : CheckAnswer t (check_of t)
  pub step : StepAnswer t before e (step_of t before e)
  pub finished : FinishAnswer t before (finished_of t before)
  pub offer : OfferAnswer t before lent (offer_of t before lent) (offer_left t before lent (offer_of t before lent))
