-- Property 1, for the C firmware's calls: "Each answers one number: 0 for sound, done or not finished, 255 for finished, otherwise the refusal's", each
-- exactly under its condition; every lent byte is told, and a refusal leaves them all.
use Rattle.std.specs.Prelude.{◌≡◌, Bool, List, ℕ, length, ⊤, Result}
use Rattle.base.specs.declared.Refusal.{Refusal}
use Rattle.table.specs.Bounds.{CheckAnswer, StepAnswer, FinishAnswer, OfferAnswer}
use Rattle.table.specs.declared.Stepped.{Stepped}
use Rattle.firmware.specs.Calls.{number, finish_number, record_of, left_bytes, check_number, step_number, step_bytes, finished_number, offer_number, offer_bytes}

pub data CheckBounded (t : List ℕ) (n : ℕ) : Type 0 where
  checked : (a : Result ⊤ Refusal) → n ≡ number a → CheckAnswer t a → CheckBounded t n

-- Number 1 first; then what the call by value answers of the record that the 64 bytes hold.
pub data StepBounded (t bytes : List ℕ) (e n : ℕ) (after : List ℕ) : Type 0 where
  step_short : n ≡ 1 → (length bytes ≡ 64 → ⊥) → after ≡ bytes → StepBounded t bytes e n after
  stepped : (s : Stepped) → length bytes ≡ 64 → n ≡ number s.answer → after ≡ left_bytes bytes s.after.bits s.answer
      → StepAnswer t (record_of bytes) e s → StepBounded t bytes e n after

pub data FinishBounded (t bytes : List ℕ) (n : ℕ) : Type 0 where
  finish_short : n ≡ 1 → (length bytes ≡ 64 → ⊥) → FinishBounded t bytes n
  asked : (f : Result Bool Refusal) → length bytes ≡ 64 → n ≡ finish_number f → FinishAnswer t (record_of bytes) f → FinishBounded t bytes n

pub data OfferBounded (t bytes lent : List ℕ) (n : ℕ) (after : List ℕ) : Type 0 where
  offer_short : n ≡ 1 → (length bytes ≡ 64 → ⊥) → after ≡ lent → OfferBounded t bytes lent n after
  offered : (a : Result ⊤ Refusal) → length bytes ≡ 64 → n ≡ number a → OfferAnswer t (record_of bytes) lent a after → OfferBounded t bytes lent n after

-- The four calls, on any table, record, event number and buffer.
pub record Bounded (t bytes lent : List ℕ) (e : ℕ) : Type 0 where
  pub check : CheckBounded t (check_number t)
  pub step : StepBounded t bytes e (step_number t bytes e) (step_bytes t bytes e)
  pub finished : FinishBounded t bytes (finished_number t bytes)
  pub offer : OfferBounded t bytes lent (offer_number t bytes lent) (offer_bytes t bytes lent)
