-- What the bytes hold: the C calls' numbers and bytes are those that stand for the answers and the record.
use Rattle.std.proofs.Common.{rules}
use mathlib.Core.Path.{◌≡◌, refl, sym, ap, ◌∙◌}
use mathlib.Core.Bool.{true}
use mathlib.Core.List.{List}
use mathlib.Core.Logic.{◌↔◌}
use Prim.Native.Nat.{ℕ, ◌≤◌, ◌<◌}
use native.Mathlib.Omega.{arith}
use native.Mathlib.Nat.{mod-lt, zero-lt-suc}
use lib.Dec.{eqb, ltb, lit<}
use lib.ListN.{length, get_or, replicate, get_or-eq_default}
use borrow.Author.Tests.{eq-eqb, ltb-true, ltb-false}
use Rattle.base.proofs.Truth.{by_cases}
use Rattle.base.proofs.Filled.{fill_whole}
use Rattle.record.specs.Bits.{bit_at}
use Rattle.record.specs.Bytes.{Bytes, words_of, bytes_of}
use Rattle.base.specs.Packed.{field}
use Rattle.record.specs.Blank.{blank_record}
use Rattle.record.proofs.Bytes.{bytes_length, byte_at}
use Rattle.record.proofs.RoundTrip.{bytes_words, words_back}
use Rattle.table.specs.Steps.{step_of, finished_of, offer_of}
use Rattle.std.specs.Prelude.{⊤, Result, Ok, Err}
use Rattle.base.specs.Refusals.{number as reason_number}
use Rattle.base.specs.declared.Reason.{Reason}
use Rattle.base.specs.declared.Refusal.{Refusal}
use Rattle.table.specs.declared.Stepped.{Stepped}
use Rattle.table.proofs.Laws.{step_refused, step_words, offer_exactly}
use Rattle.firmware.specs.Calls.{number, finish_number, record_of, left_bytes, step_number, step_bytes, finished_number, offer_number, offer_bytes}

byte_small : (ws : List ℕ) (i : ℕ) → get_or (bytes_of ws) i 0 < 256
byte_small ws i =
    by_cases (ltb i 64)
    (λ l. rw (byte_at ws 64 i (ltb-true i 64 l)) (mod-lt _ (zero-lt-suc 255)))
    (λ l. rw (get_or-eq_default (bytes_of ws) 0 {n = i} (rw (bytes_length ws 64) (ltb-false i 64 l))) (lit< tt))

-- 64 zero bytes hold the blank record.
pub blank_bytes : record_of (replicate 64 0) ≡ blank_record
unfolding words_of field blank_record
blank_bytes = refl

-- A refusal has a number other than 0, so 0 says that the call was done.
reason_numbered : (r : Reason) → 1 ≤ reason_number r
reason_numbered r = search rules

done_by_number : (a : Result ⊤ Refusal) → number a ≡ 0 → a ≡ Ok tt
done_by_number (Ok done) z = refl
done_by_number (Err r) z = let least = reason_numbered r.reason in absurd (omega arith)

module _ (t s : List ℕ) (e : ℕ) (b : Bytes s) where
  -- The number of a step is that of the step by value of the record that the bytes hold.
  pub step_numbered : step_number t s e ≡ number (step_of t (record_of s) e).answer
  unfolding step_number
  step_numbered = rw (eq-eqb (length s) 64 b.0)

  -- The bytes after a step hold the record after it, whatever it answers.
  pub step_held : record_of (step_bytes t s e) ≡ (step_of t (record_of s) e).after
  unfolding step_bytes
  step_held = rw (eq-eqb (length s) 64 b.0) (held (step_of t (record_of s) e).answer refl)
    where
      held : (a : Result ⊤ Refusal) → (step_of t (record_of s) e).answer ≡ a → record_of (left_bytes s (step_of t (record_of s) e).after.bits a) ≡ (step_of t (record_of s) e).after
      held (Ok done) q =
          let w = step_words t (record_of s) e (bytes_words s b) in
          ap (λ (ws : List ℕ). record { bits = ws }) (words_back (step_of t (record_of s) e).after.bits s w (omega (arith, b.0)))
      held (Err r) q = sym (ap (λ (x : Stepped). x.after) (step_refused t (record_of s) e r q).0)

  -- Its bytes are 64 again, each below 256.
  pub step_bytes_again : Bytes (step_bytes t s e)
  unfolding step_bytes
  step_bytes_again = rw (eq-eqb (length s) 64 b.0) (again (step_of t (record_of s) e).answer)
    where
      again : (a : Result ⊤ Refusal) → Bytes (left_bytes s (step_of t (record_of s) e).after.bits a)
      again (Ok done) =
          let ws = (step_of t (record_of s) e).after.bits in
          rw (fill_whole s (bytes_of ws) (bytes_length ws 64 ∙ sym b.0)) (bytes_length ws 64, λ i. byte_small ws i)
      again (Err r) = b

  -- Whether a run is finished, by its number.
  pub finished_numbered : finished_number t s ≡ finish_number (finished_of t (record_of s))
  unfolding finished_number
  finished_numbered = rw (eq-eqb (length s) 64 b.0)

  -- Bit e of an offer that was made is exactly whether a step with e would answer 0.
  pub offer_bit : (lent : List ℕ) → offer_number t s lent ≡ 0 → e < 512 → (bit_at (words_of (offer_bytes t s lent)) e ≡ true) ↔ (step_number t s e ≡ 0)
  unfolding offer_number offer_bytes
  offer_bit lent z h =
      let q = eq-eqb (length s) 64 b.0 in
      let o = done_by_number (offer_of t (record_of s) lent) (rw q at z) in
      let x = offer_exactly t (record_of s) lent o e h in (
        λ y. step_numbered ∙ ap number (x.0 (rw q at y)),
        λ y. rw q (x.1 (done_by_number (step_of t (record_of s) e).answer (sym step_numbered ∙ y))),
      )

-- A step that does not answer 0 leaves every byte, of a record of any length.
pub step_leaves : (t s : List ℕ) (e : ℕ) → (step_number t s e ≡ 0 → ⊥) → step_bytes t s e ≡ s
unfolding step_number step_bytes
step_leaves t s e n =
    by_cases (eqb (length s) 64) (λ q. rw q (kept (step_of t (record_of s) e).answer (λ z. n (rw q z)))) (λ q. rw q)
  where
    kept : (a : Result ⊤ Refusal) → (number a ≡ 0 → ⊥) → left_bytes s (step_of t (record_of s) e).after.bits a ≡ s
    kept (Ok done) m = absurd (m refl)
    kept (Err r) m = refl
