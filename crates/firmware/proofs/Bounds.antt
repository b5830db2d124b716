-- Property 1, for the C firmware's calls.
use mathlib.Core.Path.{◌≡◌, refl, sym, ap, ◌∙◌}
use mathlib.Core.List.{List}
use Prim.Native.Nat.{ℕ}
use lib.Dec.{eqb}
use lib.ListN.{length}
use borrow.Author.Tests.{eqb-true, eqb-false, eq-eqb, ne_eqb}
use Rattle.base.proofs.Truth.{by_cases}
use Rattle.record.specs.Bytes.{words_of}
use Rattle.table.specs.Steps.{offer_of}
use Rattle.table.proofs.Bounds.{check_answered, step_answered, finished_answered, offer_answered, only_check, only_step, only_finish, only_offer}
use Rattle.firmware.specs.Calls.{number, record_of, check_number, step_number, step_bytes, finished_number, offer_number, offer_bytes}
use Rattle.firmware.specs.Bounds.{StepBounded, step_short, stepped, FinishBounded, finish_short, asked, OfferBounded, offer_short, offered, CheckBounded, checked, Bounded}
use Rattle.firmware.proofs.Called as called

step_bounded : (t bytes : List ℕ) (e : ℕ) → StepBounded t bytes e (step_number t bytes e) (step_bytes t bytes e)
unfolding step_number step_bytes
step_bounded t bytes e =
    by_cases (eqb (length bytes) 64)
    (λ q. stepped _ (eqb-true (length bytes) 64 q) (rw q) (rw q) (step_answered t (record_of bytes) e))
    (λ q. let p = called.step_short t bytes e q in step_short (sym p.0) (eqb-false (length bytes) 64 q) (sym p.1))

finish_bounded : (t bytes : List ℕ) → FinishBounded t bytes (finished_number t bytes)
unfolding finished_number
finish_bounded t bytes =
    by_cases (eqb (length bytes) 64)
    (λ q. asked _ (eqb-true (length bytes) 64 q) (rw q) (finished_answered t (record_of bytes)))
    (λ q. finish_short (rw q) (eqb-false (length bytes) 64 q))

offer_bounded : (t bytes lent : List ℕ) → OfferBounded t bytes lent (offer_number t bytes lent) (offer_bytes t bytes lent)
unfolding offer_number offer_bytes
offer_bounded t bytes lent =
    by_cases (eqb (length bytes) 64)
    (λ q. offered (offer_of t (record_of bytes) lent) (eqb-true (length bytes) 64 q) (rw q) (rw q (offer_answered t (record_of bytes) lent)))
    (λ q. offer_short (rw q) (eqb-false (length bytes) 64 q) (rw q))

-- ---- The other way round: what is known of a number determines it, and every byte that the call leaves.
pub only_check_bounded : (t : List ℕ) (n : ℕ) → CheckBounded t n → n ≡ check_number t
only_check_bounded t n (checked a q c) = q ∙ ap number (only_check t a c)

pub only_step_bounded : (t bytes : List ℕ) (e n : ℕ) (after : List ℕ) → StepBounded t bytes e n after
    → (n ≡ step_number t bytes e) × (after ≡ step_bytes t bytes e)
only_step_bounded t bytes e n after (step_short q h l) =
    let p = called.step_short t bytes e (ne_eqb (length bytes) 64 h) in (q ∙ p.0, l ∙ p.1)
only_step_bounded t bytes e n after (stepped s h q l a) =
    called.step_called t bytes e (eq-eqb (length bytes) 64 h) (words_of bytes) refl s (only_step t (record_of bytes) e s a) n after q l

pub only_finish_bounded : (t bytes : List ℕ) (n : ℕ) → FinishBounded t bytes n → n ≡ finished_number t bytes
only_finish_bounded t bytes n (finish_short q h) = q ∙ called.finished_short t bytes (ne_eqb (length bytes) 64 h)
only_finish_bounded t bytes n (asked f h q a) =
    q ∙ called.finished_called t bytes (eq-eqb (length bytes) 64 h) (words_of bytes) refl f f (only_finish t (record_of bytes) f a) refl

pub only_offer_bounded : (t bytes lent : List ℕ) (n : ℕ) (after : List ℕ) → OfferBounded t bytes lent n after
    → (n ≡ offer_number t bytes lent) × (after ≡ offer_bytes t bytes lent)
only_offer_bounded t bytes lent n after (offer_short q h l) =
    let p = called.offer_short t bytes lent (ne_eqb (length bytes) 64 h) in (q ∙ p.0, l ∙ p.1)
only_offer_bounded t bytes lent n after (offered a h q o) =
    called.offer_called t bytes lent (eq-eqb (length bytes) 64 h) (words_of bytes) refl a n after (only_offer t (record_of bytes) lent a after o) q

-- The answer is 0, 255 or one of the numbers 1 and 12 to 15, under its condition.
pub calls_bounded : (t bytes lent : List ℕ) (e : ℕ) → Bounded t bytes lent e
calls_bounded t bytes lent e = record {
  check = checked _ refl (check_answered t);
  step = step_bounded t bytes e;
  finished = finish_bounded t bytes;
  offer = offer_bounded t bytes lent;
}
