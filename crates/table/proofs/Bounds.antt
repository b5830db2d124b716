-- Property 1, for tables.
use mathlib.Core.Path.{◌≡◌, refl, sym, ap, ◌∙◌}
use mathlib.Core.List.{List}
use mathlib.Core.Bool.{Bool, true, false}
use Prim.Native.Nat.{ℕ}
use lib.Dec.{ltb}
use lib.ListN.{length}
use borrow.Author.Tests.{ltb-true, ltb-false}
use Rattle.std.specs.Prelude.{⊤, Result, Ok, Err}
use Rattle.base.specs.Refusals.{refusal}
use Rattle.base.specs.declared.Reason.TheVariants as Reason
use Rattle.base.specs.declared.Refusal.{Refusal}
use Rattle.base.proofs.Truth.{by_cases}
use Rattle.record.specs.Bits.{set_past}
use Rattle.record.specs.declared.Record.{Record}
use Rattle.layout.specs.Fields.{events}
use Rattle.layout.specs.Sound.{sound}
use Rattle.layout.specs.Values.{values_of, allows, ended}
use Rattle.table.specs.Steps.{check_of, admit_of, step_of, finished_of, offer_of, offer_left}
use Rattle.table.specs.Bounds.{Answers, CheckAnswer, is_sound, not_sound, Ready, NotReady, unsound, bit_past, StepAnswer, event_taken, step_not_ready, past_events, guard_says_no, FinishAnswer, run_finished, run_open, finished_not_ready, OfferAnswer, offer_made, buffer_short, offer_not_ready}
use Rattle.table.specs.declared.Stepped.{Stepped}
use Rattle.table.proofs.Answered.{checked, admit_12, admit_13, admit_done, allowed_passed, allowed_14, allowed_15, allowed_done, step_as, finished_passed, finished_as, offer_1, offer_passed, offer_ready}

pub check_answered : (t : List ℕ) → CheckAnswer t (check_of t)
check_answered t = by_cases (sound t) (λ e. is_sound (sym (checked t true e)) e) (λ e. not_sound (sym (checked t false e)) e)

-- The first look: number 12 or 13, or neither.
pub first_look {ℓ} : {P : Type ℓ} (t bits : List ℕ) → (Ready t bits → admit_of t bits ≡ Ok tt → P)
    → ((r : Refusal) → Err r ≡ admit_of t bits → NotReady t bits r → P) → P
first_look t bits f g =
    by_cases (sound t)
    (λ e. by_cases (set_past bits (events t))
    (λ s. g (refusal Reason.Record 0) (admit_13 t bits e s) (bit_past refl e s))
    (λ s. f record { its_table = e; its_bits = s } (sym (admit_done t bits e s))))
    (λ e. g (refusal Reason.Table 0) (admit_12 t bits e) (unsound refl e))

pub step_answered : (t : List ℕ) (before : Record) (e : ℕ) → StepAnswer t before e (step_of t before e)
step_answered t before e =
    first_look t before.bits
    (λ r d. by_cases (ltb e (events t))
    (λ b. let h = ltb-true e (events t) b in
    by_cases (allows t (values_of t before.bits) e)
    (λ y. event_taken (sym (step_as t before e _ (allowed_done t before.bits e d h y))) record { ready = r; below = h; allowed = y })
    (λ y. guard_says_no (sym (step_as t before e _ (allowed_15 t before.bits e d h y))) r h y))
    (λ b. let h = ltb-false e (events t) b in past_events (sym (step_as t before e _ (allowed_14 t before.bits e d h))) r h))
    (λ r q n. step_not_ready r (sym (step_as t before e _ (allowed_passed t before.bits e r q))) n)

pub finished_answered : (t : List ℕ) (before : Record) → FinishAnswer t before (finished_of t before)
finished_answered t before =
    first_look t before.bits
    (λ r d. by_cases (ended t (values_of t before.bits))
    (λ y. run_finished (sym (finished_as t before true d y)) record { ready = r; says_so = y })
    (λ y. run_open (sym (finished_as t before false d y)) r y))
    (λ r q n. finished_not_ready r (sym (finished_passed t before r q)) n)

pub offer_answered : (t : List ℕ) (before : Record) (lent : List ℕ)
    → OfferAnswer t before lent (offer_of t before lent) (offer_left t before lent (offer_of t before lent))
offer_answered t before lent =
    by_cases (ltb (length lent) 64)
    (λ b. let h = ltb-true (length lent) 64 b in let p = offer_1 t before lent h in buffer_short (sym p.0) h (sym p.1))
    (λ b. let h = ltb-false (length lent) 64 b in
    first_look t before.bits
    (λ r d. let p = offer_ready t before lent h d in offer_made p.0 h r p.1)
    (λ r q n. let p = offer_passed t before lent h r q in offer_not_ready r (sym p.0) h n (sym p.1)))

-- ---- The other way round: what is known of an answer determines it, and every byte that the call leaves.
pub ready_admitted : (t bits : List ℕ) → Ready t bits → admit_of t bits ≡ Ok tt
ready_admitted t bits r = sym (admit_done t bits r.its_table r.its_bits)

pub not_admitted : (t bits : List ℕ) (r : Refusal) → NotReady t bits r → Err r ≡ admit_of t bits
not_admitted t bits r (unsound q y) = ap Err q ∙ admit_12 t bits y
not_admitted t bits r (bit_past q y p) = ap Err q ∙ admit_13 t bits y p

pub only_check : (t : List ℕ) (a : Result ⊤ Refusal) → CheckAnswer t a → a ≡ check_of t
only_check t a (is_sound q y) = q ∙ checked t true y
only_check t a (not_sound q y) = q ∙ checked t false y

pub only_step : (t : List ℕ) (before : Record) (e : ℕ) (s : Stepped) → StepAnswer t before e s → s ≡ step_of t before e
only_step t before e s (event_taken q k) =
    q ∙ step_as t before e _ (allowed_done t before.bits e (ready_admitted t before.bits k.ready) k.below k.allowed)
only_step t before e s (step_not_ready r q n) = q ∙ step_as t before e _ (allowed_passed t before.bits e r (not_admitted t before.bits r n))
only_step t before e s (past_events q r h) = q ∙ step_as t before e _ (allowed_14 t before.bits e (ready_admitted t before.bits r) h)
only_step t before e s (guard_says_no q r h y) = q ∙ step_as t before e _ (allowed_15 t before.bits e (ready_admitted t before.bits r) h y)

pub only_finish : (t : List ℕ) (before : Record) (f : Result Bool Refusal) → FinishAnswer t before f → f ≡ finished_of t before
only_finish t before f (run_finished q k) = q ∙ finished_as t before true (ready_admitted t before.bits k.ready) k.says_so
only_finish t before f (run_open q r y) = q ∙ finished_as t before false (ready_admitted t before.bits r) y
only_finish t before f (finished_not_ready r q n) = q ∙ finished_passed t before r (not_admitted t before.bits r n)

pub only_offer : (t : List ℕ) (before : Record) (lent : List ℕ) (a : Result ⊤ Refusal) (left : List ℕ) → OfferAnswer t before lent a left
    → (a ≡ offer_of t before lent) × (left ≡ offer_left t before lent (offer_of t before lent))
only_offer t before lent a left (offer_made q h r l) =
    let p = offer_ready t before lent h (ready_admitted t before.bits r) in (q ∙ sym p.0, l ∙ sym p.1)
only_offer t before lent a left (buffer_short q h l) = let p = offer_1 t before lent h in (q ∙ p.0, l ∙ p.1)
only_offer t before lent a left (offer_not_ready r q h n l) =
    let p = offer_passed t before lent h r (not_admitted t before.bits r n) in (q ∙ p.0, l ∙ p.1)

-- "Every answer, to any table, record or event number, is a result within the limits or one numbered refusal."
pub calls_answered : (t : List ℕ) (before : Record) (lent : List ℕ) (e : ℕ) → Answers t before lent e
calls_answered t before lent e = record {
  check = check_answered t;
  step = step_answered t before e;
  finished = finished_answered t before;
  offer = offer_answered t before lent;
}
