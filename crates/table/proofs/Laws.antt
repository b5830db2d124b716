-- The laws of a step, of an offer and of a finished run, in the words of the definitions.
use mathlib.Core.Path.{◌≡◌, refl, sym, ap, ◌∙◌}
use mathlib.Core.Bool.{Bool, true, false, cond, not, ◌&&◌, and-false, not-not}
use mathlib.Core.List.{List}
use mathlib.Core.Logic.{◌↔◌}
use Prim.Native.Nat.{ℕ, zero, suc, ◌+◌, ◌/◌, ◌≤◌, ◌<◌}
use native.Mathlib.Nat.{zero-div}
use native.Mathlib.Omega.{arith}
use lib.Dec.{leb, ltb, eqb, lit<}
use lib.ListN.{length, drop, replicate, get_or-replicate}
use borrow.Author.Tests.{ltb-true, ltb-false, leb-true, lt-ltb, le-ltb, le-leb, eqb-true, eqb-false, eq-eqb, ne_eqb}
use Rattle.std.specs.Prelude.{⊤, Result, Ok, Err}
use Rattle.base.specs.Refusals.{refusal}
use Rattle.base.specs.declared.Reason.TheVariants as Reason
use Rattle.base.specs.declared.Refusal.{Refusal}
use Rattle.base.proofs.Truth.{by_cases, is_false, and_l, and_r, and_i, agree}
use Rattle.base.proofs.Filled.{fill_length, fill_past}
use Rattle.record.specs.Bits.{Words, bit_at, set_bit, clear_between, set_past}
use Rattle.record.specs.Bytes.{words_of, bytes_of}
use Rattle.record.specs.declared.Record.{Record}
use Rattle.record.proofs.Bits.{bit_set_same, bit_set_other, bits_cleared, length_change, set_words, clear_words}
use Rattle.record.proofs.PastEvents.{each_clear, clear_each}
use Rattle.record.proofs.Bytes.{bytes_length}
use Rattle.record.proofs.RoundTrip.{words_back}
use Rattle.layout.specs.Fields.{events, rows, event_word, first_of, count_of}
use Rattle.layout.specs.Values.{values_of, allows}
use Rattle.table.specs.Steps.{admit_of, taken, refused, step_of, finished_of, offered, offer_of, offer_left}
use Rattle.table.specs.declared.Stepped.{Stepped}
use Rattle.layout.proofs.Sizes.{sound_shaped}
use Rattle.layout.proofs.Events.{run_below, sound_event}
use Rattle.table.specs.Bounds.{Ready, Takes, Ends, NotReady, unsound, bit_past, StepAnswer, event_taken, step_not_ready, past_events, guard_says_no, FinishAnswer, run_finished, run_open, finished_not_ready}
use Rattle.table.proofs.Bounds.{first_look, ready_admitted, step_answered, finished_answered}
use Rattle.table.proofs.Answered.{allowed_done, step_as, offer_1, finished_as}

-- The run of bits that event e clears: from the first on, up to the end and without it.
abbrev pub run_first : List ℕ → ℕ → ℕ
run_first t e = first_of (event_word t e)

abbrev pub run_end : List ℕ → ℕ → ℕ
run_end t e = first_of (event_word t e) + count_of (event_word t e)

admitted : (t bits : List ℕ) → admit_of t bits ≡ Ok tt → Ready t bits
admitted t bits d = first_look t bits (λ r a. r) (λ r a n. let q = a ∙ d in cc)

-- ---- a step
not_ready_place : (t bits : List ℕ) (r : Refusal) → NotReady t bits r → r.place ≡ 0
not_ready_place t bits r (unsound q y) = ap (λ (x : Refusal). x.place) q
not_ready_place t bits r (bit_past q y p) = ap (λ (x : Refusal). x.place) q

by_answer {ℓ} : {P : Type ℓ} (t : List ℕ) (before : Record) (e : ℕ) (s : Stepped) → (Takes t before e → P)
    → ((r : Refusal) → r.place ≡ 0 → s ≡ refused before r → P) → StepAnswer t before e s → P
by_answer t before e s done not (event_taken q k) = done k
by_answer t before e s done not (step_not_ready r q n) = not r (not_ready_place t before.bits r n) q
by_answer t before e s done not (past_events q r h) = not (refusal Reason.Event 0) refl q
by_answer t before e s done not (guard_says_no q r h y) = not (refusal Reason.Guard 0) refl q

module _ (t : List ℕ) (before : Record) (e : ℕ) where
  taken_done : Takes t before e → record { answer = Ok tt; after = record { bits = taken t before.bits e } } ≡ step_of t before e
  taken_done k = step_as t before e _ (allowed_done t before.bits e (ready_admitted t before.bits k.ready) k.below k.allowed)

  -- It takes the event, or it refuses, at place 0.
  by_step {ℓ} : {P : Type ℓ} → (Takes t before e → P) → ((r : Refusal) → r.place ≡ 0 → step_of t before e ≡ refused before r → P) → P
  by_step done not = by_answer t before e (step_of t before e) done not (step_answered t before e)

  -- A step is done exactly if the table is sound, the record has no set bit at or past E, there is such an event and its guard row says yes.
  pub done_exactly : ((step_of t before e).answer ≡ Ok tt) ↔ Takes t before e
  done_exactly = (
    λ d. by_step (λ k. k) (λ r z q. let clash = sym (ap (λ (s : Stepped). s.answer) q) ∙ d in cc),
    λ k. sym (ap (λ (s : Stepped). s.answer) (taken_done k)),
  )

  -- A refused step leaves the record, and its place is 0.
  pub step_refused : (r : Refusal) → (step_of t before e).answer ≡ Err r → (step_of t before e ≡ refused before r) × (r.place ≡ 0)
  step_refused r d =
      by_step (λ k. let clash = sym d ∙ done_exactly.1 k in cc)
      (λ x z q. let same : Err x ≡ Err r = sym (ap (λ (s : Stepped). s.answer) q) ∙ d in
      let same_refusal : x ≡ r = cc in (q ∙ ap (refused before) same_refusal, sym (ap (λ (y : Refusal). y.place) same_refusal) ∙ z))

  -- The record after a step that is done is the one before with the event's bit set and its run of bits cleared.
  pub step_after : (step_of t before e).answer ≡ Ok tt → (step_of t before e).after.bits ≡ taken t before.bits e
  step_after d = sym (ap (λ (s : Stepped). s.after.bits) (taken_done (done_exactly.0 d)))

  -- ---- the record after a step that is done, bit by bit
  module _ (d : (step_of t before e).answer ≡ Ok tt) (l : length before.bits ≡ 8) where
    in_record : e < 512
    in_record = let k = done_exactly.0 d in let s = sound_shaped t k.ready.its_table in omega (arith, k.below, s.events_most)

    before_own : run_end t e ≤ e
    before_own = let k = done_exactly.0 d in run_below (event_word t e) (rows t) e (sound_event t e k.ready.its_table k.below)

    -- A bit of the event's run is clear, the event's own bit is set, and every other bit is what it was.
    pub step_bit : (i : ℕ) → i < 512
        → bit_at (step_of t before e).after.bits i
        ≡ cond (leb (run_first t e) i && ltb i (run_end t e)) false (cond (eqb i e) true (bit_at before.bits i))
    unfolding taken
    step_bit i h =
        rw (step_after d)
        (bits_cleared (set_bit before.bits e) (run_first t e) (count_of (event_word t e)) i (length_change _ before.bits e ∙ l) h
        ∙ by_cases (eqb i e)
        (λ q. rw (q, eqb-true i e q, bit_set_same before.bits e l in_record))
        (λ q. rw (q, bit_set_other before.bits e i (eqb-false i e q))))

    -- The event's own bit is set: its run ends before it.
    pub step_sets : bit_at (step_of t before e).after.bits e ≡ true
    step_sets = step_bit e in_record ∙ simp (le-ltb e (run_end t e) before_own, and-false (leb (run_first t e) e), eq-eqb e e refl)

    -- Each bit of the event's run is clear.
    pub step_clears : (i : ℕ) → run_first t e ≤ i → i < run_end t e → bit_at (step_of t before e).after.bits i ≡ false
    step_clears i f h = step_bit i (omega (arith, before_own, in_record)) ∙ rw (le-leb (run_first t e) i f, lt-ltb i (run_end t e) h)

    -- Every other bit stays.
    pub step_keeps : (i : ℕ) → i < 512 → (i ≡ e → ⊥) → (run_first t e ≤ i → i < run_end t e → ⊥)
        → bit_at (step_of t before e).after.bits i ≡ bit_at before.bits i
    step_keeps i h n out =
        let q : (leb (run_first t e) i && ltb i (run_end t e)) ≡ false =
        is_false (leb (run_first t e) i && ltb i (run_end t e))
        (λ b. out (leb-true _ _ (and_l (leb (run_first t e) i) _ b)) (ltb-true _ _ (and_r (leb (run_first t e) i) _ b))) in
        step_bit i h ∙ rw (q, ne_eqb i e n)

    -- The record after it has no set bit at or past E either.
    pub none_past_after : set_past (step_of t before e).after.bits (events t) ≡ false
    none_past_after =
        let k = done_exactly.0 d in
        let none = sym (not-not (clear_between before.bits (events t) 512)) ∙ ap not k.ready.its_bits in
        ap not
        (clear_each (step_of t before e).after.bits (events t) 512
        (λ i h p. step_keeps i h (λ q. omega (arith, k.below)) (λ f o. omega (arith, before_own, k.below))
        ∙ each_clear before.bits (events t) 512 none i h p))

-- ---- the words of a record
-- The record after a step has eight words of 64 bits, if the one before has.
pub step_words : (t : List ℕ) (before : Record) (e : ℕ) → Words before.bits → Words (step_of t before e).after.bits
unfolding taken
step_words t before e w =
    by_step t before e
    (λ k. rw (step_after t before e ((done_exactly t before e).1 k))
    (clear_words (set_bit before.bits e) (run_first t e) (count_of (event_word t e)) (set_words before.bits e w)))
    (λ r z q. rw q w)

-- So has the record whose bits are an offer.
pub offered_words : (t : List ℕ) (vs : List Bool) (n : ℕ) → Words (offered t vs n)
unfolding offered
offered_words t vs zero = (refl, λ i h. rw (get_or-replicate {A = ℕ} 8 i 0 0 h) (lit< tt))
offered_words t vs (suc n) =
    by_cases (allows t vs n) (λ y. rw y (set_words (offered t vs n) n (offered_words t vs n))) (λ y. rw y (offered_words t vs n))

-- ---- an offer
none_set : (e : ℕ) → e < 512 → bit_at (replicate 8 0) e ≡ false
unfolding bit_at
none_set e h = rw (get_or-replicate {A = ℕ} 8 (e / 64) 0 0 (omega arith), zero-div, lt-ltb e 512 h)

-- Of the bits of the events below n, bit e is set exactly if e is below n and its guard row says yes.
pub offered_bit : (t : List ℕ) (vs : List Bool) (n e : ℕ) → n ≤ 512 → e < 512 → bit_at (offered t vs n) e ≡ (ltb e n && allows t vs e)
unfolding offered
offered_bit t vs zero e h k = none_set e k ∙ rw (le-ltb e 0 (omega arith))
offered_bit t vs (suc n) e h k =
    by_cases (eqb e n)
    (λ q. rw (eqb-true e n q, lt-ltb n (suc n) (omega arith))
    (by_cases (allows t vs n)
    (λ y. rw y (bit_set_same (offered t vs n) n (offered_words t vs n).0 (omega arith)))
    (λ y. rw y (offered_bit t vs n n (omega arith) (omega arith) ∙ rw (le-ltb n n (omega arith))))))
    (λ q. let p = eqb-false e n q in
    let r : ltb e (suc n) ≡ ltb e n = agree (ltb e (suc n)) (ltb e n)
    (λ l. lt-ltb e n (omega (arith, ltb-true e (suc n) l, p))) (λ l. lt-ltb e (suc n) (omega (arith, ltb-true e n l))) in
    rw r
    (by_cases (allows t vs n) (λ y. rw y (bit_set_other (offered t vs n) n e p)) (λ y. rw y) ∙ offered_bit t vs n e (omega arith) k))

-- What an offer leaves in the lent buffer.
abbrev pub offer_leaves : List ℕ → Record → List ℕ → List ℕ
offer_leaves t before lent = offer_left t before lent (offer_of t before lent)

module _ (t : List ℕ) (before : Record) (lent : List ℕ) where
  offer_done : offer_of t before lent ≡ Ok tt → (64 ≤ length lent) × (admit_of t before.bits ≡ Ok tt)
  unfolding offer_of
  offer_done d =
      by_cases (ltb (length lent) 64)
      (λ l. let clash = (offer_1 t before lent (ltb-true _ _ l)).0 ∙ d in cc)
      (λ l. (ltb-false _ _ l, rw l at d))

  its_bit : offer_of t before lent ≡ Ok tt → (e : ℕ) → e < 512
      → bit_at (words_of (offer_leaves t before lent)) e ≡ (ltb e (events t) && allows t (values_of t before.bits) e)
  its_bit d e h =
      let o = offered_words t (values_of t before.bits) (events t) in
      let s = sound_shaped t (admitted t before.bits (offer_done d).1).its_table in
      ap (λ (a : Result ⊤ Refusal). bit_at (words_of (offer_left t before lent a)) e) d
      ∙ ap (λ (ws : List ℕ). bit_at ws e) (words_back (offered t (values_of t before.bits) (events t)) lent o (offer_done d).0)
      ∙ offered_bit t (values_of t before.bits) (events t) e s.events_most h

  -- Its bit e is exactly whether a step with e would be done.
  pub offer_exactly : offer_of t before lent ≡ Ok tt → (e : ℕ) → e < 512
      → (bit_at (words_of (offer_leaves t before lent)) e ≡ true) ↔ ((step_of t before e).answer ≡ Ok tt)
  offer_exactly d e h =
      let a = admitted t before.bits (offer_done d).1 in (
        λ b. let y = sym (its_bit d e h) ∙ b in
            (done_exactly t before e).1
            (record {
              ready = a;
              below = ltb-true _ _ (and_l (ltb e (events t)) _ y);
              allowed = and_r (ltb e (events t)) _ y;
            }),
        λ y. let k = (done_exactly t before e).0 y in its_bit d e h ∙ and_i (lt-ltb e (events t) k.below) k.allowed,
      )

  -- The bytes past the 64 written stay, and so does the length.
  pub offer_past : (drop 64 (offer_leaves t before lent) ≡ drop 64 lent) × (length (offer_leaves t before lent) ≡ length lent)
  offer_past = after (offer_of t before lent)
    where
      after : (a : Result ⊤ Refusal) → (drop 64 (offer_left t before lent a) ≡ drop 64 lent) × (length (offer_left t before lent a) ≡ length lent)
      after (Ok made) =
          let o = offered t (values_of t before.bits) (events t) in
          (rw (bytes_length o 64) at (fill_past lent (bytes_of o)), fill_length lent (bytes_of o))
      after (Err r) = (refl, refl)

  -- An offer that is refused leaves the buffer.
  pub offer_refused : (r : Refusal) → offer_of t before lent ≡ Err r → offer_leaves t before lent ≡ lent
  offer_refused r d = ap (offer_left t before lent) d

-- ---- a finished run
-- A run is finished exactly if the table is sound, the record has no set bit at or past E and the last row says yes.
pub finished_exactly : (t : List ℕ) (before : Record) → (finished_of t before ≡ Ok true) ↔ Ends t before
finished_exactly t before = (
  λ y. ends (finished_answered t before) y,
  λ k. sym (finished_as t before true (ready_admitted t before.bits k.ready) k.says_so),
)
  where
    ends : FinishAnswer t before (finished_of t before) → finished_of t before ≡ Ok true → Ends t before
    ends (run_finished q k) y = k
    ends (run_open q r n) y = let clash = sym q ∙ y in cc
    ends (finished_not_ready r q n) y = let clash = sym q ∙ y in cc
