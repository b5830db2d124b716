-- What the calls answer, case by case, in the words of the definitions.
use mathlib.Core.Path.{◌≡◌, refl, sym, ap, ◌∙◌}
use mathlib.Core.Bool.{Bool, true, false, cond}
use mathlib.Core.List.{List}
use Prim.Native.Nat.{ℕ, ◌+◌, ◌-◌, ◌≤◌, ◌<◌}
use native.Mathlib.Numerals.{add-one}
use native.Mathlib.Omega.{arith}
use lib.ListN.{length, get_or, take}
use lib.Seq.{get_or-take}
use lib.Dec.{ltb}
use borrow.Author.Tests.{lt-ltb, le-ltb}
use Rattle.std.specs.Prelude.{⊤, Result, Ok, Err}
use Rattle.std.specs.Result.{result_and}
use Rattle.base.specs.Fill.{fill}
use Rattle.base.specs.Refusals.{refusal}
use Rattle.base.specs.declared.Reason.TheVariants as Reason
use Rattle.base.specs.declared.Refusal.{Refusal}
use Rattle.base.proofs.Truth.{by_cases}
use Rattle.record.specs.Bits.{set_bit, clear_bits, set_past}
use Rattle.record.specs.Bytes.{bytes_of}
use Rattle.record.specs.declared.Record.{Record}
use Rattle.layout.specs.Fields.{events, rows, event_word, guard_of, first_of, count_of}
use Rattle.layout.specs.Sound.{sound}
use Rattle.layout.specs.Values.{values_of, allows, ended}
use Rattle.layout.proofs.Sizes.{sound_shaped}
use Rattle.layout.proofs.Events.{sound_guard}
use Rattle.table.specs.Steps.{check_of, admit_of, taken, taken_or_not, allowed_of, stepped, step_of, finished_of, offered, offer_of, offer_left}

pub checked : (t : List ℕ) (v : Bool) → sound t ≡ v → cond v (Ok tt) (Err (refusal Reason.Table 0)) ≡ check_of t
unfolding check_of
checked t v e = rw e

module _ (t bits : List ℕ) where
  pub admit_12 : sound t ≡ false → Err (refusal Reason.Table 0) ≡ admit_of t bits
  unfolding admit_of
  admit_12 e = rw e

  pub admit_13 : sound t ≡ true → set_past bits (events t) ≡ true → Err (refusal Reason.Record 0) ≡ admit_of t bits
  unfolding admit_of
  admit_13 e s = rw (e, s)

  pub admit_done : sound t ≡ true → set_past bits (events t) ≡ false → Ok tt ≡ admit_of t bits
  unfolding admit_of
  admit_done e s = rw (e, s)

  pub done_sound : admit_of t bits ≡ Ok tt → sound t ≡ true
  done_sound d = by_cases (sound t) (λ e. e) (λ e. let q = admit_12 e ∙ d in cc)

-- Of a sound table: the last row and the guard row of each event stand on the sheet, and what they say is among what the rows say.
module _ (t : List ℕ) (ok : sound t ≡ true) where
  pub last_within : (m : ℕ) → m ≡ rows t → (1 ≤ m) × (m - 1 < 12288)
  last_within m M = let s = sound_shaped t ok in (omega (arith, M, s.rows_least), omega (arith, M, s.rows_least, s.rows_most))

  pub guard_within : (e w : ℕ) → e < events t → w ≡ event_word t e → guard_of w < 12288
  guard_within e w h W = rw W (omega (arith, sound_guard t e ok h, (sound_shaped t ok).rows_most))

  module _ (vs said : List Bool) (q : take (rows t) vs ≡ said) where
    pub last_said : (m : ℕ) → m ≡ rows t → get_or vs (m - 1) false ≡ ended t said
    last_said m M = rw (M, ← q) (sym (get_or-take (rows t) vs (rows t - 1) false (omega (arith, (sound_shaped t ok).rows_least))))

    pub guard_said : (e w : ℕ) → e < events t → w ≡ event_word t e → get_or vs (guard_of w) false ≡ allows t said e
    guard_said e w h W = rw (W, ← q) (sym (get_or-take (rows t) vs (guard_of (event_word t e)) false (sound_guard t e ok h)))

-- One more event of the offer.
pub gathered : (t : List ℕ) (vs : List Bool) (e w : ℕ) (o : List ℕ) (v : Bool) → sound t ≡ true → e < events t → w ≡ event_word t e
    → o ≡ offered t (take (rows t) vs) e → get_or vs (guard_of w) false ≡ v → cond v (set_bit o e) o ≡ offered t (take (rows t) vs) (e + 1)
unfolding offered
gathered t vs e w o v ok h W O y = rw (add-one e, ← O, sym (guard_said t ok vs _ refl e w h W) ∙ y)

module _ (t bits : List ℕ) (e : ℕ) where
  pub allowed_passed : (r : Refusal) → Err r ≡ admit_of t bits → Err r ≡ allowed_of t bits e
  allowed_passed r q = rw (← q)

  module _ (d : admit_of t bits ≡ Ok tt) where
    pub allowed_14 : events t ≤ e → Err (refusal Reason.Event 0) ≡ allowed_of t bits e
    unfolding taken_or_not
    allowed_14 h = rw (d, le-ltb e (events t) h)

    module _ (h : e < events t) where
      pub allowed_15 : allows t (values_of t bits) e ≡ false → Err (refusal Reason.Guard 0) ≡ allowed_of t bits e
      unfolding taken_or_not
      allowed_15 g = rw (d, lt-ltb e (events t) h, g)

      pub allowed_done : allows t (values_of t bits) e ≡ true → Ok (event_word t e) ≡ allowed_of t bits e
      unfolding taken_or_not
      allowed_done g = rw (d, lt-ltb e (events t) h, g)

  -- What is answered is the event's record.
  pub allowed_word : (w : ℕ) → Ok w ≡ allowed_of t bits e → w ≡ event_word t e
  unfolding taken_or_not
  allowed_word w = only (admit_of t bits) (ltb e (events t)) (allows t (values_of t bits) e)
    where
      only : (a : Result ⊤ Refusal) (x y : Bool)
          → Ok w ≡ result_and a (cond x (cond y (Ok (event_word t e)) (Err (refusal Reason.Guard 0))) (Err (refusal Reason.Event 0))) → w ≡ event_word t e
      only (Ok done) true true q = cc
      only (Ok done) true false q = cc
      only (Ok done) false y q = cc
      only (Err r) x y q = cc

module _ (t : List ℕ) (before : Record) (e : ℕ) where
  pub step_as : (a : Result ℕ Refusal) → a ≡ allowed_of t before.bits e → stepped t before e a ≡ step_of t before e
  unfolding step_of
  step_as a q = ap (stepped t before e) q

  -- The record after it, by the event's record w.
  pub step_taken : (w : ℕ) (set cleared : List ℕ) → Ok w ≡ allowed_of t before.bits e → set ≡ set_bit before.bits e
      → cleared ≡ clear_bits set (first_of w) (count_of w) → record { answer = Ok tt; after = record { bits = cleared } } ≡ step_of t before e
  unfolding taken
  step_taken w set cleared q S C = rw (C, S, allowed_word t before.bits e w q) (step_as (Ok w) q)

module _ (t : List ℕ) (before : Record) where
  pub finished_passed : (r : Refusal) → Err r ≡ admit_of t before.bits → Err r ≡ finished_of t before
  unfolding finished_of
  finished_passed r q = rw (← q)

  pub finished_as : (v : Bool) → admit_of t before.bits ≡ Ok tt → ended t (values_of t before.bits) ≡ v → Ok v ≡ finished_of t before
  unfolding finished_of
  finished_as v d y = rw (d, y)

module _ (t : List ℕ) (before : Record) (lent : List ℕ) where
  pub offer_1 : length lent < 64
      → (Err (refusal Reason.Buffer 0) ≡ offer_of t before lent) × (lent ≡ offer_left t before lent (offer_of t before lent))
  unfolding offer_of
  offer_1 h = (rw (lt-ltb (length lent) 64 h), rw (lt-ltb (length lent) 64 h))

  module _ (h : 64 ≤ length lent) where
    pub offer_passed : (r : Refusal) → Err r ≡ admit_of t before.bits
        → (Err r ≡ offer_of t before lent) × (lent ≡ offer_left t before lent (offer_of t before lent))
    unfolding offer_of
    offer_passed r q = (rw (le-ltb (length lent) 64 h) q, rw (le-ltb (length lent) 64 h, ← q))

    pub offer_ready : admit_of t before.bits ≡ Ok tt
        → (offer_of t before lent ≡ Ok tt)
        × (offer_left t before lent (offer_of t before lent) ≡ fill lent (bytes_of (offered t (values_of t before.bits) (events t))))
    unfolding offer_of
    offer_ready d = (rw (le-ltb (length lent) 64 h, d), rw (le-ltb (length lent) 64 h, d))

-- After a first look that let the call go on, with what every row says on the sheet.
module _ (t bits : List ℕ) (vs : List Bool) (d : admit_of t bits ≡ Ok tt) (q : take (rows t) vs ≡ values_of t bits) where
  module _ (e w : ℕ) (h : e < events t) (W : w ≡ event_word t e) where
    pub looked_guard : guard_of w < 12288
    looked_guard = guard_within t (done_sound t bits d) e w h W

    says : get_or vs (guard_of w) false ≡ allows t (values_of t bits) e
    says = guard_said t (done_sound t bits d) vs _ q e w h W

    pub looked_15 : get_or vs (guard_of w) false ≡ false → Err (refusal Reason.Guard 0) ≡ allowed_of t bits e
    looked_15 y = allowed_15 t bits e d h (sym says ∙ y)

    pub looked_done : get_or vs (guard_of w) false ≡ true → Ok w ≡ allowed_of t bits e
    looked_done y = rw W (allowed_done t bits e d h (sym says ∙ y))

module _ (t : List ℕ) (before : Record) (vs : List Bool) (d : admit_of t before.bits ≡ Ok tt) (q : take (rows t) vs ≡ values_of t before.bits) where
  pub looked_finished : (m : ℕ) → m ≡ rows t → Ok (get_or vs (m - 1) false) ≡ finished_of t before
  looked_finished m M = finished_as t before _ d (sym (last_said t (done_sound t before.bits d) vs _ q m M))

  pub looked_offer : (lent o out : List ℕ) → 64 ≤ length lent → o ≡ offered t (take (rows t) vs) (events t) → out ≡ fill lent (bytes_of o)
      → out ≡ offer_left t before lent (offer_of t before lent)
  looked_offer lent o out h O W = W ∙ rw (O, q) (sym (offer_ready t before lent h d).1)
