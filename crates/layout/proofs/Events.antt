-- The event records of a table: what a sound one says.
use mathlib.Core.Path.{◌≡◌, refl, sym, ◌∙◌}
use mathlib.Core.Bool.{true, false, ◌&&◌}
use mathlib.Core.List.{List}
use mathlib.Core.Logic.{inl, inr, ⊎_elim}
use Prim.Native.Nat.{ℕ, ◌+◌, ◌<◌, ◌≤◌}
use native.Mathlib.Numerals.{add-one}
use native.Mathlib.Omega.{arith}
use lib.Dec.{ltb, eqb}
use borrow.Author.Tests.{ltb-true, eq-eqb, ne_eqb, eqb-true, eqb-false}
use Rattle.base.proofs.Truth.{cases, is_false, clash, and_l, and_r, and_i}
use Rattle.layout.specs.Fields.{events, rows, event_word, guard_of, first_of, count_of}
use Rattle.layout.specs.Sound.{event_sound, events_sound, sound, Run}
use Rattle.base.proofs.Each.{each_below}
use Rattle.layout.proofs.Sizes.{sound_events}

-- The run of cleared bits ends at 0 where it is empty, and at the event's own bit where it is not.
module _ (w m e : ℕ) where
  pub end_none : count_of w ≡ 0 → (ltb (guard_of w) m && eqb (first_of w + count_of w) 0) ≡ event_sound w m e
  unfolding event_sound
  end_none q = let none : first_of w + count_of w ≡ first_of w = omega arith in simp (eq-eqb _ _ q, none)

  pub end_own : (count_of w ≡ 0 → ⊥) → (ltb (guard_of w) m && eqb (first_of w + count_of w) e) ≡ event_sound w m e
  unfolding event_sound
  end_own k = simp (ne_eqb _ _ k)

-- What a sound record says.
module _ (w m e : ℕ) (ok : event_sound w m e ≡ true) where
  pub guard_below : guard_of w < m
  unfolding event_sound
  guard_below = ltb-true _ _ (and_l (ltb (guard_of w) m) _ ok)

  pub run_ends : Run w e
  run_ends =
      ⊎_elim
      (λ q. let none = eqb-true (count_of w) 0 q in
      let end : first_of w + count_of w ≡ 0 = eqb-true _ _ (and_r (ltb (guard_of w) m) _ (end_none w m e none ∙ ok)) in inl (omega arith, none))
      (λ q. let some = eqb-false (count_of w) 0 q in
      inr (omega (arith, some), eqb-true _ _ (and_r (ltb (guard_of w) m) _ (end_own w m e some ∙ ok))))
      (cases (eqb (count_of w) 0))

  pub run_below : first_of w + count_of w ≤ e
  run_below = ⊎_elim (λ q. omega arith) (λ q. omega arith) run_ends

-- Of the first n records, each is sound if all are; and so each of a sound table.
events_each : (t : List ℕ) (n e : ℕ) → events_sound t n ≡ true → e < n → event_sound (event_word t e) (rows t) e ≡ true
unfolding events_sound
events_each t = each_below (events_sound t) (λ e. event_sound (event_word t e) (rows t) e) (λ k. refl)

-- One more record judged: it is sound, or not all are.
module _ (t : List ℕ) (m e w : ℕ) (M : m ≡ rows t) (W : w ≡ event_word t e) where
  pub events_more : event_sound w m e ≡ true → events_sound t e ≡ true → events_sound t (e + 1) ≡ true
  unfolding events_sound
  events_more s a = rw add-one (and_i a (rw (W, M) at s))

  pub events_stop : (n : ℕ) → e < n → event_sound w m e ≡ false → false ≡ events_sound t n
  events_stop n h f = sym (is_false (events_sound t n) (λ a. clash (events_each t n e a h) (rw (W, M) at f)))

module _ (t : List ℕ) (e : ℕ) (ok : sound t ≡ true) (h : e < events t) where
  pub sound_event : event_sound (event_word t e) (rows t) e ≡ true
  sound_event = events_each t (events t) e (sound_events t ok) h

  pub sound_guard : guard_of (event_word t e) < rows t
  sound_guard = guard_below (event_word t e) (rows t) e sound_event
