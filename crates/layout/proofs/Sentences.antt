-- A table is sound exactly if it keeps each sentence of document 01.
use mathlib.Core.Path.{◌≡◌, refl, sym, ◌∙◌}
use mathlib.Core.Bool.{true}
use mathlib.Core.List.{List}
use mathlib.Core.Logic.{◌↔◌, ⊎_elim}
use Prim.Native.Nat.{ℕ, ◌+◌, ◌≤◌, ◌<◌}
use native.Mathlib.Omega.{arith}
use lib.Dec.{ltb, eqb}
use borrow.Author.Tests.{ltb-true, lt-ltb, eqb-true, eqb-false, eq-eqb}
use Rattle.base.proofs.Truth.{by_cases, and_l, and_r, and_i}
use Rattle.layout.specs.Fields.{events, rows, event_word, row_word, guard_of, first_of, count_of, kind_of, left_of, right_of}
use Rattle.layout.specs.Sound.{event_sound, events_sound, row_sound, rows_sound, sound, Run, RowKeeps, SoundTable}
use Rattle.base.proofs.Each.{each_below, below_each}
use Rattle.layout.proofs.Sizes.{sound_shaped, sound_rows, sized_holds}
use Rattle.layout.proofs.Rows.{bounds_bit, bounds_not, bounds_two}
use Rattle.layout.proofs.Events.{end_none, end_own, run_ends, sound_event, sound_guard}

module _ (w n i : ℕ) where
  -- Left and right of a sound row, by its kind.
  row_says : row_sound w n i ≡ true → RowKeeps w n i
  row_says ok = record {
    bit_below = λ k. ltb-true _ _ (and_l (ltb (left_of w) n) _ (bounds_bit w n i k ∙ ok));
    right_zero = λ h. by_cases (eqb (kind_of w) 0)
        (λ q. let r : right_of w < 1 = ltb-true (right_of w) 1 (and_r (ltb (left_of w) n) (ltb (right_of w) 1) (bounds_bit w n i (eqb-true _ _ q) ∙ ok)) in omega (arith, r))
        (λ q. let k : kind_of w ≡ 1 = omega (arith, eqb-false (kind_of w) 0 q) in
        let r : right_of w < 1 = ltb-true (right_of w) 1 (and_r (ltb (left_of w) i) (ltb (right_of w) 1) (bounds_not w n i k ∙ ok)) in omega (arith, r));
    left_lower = λ h. by_cases (eqb (kind_of w) 1)
        (λ q. ltb-true _ _ (and_l (ltb (left_of w) i) _ (bounds_not w n i (eqb-true _ _ q) ∙ ok)))
        (λ q. ltb-true _ _ (and_l (ltb (left_of w) i) _ (bounds_two w n i (omega (arith, eqb-false (kind_of w) 1 q)) ∙ ok)));
    right_lower = λ h. ltb-true _ _ (and_r (ltb (left_of w) i) _ (bounds_two w n i h ∙ ok));
  }

  row_holds : RowKeeps w n i → row_sound w n i ≡ true
  row_holds r =
      by_cases (eqb (kind_of w) 0)
      (λ q. let k = eqb-true (kind_of w) 0 q in
      sym (bounds_bit w n i k) ∙ and_i (lt-ltb _ _ (r.bit_below k)) (lt-ltb (right_of w) 1 (omega (arith, r.right_zero (omega arith)))))
      (λ q. by_cases (eqb (kind_of w) 1)
      (λ p. let k = eqb-true (kind_of w) 1 p in
      sym (bounds_not w n i k) ∙ and_i (lt-ltb _ _ (r.left_lower (omega arith))) (lt-ltb (right_of w) 1 (omega (arith, r.right_zero (omega arith)))))
      (λ p. let h : 2 ≤ kind_of w = omega (arith, eqb-false (kind_of w) 0 q, eqb-false (kind_of w) 1 p) in
      sym (bounds_two w n i h) ∙ and_i (lt-ltb _ _ (r.left_lower (omega arith))) (lt-ltb _ _ (r.right_lower h))))

event_holds : (w m e : ℕ) → guard_of w < m → Run w e → event_sound w m e ≡ true
event_holds w m e g r =
    by_cases (eqb (count_of w) 0)
    (λ q. let none = eqb-true (count_of w) 0 q in
    let end : first_of w + count_of w ≡ 0 = ⊎_elim (λ z. omega arith) (λ z. let y : ⊥ = omega arith in absurd y) r in
    sym (end_none w m e none) ∙ and_i (lt-ltb _ _ g) (eq-eqb _ _ end))
    (λ q. let some = eqb-false (count_of w) 0 q in
    let end : first_of w + count_of w ≡ e = ⊎_elim (λ z. absurd (some z.1)) (λ z. z.1) r in
    sym (end_own w m e some) ∙ and_i (lt-ltb _ _ g) (eq-eqb _ _ end))

module _ (t : List ℕ) where
  sound_says : sound t ≡ true → SoundTable t
  unfolding rows_sound
  sound_says ok =
      let s = sound_shaped t ok in
      record {
        events_least = s.events_least;
        events_most = s.events_most;
        rows_least = s.rows_least;
        rows_most = s.rows_most;
        length_exact = s.length_exact;
        guards = λ e h. sound_guard t e ok h;
        runs = λ e h. run_ends (event_word t e) (rows t) e (sound_event t e ok h);
        rows_keep = λ i h. row_says (row_word t i) (events t) i
            (each_below (rows_sound t) (λ k. row_sound (row_word t k) (events t) k) (λ k. refl) (rows t) i (sound_rows t ok) h);
      }

  sound_holds : SoundTable t → sound t ≡ true
  unfolding sound events_sound rows_sound
  sound_holds k =
      and_i (sized_holds t k.events_least k.events_most k.rows_least k.rows_most k.length_exact)
      (and_i
      (below_each (events_sound t) (λ e. event_sound (event_word t e) (rows t) e) refl (λ e. refl) (events t)
      (λ e h. event_holds (event_word t e) (rows t) e (k.guards e h) (k.runs e h)))
      (below_each (rows_sound t) (λ i. row_sound (row_word t i) (events t) i) refl (λ i. refl) (rows t)
      (λ i h. row_holds (row_word t i) (events t) i (k.rows_keep i h))))

  pub sound_exactly : (sound t ≡ true) ↔ SoundTable t
  sound_exactly = (sound_says, sound_holds)
