-- What is known of a table once its size is looked at, and once it is sound.
use mathlib.Core.Path.{◌≡◌}
use mathlib.Core.Bool.{true}
use mathlib.Core.List.{List}
use Prim.Native.Nat.{ℕ, ◌+◌, ◌*◌, ◌≤◌}
use lib.Dec.{leb}
use lib.ListN.{length}
use borrow.Author.Tests.{leb-true, le-leb, eqb-true, eq-eqb}
use Rattle.base.proofs.Truth.{and_l, and_r, and_i}
use Rattle.layout.specs.Fields.{events, rows}
use Rattle.layout.specs.Sound.{sized, events_sound, rows_sound, sound}

pub record Shaped (t : List ℕ) : Type 0 where
  pub events_least : 1 ≤ events t
  pub events_most : events t ≤ 512
  pub rows_least : 1 ≤ rows t
  pub rows_most : rows t ≤ 12288
  pub length_exact : length t ≡ 4 + 4 * events t + 4 * rows t

module _ (t : List ℕ) where
  -- The test of the size as facts, and back.
  pub sized_says : sized t ≡ true → Shaped t
  unfolding sized
  sized_says e =
      let e1 = and_r (leb 1 (events t)) _ e in
      let e2 = and_r (leb (events t) 512) _ e1 in
      let e3 = and_r (leb 1 (rows t)) _ e2 in
      record {
        events_least = leb-true _ _ (and_l (leb 1 (events t)) _ e);
        events_most = leb-true _ _ (and_l (leb (events t) 512) _ e1);
        rows_least = leb-true _ _ (and_l (leb 1 (rows t)) _ e2);
        rows_most = leb-true _ _ (and_l (leb (rows t) 12288) _ e3);
        length_exact = eqb-true _ _ (and_r (leb (rows t) 12288) _ e3);
      }

  pub sized_holds : 1 ≤ events t → events t ≤ 512 → 1 ≤ rows t → rows t ≤ 12288 → length t ≡ 4 + 4 * events t + 4 * rows t → sized t ≡ true
  unfolding sized
  sized_holds a b c d e = and_i (le-leb _ _ a) (and_i (le-leb _ _ b) (and_i (le-leb _ _ c) (and_i (le-leb _ _ d) (eq-eqb _ _ e))))

  module _ (ok : sound t ≡ true) where
    pub sound_shaped : Shaped t
    unfolding sound
    sound_shaped = sized_says (and_l (sized t) _ ok)

    pub sound_events : events_sound t (events t) ≡ true
    unfolding sound
    sound_events = and_l (events_sound t (events t)) _ (and_r (sized t) _ ok)

    pub sound_rows : rows_sound t (rows t) ≡ true
    unfolding sound
    sound_rows = and_r (events_sound t (events t)) _ (and_r (sized t) _ ok)
