-- From the rows and event records that were written to a table that says what a process says.
use mathlib.Core.Path.{◌≡◌, refl, sym, ap, ◌∙◌}
use mathlib.Core.Bool.{Bool, true, false, ◌&&◌}
use mathlib.Core.List.{List, [], ◌∷◌, ◌++◌}
use Prim.Native.Nat.{ℕ, zero, suc, ◌+◌, ◌-◌, ◌*◌, ◌≤◌, ◌<◌, ◌^◌}
use native.Mathlib.Nat.{zero-add}
use native.Mathlib.Omega.{arith}
use lib.Dec.{leb, ltb}
use lib.ListN.{length, length-append, get_or, get_or-append}
use lib.Seq.{get_or-append-add}
use Rattle.process.specs.Process.{Process}
use Rattle.process.specs.Bits.{Bits, clears}
use Rattle.process.specs.Guards.{complete, enabled}
use Rattle.record.specs.Bits.{bit_at}
use Rattle.base.specs.Packed.{field, packed}
use Rattle.layout.specs.Fields.{events, rows, event_word, row_word, guard_of, first_of, count_of}
use Rattle.layout.specs.Sound.{sound, Run, RowKeeps, SoundTable}
use Rattle.layout.specs.Values.{says, values_of}
use Rattle.layout.proofs.Sentences.{sound_exactly}
use Rattle.layout.proofs.Obeyed.{values_obey}
use Rattle.agreement.specs.Agrees.{Agrees}
use Rattle.plan.proofs.Says.{Obeys, Lower}
use Rattle.plan.proofs.ReadBack.{packed_length, word_back, halves_back}

-- Each of the rows keeps the sentences, and is a word.
lower_at : (n k : ℕ) (ws : List ℕ) → Lower n k ws → (i : ℕ) → i < length ws → RowKeeps (get_or ws i 0) n (k + i) × (get_or ws i 0 < 2 ^ 32)
unfolding Lower
lower_at n k [] l i h = absurd (omega (arith, h))
lower_at n k (w ∷ ws) l zero h = let z : k + 0 ≡ k = omega arith in (rw z l.0, l.1)
lower_at n k (w ∷ ws) l (suc i) h = let z : k + suc i ≡ suc k + i = omega arith in rw z (lower_at n (suc k) ws l.2 i (omega (arith, h)))

obeys_all : (s : Bits) (v : ℕ → Bool) (k : ℕ) (ws : List ℕ) → ((i : ℕ) → i < length ws → v (k + i) ≡ says (get_or ws i 0) s v) → Obeys s v k ws
unfolding Obeys
obeys_all s v k [] f = tt
obeys_all s v k (w ∷ ws) f =
    let z : k + 0 ≡ k = omega arith in
    (sym (ap v z) ∙ f 0 (omega arith), obeys_all s v (suc k) ws (λ i h. let y : suc k + i ≡ k + suc i = omega arith in ap v y ∙ f (suc i) (omega arith)))

-- What is asked of the rows and the event records of n events.
pub record Kept (n : ℕ) (ws rs : List ℕ) : Type 0 where
  pub some : 1 ≤ n
  pub few : n ≤ 512
  pub rows_some : 1 ≤ length ws
  pub rows_few : length ws ≤ 12288
  pub rows_lower : Lower n 0 ws
  pub records_length : length rs ≡ n
  pub records_small : (e : ℕ) → e < n → get_or rs e 0 < 2 ^ 32
  pub records_guard : (e : ℕ) → e < n → guard_of (get_or rs e 0) < length ws
  pub records_run : (e : ℕ) → e < n → Run (get_or rs e 0) e

module _ (n : ℕ) (ws rs : List ℕ) (k : Kept n ws rs) where
  -- The table: E and R, the event records, the rows.
  abbrev pub t : List ℕ
  t = packed ((n * 65536 + length ws) ∷ (rs ++ ws))

  table_length : length t ≡ 4 + 4 * n + 4 * length ws
  table_length = omega (arith, packed_length ((n * 65536 + length ws) ∷ (rs ++ ws)), length-append rs ws, k.records_length)

  pub head : (events t ≡ n) × (rows t ≡ length ws)
  head = halves_back (rs ++ ws) n (length ws) (omega (arith, k.few)) (omega (arith, k.rows_few))

  record_read : (e : ℕ) → e < n → event_word t e ≡ get_or rs e 0
  record_read e h =
      let first : get_or (rs ++ ws) e 0 ≡ get_or rs e 0 = get_or-append rs ws 0 e (omega (arith, h, k.records_length)) in
      let place : 4 + 4 * e ≡ 4 * suc e = omega arith in
      ap (field 4 t) place
      ∙ (word_back ((n * 65536 + length ws) ∷ (rs ++ ws)) (suc e) (omega (arith, h, length-append rs ws, k.records_length)) (rw first (k.records_small e h))
      ∙ first)

  row_read : (i : ℕ) → i < length ws → row_word t i ≡ get_or ws i 0
  row_read i h =
      let at : get_or (rs ++ ws) (n + i) 0 ≡ get_or ws i 0 = rw (← k.records_length) (get_or-append-add rs ws i 0) in
      let place : 4 + 4 * n + 4 * i ≡ 4 * suc (n + i) = omega arith in
      rw head.0
      (ap (field 4 t) place
      ∙ (word_back ((n * 65536 + length ws) ∷ (rs ++ ws)) (suc (n + i)) (omega (arith, h, length-append rs ws, k.records_length))
      (rw at (lower_at n 0 ws k.rows_lower i h).1)
      ∙ at))

  sound_sentences : SoundTable t
  sound_sentences = record {
    events_least = rw head.0 k.some;
    events_most = rw head.0 k.few;
    rows_least = rw head.1 k.rows_some;
    rows_most = rw head.1 k.rows_few;
    length_exact = rw (head.0, head.1) table_length;
    guards = λ e h. let l = rw head.0 at h in rw (head.1, record_read e l) (k.records_guard e l);
    runs = λ e h. let l = rw head.0 at h in rw (record_read e l) (k.records_run e l);
    rows_keep = λ i h. let l = rw head.1 at h in rw (row_read i l, head.0) (rw (zero-add i) at (lower_at n 0 ws k.rows_lower i l).0);
  }

  pub is_sound : sound t ≡ true
  is_sound = (sound_exactly t).1 sound_sentences

  -- The values of the table's rows are those of the rows that were written.
  values_right : (bits : List ℕ) → Obeys (bit_at bits) (λ i. get_or (values_of t bits) i false) 0 ws
  unfolding says
  values_right bits =
      obeys_all (bit_at bits) (λ i. get_or (values_of t bits) i false) 0 ws
      (λ i h. rw (zero-add i) (values_obey t bits is_sound i (rw head.1 h) ∙ rw (row_read i h) refl))

  module _ (p : Process)
      (guarded : (s : Bits) (v : ℕ → Bool) → Obeys s v 0 ws → (e : ℕ) → e < n → v (guard_of (get_or rs e 0)) ≡ enabled p s e)
      (over : (s : Bits) (v : ℕ → Bool) → Obeys s v 0 ws → v (length ws - 1) ≡ complete p s)
      (clearing : (e i : ℕ) → e < n → (leb (first_of (get_or rs e 0)) i && ltb i (first_of (get_or rs e 0) + count_of (get_or rs e 0))) ≡ clears p e i) where
    pub agrees : Agrees p n t
    agrees = record {
      its_sound = is_sound;
      its_events = head.0;
      its_guards = λ bits e h. rw (record_read e h) (guarded (bit_at bits) (λ i. get_or (values_of t bits) i false) (values_right bits) e h);
      its_end = λ bits. ap (λ i. get_or (values_of t bits) (i - 1) false) head.1 ∙ (over (bit_at bits) (λ i. get_or (values_of t bits) i false) (values_right bits));
      its_clears = λ e i h. rw (record_read e h) (clearing e i h);
    }
