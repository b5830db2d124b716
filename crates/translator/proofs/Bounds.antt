-- Property 1, for translation, and that a call has one answer; every accepted text is translated.
use mathlib.Core.Path.{◌≡◌, refl, sym, ap, subst, ◌∙◌}
use mathlib.Core.List.{List, [], ◌∷◌, cons≢nil}
use Prim.Native.Nat.{ℕ, ◌≤◌, ◌<◌}
use native.Mathlib.Omega.{arith}
use lib.Dec.{ltb}
use lib.ListN.{length, take}
use lib.Seq.{length-take-le}
use borrow.Author.Tests.{ltb-true, ltb-false}
use Rattle.base.specs.Fill.{fill}
use Rattle.std.specs.Prelude.{Ok, Err}
use Rattle.base.specs.Refusals.{number, refusal as refusal_at}
use Rattle.base.specs.Reports.{Report, Written as Answer, result, refusal as refusal_report}
use Rattle.base.specs.declared.Reason.{Reason as Why}
use Rattle.base.proofs.Reports.{refusal_told, written_told}
use Rattle.base.proofs.Filled.{fill_length, fill_front, fill_past, fill_none, fill_taken}
use Rattle.base.proofs.Truth.{by_cases}
use Rattle.diagram.specs.Tree.{Flow}
use Rattle.reading.specs.Accepted.{Accepted}
use Rattle.reading.specs.Refused.{RefusedAt}
use Rattle.reading.proofs.Bounds.{refused_at_near}
use Rattle.reading.proofs.Exact.{accepted_once, refused_at_once, never_both, Fate, taken, refused_at, fate}
use Rattle.layout.specs.Sound.{SoundTable}
use Rattle.layout.proofs.Sentences.{sound_exactly}
use Rattle.translator.specs.Reports.{report}
use Rattle.translator.specs.Translates.{TableOf, table_of, Written, Translation, short, refused, done}
use Rattle.translator.specs.Bounds.{Result, Reason, short_sheet, of_text, Refusal, Bounded, its_result, its_refusal}

-- ---- reports
-- Two answers that report the same are the same.
pub report_once : (r q : Answer) → report r ≡ report q → r ≡ q
report_once = written_told

-- An answer that reports so many bytes, and one that reports a refusal.
bytes_reported : (r : Answer) (n : ℕ) → report r ≡ result (n ∷ []) → r ≡ Ok n
bytes_reported r n e = report_once r (Ok n) e

refusal_reported : (r : Answer) (why : Why) (place : ℕ) → report r ≡ refusal_report (number why) place → r ≡ Err (refusal_at why place)
refusal_reported = refusal_told (λ n. n ∷ [])

-- No refusal has bytes.
bytes_refused : {A : Type 0} {n number place : ℕ} → report (Ok n) ≡ refusal_report number place → A
bytes_refused e = absurd (cons≢nil (ap (λ (x : Report). x.values) e))

-- ---- the table that was written
-- A table of at most 512 events and 12,288 rows.
table_few : (t : List ℕ) → SoundTable t → length t ≤ 51204
table_few t s = omega (arith, s.length_exact, s.events_most, s.rows_most)

module _ (d : Flow) (lent : List ℕ) (count : ℕ) (left : List ℕ) (w : Written d lent count left) where
  -- Its bytes are those at the front, and what stands past them is what was there.
  front_is : take count left ≡ table_of d
  front_is = rw (w.its_count, w.its_left) (fill_front lent (table_of d) w.fits)

  stays : length left ≡ length lent
  stays = rw w.its_left (fill_length lent (table_of d))

  few : count ≤ 51204
  few = omega (arith, w.its_count, table_few (table_of d) ((sound_exactly (table_of d)).0 w.its_table.its_sound))

-- ---- property 1
module _ (text lent : List ℕ) (r : Answer) (left : List ℕ) where
  written_result : (d : Flow) (count : ℕ) → 51204 ≤ length lent → Accepted text d → report r ≡ result (count ∷ []) → Written d lent count left → Result text lent r left
  written_result d count h a e w = record {
    long = h;
    tree = d;
    accepted = a;
    count = count;
    is = e;
    few = few d lent count left w;
    length_stays = stays d lent count left w;
    its_table = w.its_table;
    front = front_is d lent count left w;
    past = rw (w.its_count, w.its_left) (fill_past lent (table_of d));
  }

  read_refused : (number place : ℕ) → 51204 ≤ length lent → RefusedAt text number place → report r ≡ refusal_report number place → left ≡ lent
      → Refusal text lent r left
  read_refused number place h t e q =
      let n = refused_at_near text number place t in
      record {
        number = number;
        place = place;
        is = e;
        low = omega (arith, n.low);
        high = n.high;
        near = n.close;
        reason = of_text h t;
        untouched = q;
      }

  short_refused : length lent < 51204 → report r ≡ refusal_report 1 0 → left ≡ lent → Refusal text lent r left
  short_refused h e q = record {
    number = 1;
    place = 0;
    is = e;
    low = omega arith;
    high = omega arith;
    near = omega arith;
    reason = short_sheet h refl refl;
    untouched = q;
  }

  -- "Every answer is a result within the limits or one numbered refusal with its place, which leaves lent memory untouched."
  pub translate_bounded : Translation text lent r left → Bounded text lent r left
  translate_bounded (short h e q) = its_refusal (short_refused h e q)
  translate_bounded (refused number place h t e q) = its_refusal (read_refused number place h t e q)
  translate_bounded (done d count h a e w) = its_result (written_result d count h a e w)

  -- The converse: what is bounded so is what translation answers and leaves.
  result_written : (k : Result text lent r left) → Written k.tree lent k.count left
  result_written k =
      let l = length-take-le k.count left (omega (arith, k.few, k.long, k.length_stays)) in
      let n : k.count ≡ length (table_of k.tree) = sym l ∙ ap length k.front in
      record {
        its_count = n;
        its_left = sym (fill_taken lent left k.count k.length_stays k.past) ∙ ap (fill lent) k.front;
        fits = omega (arith, n, k.few, k.long);
        its_table = k.its_table;
      }

  refusal_translation : (k : Refusal text lent r left) → Reason text lent k.number k.place → Translation text lent r left
  refusal_translation k (short_sheet h n p) = short h (rw (n, p) at k.is) k.untouched
  refusal_translation k (of_text h t) = refused k.number k.place h t k.is k.untouched

  pub bounded_translation : Bounded text lent r left → Translation text lent r left
  bounded_translation (its_result k) = done k.tree k.count k.long k.accepted k.is (result_written k)
  bounded_translation (its_refusal k) = refusal_translation k k.reason

  -- As a caller takes the bytes that were written.
  pub translate_room : Translation text lent r left → (n : ℕ) → r ≡ Ok n → (n ≤ length left) × (n ≡ length (take n left))
  translate_room (short h e q) n t = bytes_refused (sym (ap report t) ∙ e)
  translate_room (refused number place h u e q) n t = bytes_refused (sym (ap report t) ∙ e)
  translate_room (done d count h a e w) n t =
      let same : Ok n ≡ Ok count = sym t ∙ bytes_reported r count e in
      let x : n ≡ count = cc in
      let l : n ≤ length left = omega (arith, x, w.its_count, w.fits, stays d lent count left w) in
      (l, sym (length-take-le n left l))

  -- "Every accepted text is translated when the buffer is long enough."
  pub accepted_translated : Translation text lent r left → (d : Flow) → Accepted text d → 51204 ≤ length lent
      → (count : ℕ) × (r ≡ Ok count) × TableOf d (take count left)
  accepted_translated (short h e q) d a long = absurd (omega arith)
  accepted_translated (refused number place h t e q) d a long = absurd (never_both text d number place a t)
  accepted_translated (done f count h b e w) d a long =
      (count, bytes_reported r count e, subst (λ tree. TableOf tree (take count left)) (accepted_once text f d b a) (rw (front_is f lent count left w) w.its_table))

  -- Of an accepted text the bytes that were written are its table.
  pub accepted_table : Translation text lent r left → (d : Flow) → Accepted text d → (n : ℕ) → r ≡ Ok n → take n left ≡ table_of d
  accepted_table (short h e q) d a n t = bytes_refused (sym (ap report t) ∙ e)
  accepted_table (refused number place h u e q) d a n t = bytes_refused (sym (ap report t) ∙ e)
  accepted_table (done f count h b e w) d a n t =
      let same : Ok n ≡ Ok count = sym t ∙ bytes_reported r count e in
      let x : n ≡ count = cc in
      rw x (front_is f lent count left w ∙ ap table_of (accepted_once text f d b a))

-- ---- one answer
-- What a text that is read or turned away gets, where the buffer is long enough: an answer, and bytes over the front of what was lent.
abbrev answer_for : {text : List ℕ} → Fate text → Answer
answer_for (taken d a) = Ok (length (table_of d))
answer_for (refused_at why place t) = Err (refusal_at why place)

abbrev bytes_for : {text : List ℕ} → Fate text → List ℕ
bytes_for (taken d a) = table_of d
bytes_for (refused_at why place t) = []

module _ (text lent : List ℕ) (r : Answer) (left : List ℕ) where
  by_fate : (f : Fate text) → Translation text lent r left → 51204 ≤ length lent → (r ≡ answer_for f) × (left ≡ fill lent (bytes_for f))
  by_fate (taken d a) (short h e q) long = absurd (omega arith)
  by_fate (refused_at n p t) (short h e q) long = absurd (omega arith)
  by_fate (taken d a) (refused m i h u e q) long = absurd (never_both text d m i a u)
  by_fate (refused_at n p t) (refused m i h u e q) long =
      let s = refused_at_once text m i (number n) p u t in
      (refusal_reported r n p (e ∙ rw (s.0, s.1)), q ∙ sym (fill_none lent))
  by_fate (taken d a) (done f count h b e w) long =
      let s = accepted_once text f d b a in (
        bytes_reported r (length (table_of d)) (e ∙ ap (λ (n : ℕ). result (n ∷ [])) (w.its_count ∙ ap (λ (x : Flow). length (table_of x)) s)),
        w.its_left ∙ ap (λ (x : Flow). fill lent (table_of x)) s,
      )
  by_fate (refused_at n p t) (done f count h b e w) long = absurd (never_both text f (number n) p b t)

  by_length : Translation text lent r left → length lent < 51204 → (r ≡ Err (refusal_at Why.Buffer 0)) × (left ≡ lent)
  by_length (short h e q) s = (refusal_reported r Why.Buffer 0 e, q)
  by_length (refused m i h u e q) s = absurd (omega arith)
  by_length (done f count h b e w) s = absurd (omega arith)

-- The answer and the bytes that are written depend on the text alone: buffers that are long enough get the same.
pub text_alone : (text lent more : List ℕ) (r q : Answer) (left other : List ℕ) → 51204 ≤ length lent → 51204 ≤ length more
    → Translation text lent r left → Translation text more q other
    → (r ≡ q) × ((bytes : List ℕ) × (left ≡ fill lent bytes) × (other ≡ fill more bytes))
text_alone text lent more r q left other long enough t u =
    let a = by_fate text lent r left (fate text) t long in
    let b = by_fate text more q other (fate text) u enough in
    (a.0 ∙ sym b.0, (bytes_for (fate text), a.1, b.1))

-- A text and a buffer get one answer, and one list of bytes is left.
module _ (text lent : List ℕ) (r q : Answer) (left other : List ℕ) where
  pub one_translation : Translation text lent r left → Translation text lent q other → (r ≡ q) × (left ≡ other)
  one_translation t u =
      by_cases (ltb (length lent) 51204)
      (λ s.
      let l = ltb-true (length lent) 51204 s in
      let a = by_length text lent r left t l in
      let b = by_length text lent q other u l in
      (a.0 ∙ sym b.0, a.1 ∙ sym b.1))
      (λ s.
      let l = ltb-false (length lent) 51204 s in
      let a = text_alone text lent lent r q left other l l t u in
      (a.0, a.1.1 ∙ sym a.1.2))

  pub one_bounded : Bounded text lent r left → Bounded text lent q other → (r ≡ q) × (left ≡ other)
  one_bounded b c = one_translation (bounded_translation text lent r left b) (bounded_translation text lent q other c)
