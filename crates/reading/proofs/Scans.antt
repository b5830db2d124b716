-- Numbers 2 to 4 and what is left after them: which one holds of a text, and that the scan answers with it.
use mathlib.Core.Path.{◌≡◌, refl, sym, ap, ◌∙◌}
use mathlib.Core.Logic.{◌⊎◌, inl, inr, ⊎_elim}
use mathlib.Core.Bool.{Bool, true, false}
use mathlib.Core.List.{List, [], ◌∷◌, map}
use Prim.Native.Nat.{ℕ, zero, suc, ◌≤◌, ◌<◌}
use native.Mathlib.Omega.{arith}
use lib.Dec.{ltb, leb}
use lib.ListN.{length, get_or, length-map, get_or-map}
use borrow.Author.Tests.{lt-ltb, le-ltb, le-leb, lt-leb, ltb-true, ltb-false, leb-true, leb-false, not-false}
use Rattle.std.specs.Prelude.{Result, Ok, Err}
use Rattle.base.specs.Refusals.{refusal}
use Rattle.base.specs.declared.Reason.TheVariants.{Text, Byte, Word}
use Rattle.base.specs.declared.Refusal.{Refusal}
use Rattle.base.proofs.Truth.{clash, cases, by_cases, not_i, not_e}
use Rattle.tokens.specs.Remarks.{opened, open_at, foreign_at, stretch}
use Rattle.tokens.specs.Spans.{Span, spans_of, tokens, places}
use Rattle.tokens.specs.Scanned.{first_foreign, first_long, scan_of}
use Rattle.tokens.proofs.Stretch.{stretch_nil, stretch_cons, stretch_le}
use Rattle.tokens.proofs.Foreign.{usual, foreign_along}
use Rattle.tokens.proofs.Spans.{no_span, tokens_length, token_at, place_at, places_below}
use Rattle.reading.specs.Refused.{Long, Foreign, Usual, Wordy, Clean}

-- The test of a number of a list, which is told whether a remark is open before it.
abbrev tested : (Bool → ℕ → Bool) → Bool → List ℕ → ℕ → Bool
tested t o l j = t (open_at o l j) (get_or l j 0)

-- The first number of a list that fails a test.
record First (t : Bool → ℕ → Bool) (o : Bool) (l : List ℕ) (n : ℕ) : Type 0 where
  inside : n < length l
  here : tested t o l n ≡ false
  first : (j : ℕ) → j < n → tested t o l j ≡ true

-- No number of the list fails it.
abbrev All : (Bool → ℕ → Bool) → Bool → List ℕ → Type 0
All t o l = (j : ℕ) → j < length l → tested t o l j ≡ true

module _ (t : Bool → ℕ → Bool) where
  first_later : (o : Bool) (b : ℕ) (l : List ℕ) {n : ℕ} → First t o (b ∷ l) (suc n) → First t (opened o b) l n
  unfolding open_at
  first_later o b l f = record { inside = omega (arith, f.inside); here = f.here; first = λ j h. f.first (suc j) (omega arith) }

  passes : (o : Bool) (l : List ℕ) (j : ℕ) → j < stretch t o l → tested t o l j ≡ true
  unfolding open_at
  passes o [] j h = let z : ⊥ = omega (arith, stretch_nil t o) in absurd z
  passes o (b ∷ l) zero h = by_cases (t o b) (λ e. e) (λ e. let g = rw (stretch_cons t o b l, e) at h in let z : ⊥ = omega arith in absurd z)
  passes o (b ∷ l) (suc j) h =
      by_cases (t o b) (λ e. let g = rw (stretch_cons t o b l, e) at h in passes (opened o b) l j (omega arith))
      (λ e. let g = rw (stretch_cons t o b l, e) at h in let z : ⊥ = omega arith in absurd z)

  fails : (o : Bool) (l : List ℕ) → stretch t o l < length l → tested t o l (stretch t o l) ≡ false
  unfolding open_at
  fails o [] h = let z : ⊥ = omega arith in absurd z
  fails o (b ∷ l) h =
      by_cases (t o b)
      (λ e. let q : stretch t o (b ∷ l) ≡ suc (stretch t (opened o b) l) = rw (stretch_cons t o b l, e) in rw q (fails (opened o b) l (omega (arith, q))))
      (λ e. let q : stretch t o (b ∷ l) ≡ 0 = rw (stretch_cons t o b l, e) in rw q e)

  first_stretch : (o : Bool) (l : List ℕ) → stretch t o l < length l → First t o l (stretch t o l)
  first_stretch o l h = record { inside = h; here = fails o l h; first = passes o l }

  stretch_first : (o : Bool) (l : List ℕ) (n : ℕ) → First t o l n → stretch t o l ≡ n
  unfolding open_at
  stretch_first o [] n f = let z : ⊥ = omega (arith, f.inside) in absurd z
  stretch_first o (b ∷ l) zero f = rw (stretch_cons t o b l, f.here)
  stretch_first o (b ∷ l) (suc n) f =
      rw (stretch_cons t o b l, f.first 0 (omega arith)) (ap suc (stretch_first (opened o b) l n (first_later o b l f)))

  all_stretch : (o : Bool) (l : List ℕ) → length l ≤ stretch t o l → All t o l
  all_stretch o l h j k = passes o l j (omega arith)

  stretch_all : (o : Bool) (l : List ℕ) → All t o l → length l ≤ stretch t o l
  stretch_all o l a =
      let n = stretch t o l in
      by_cases (ltb n (length l)) (λ e. let h = ltb-true n (length l) e in absurd (clash (a n h) (fails o l h))) (λ e. ltb-false n (length l) e)

-- Number 4: the first size over 24 among those of the tokens.
abbrev fits : Bool → ℕ → Bool
fits o n = leb n 24

abbrev sizes : List Span → List ℕ
sizes ss = map (λ (s : Span). length s.bytes) ss

long_first : (o : Bool) (ss : List Span) (none n : ℕ) → First fits o (sizes ss) n → first_long ss none ≡ (get_or ss n no_span).place
unfolding first_long
long_first o [] none n f = let z : ⊥ = omega (arith, f.inside) in absurd z
long_first o (s ∷ ss) none zero f = rw f.here
long_first o (s ∷ ss) none (suc n) f =
    let l = length s.bytes in rw (f.first 0 (omega arith)) (long_first (opened o l) ss none n (first_later fits o l (sizes ss) f))

long_none : (o : Bool) (ss : List Span) (none : ℕ) → All fits o (sizes ss) → first_long ss none ≡ none
unfolding first_long open_at
long_none o [] none a = refl
long_none o (s ∷ ss) none a = rw (a 0 (omega arith)) (long_none (opened o (length s.bytes)) ss none (λ j h. a (suc j) (omega arith)))

module _ (text : List ℕ) where
  size_at : (k : ℕ) → get_or (sizes (spans_of text)) k 0 ≡ length (get_or (tokens text) k [])
  size_at k = get_or-map (λ (s : Span). length s.bytes) (spans_of text) k no_span ∙ ap length (sym (token_at text k))

  sizes_length : length (sizes (spans_of text)) ≡ length (tokens text)
  sizes_length = length-map (spans_of text) (λ (s : Span). length s.bytes) ∙ sym (tokens_length text)

  short_fits : (k : ℕ) → length (get_or (tokens text) k []) ≤ 24 → tested fits false (sizes (spans_of text)) k ≡ true
  short_fits k h = rw (size_at k) (le-leb (length (get_or (tokens text) k [])) 24 h)

  fits_short : (k : ℕ) → tested fits false (sizes (spans_of text)) k ≡ true → length (get_or (tokens text) k []) ≤ 24
  fits_short k h = leb-true (length (get_or (tokens text) k [])) 24 (rw (size_at k) at h)

  foreign_first : {at : ℕ} → Foreign text at → first_foreign text ≡ at
  foreign_first {at} h =
      foreign_along text
      ∙ stretch_first usual false text at (record { inside = h.inside; here = rw h.here; first = λ j k. not_i (h.first j k) })

  pub none_usual : first_foreign text ≡ length text → Usual text
  none_usual e j k = not_e (foreign_at text j) (all_stretch usual false text (omega (arith, foreign_along text)) j k)

  usual_none : Usual text → length text ≤ first_foreign text
  usual_none h = rw (foreign_along text) (stretch_all usual false text (λ j k. not_i (h j k)))

  pub none_strange : Usual text → stretch usual false text ≡ length text
  none_strange h = omega (arith, usual_none h, foreign_along text, stretch_le usual false text)

  words_none : Clean text → first_long (spans_of text) (length text) ≡ length text
  words_none h = long_none false (spans_of text) (length text) (λ j k. short_fits j (h.words j (omega (arith, sizes_length))))

  wordy_first : {at : ℕ} → Wordy text at → first_long (spans_of text) (length text) ≡ at
  wordy_first {at} h =
      let k = h.token in
      let f : First fits false (sizes (spans_of text)) k = record {
        inside = omega (arith, sizes_length, h.inside);
        here = rw (size_at k) (lt-leb (length (get_or (tokens text) k [])) 24 h.over);
        first = λ j l. short_fits j (h.first j l);
      } in
      long_first false (spans_of text) (length text) k f ∙ sym (h.place ∙ place_at text k)

  pub clean_scan : Clean text → scan_of text ≡ Ok (length (spans_of text))
  unfolding scan_of
  clean_scan h =
      let n = length text in
      rw (le-ltb 16384 n h.size, le-ltb (first_foreign text) n (usual_none h.usual), words_none h, le-ltb n n (omega arith))

  module _ (at : ℕ) where
    pub long_scan : Long text at → scan_of text ≡ Err (refusal Text at)
    unfolding scan_of
    long_scan h = rw (lt-ltb 16384 (length text) h.over, h.place)

    pub foreign_scan : Foreign text at → scan_of text ≡ Err (refusal Byte at)
    unfolding scan_of
    foreign_scan h = rw (le-ltb 16384 (length text) h.size, foreign_first h, lt-ltb at (length text) h.inside)

    pub wordy_scan : Wordy text at → scan_of text ≡ Err (refusal Word at)
    unfolding scan_of
    wordy_scan h =
        let n = length text in
        let l : at < n = rw h.place (places_below text h.token h.inside) in
        rw (le-ltb 16384 n h.size, le-ltb (first_foreign text) n (usual_none h.usual), wordy_first h, lt-ltb at n l)

-- One of the four holds of any text.
data Sorted (text : List ℕ) : Type 0 where
  long : (at : ℕ) → Long text at → Sorted text
  foreign_byte : (at : ℕ) → Foreign text at → Sorted text
  wordy_text : (at : ℕ) → Wordy text at → Sorted text
  clean : Clean text → Sorted text

module _ (text : List ℕ) where
  sorted_words : length text ≤ 16384 → Usual text → Sorted text
  sorted_words s u =
      let l = sizes (spans_of text) in
      let k = stretch fits false l in
      ⊎_elim
      (λ e.
      let f = first_stretch fits false l (ltb-true k (length l) e) in
      wordy_text (get_or (places text) k 0)
      record {
        size = s;
        usual = u;
        token = k;
        inside = omega (arith, sizes_length text, f.inside);
        over = leb-false (length (get_or (tokens text) k [])) 24 (rw (size_at text k) at f.here);
        first = λ j h. fits_short text j (f.first j h);
        place = refl;
      })
      (λ e.
      let a = all_stretch fits false l (ltb-false k (length l) e) in
      clean record { size = s; usual = u; words = λ j h. fits_short text j (a j (omega (arith, sizes_length text))) })
      (cases (ltb k (length l)))

  sorted_bytes : length text ≤ 16384 → Sorted text
  sorted_bytes s =
      let k = stretch usual false text in
      ⊎_elim
      (λ e.
      let f = first_stretch usual false text (ltb-true k (length text) e) in
      foreign_byte k
      record {
        size = s;
        inside = f.inside;
        here = not-false (foreign_at text k) f.here;
        first = λ j h. not_e (foreign_at text j) (f.first j h);
      })
      (λ e.
      let a = all_stretch usual false text (ltb-false k (length text) e) in
      sorted_words s (λ j h. not_e (foreign_at text j) (a j h)))
      (cases (ltb k (length text)))

  sorted : Sorted text
  sorted =
      ⊎_elim (λ e. long 16384 record { over = ltb-true 16384 (length text) e; place = refl }) (λ e. sorted_bytes (ltb-false 16384 (length text) e))
      (cases (ltb 16384 (length text)))

-- What the scan says holds of the text.
same_refusal : {s : Result ℕ Refusal} {q r : Refusal} → s ≡ Err q → s ≡ Err r → q ≡ r
same_refusal x y = cc

no_refusal : {s : Result ℕ Refusal} {r : Refusal} {n : ℕ} → s ≡ Err r → s ≡ Ok n → ⊥
no_refusal x y = cc

-- The sentence of a refusal before the grammar is looked at.
abbrev pub Unread : List ℕ → Refusal → Type 0
Unread text r =
    ((r.reason ≡ Text) × Long text r.place) ⊎ (((r.reason ≡ Byte) × Foreign text r.place) ⊎ ((r.reason ≡ Word) × Wordy text r.place))

refused_at_by : {text : List ℕ} (r : Refusal) → Sorted text → scan_of text ≡ Err r → Unread text r
refused_at_by {text} r (long i h) e = rw (same_refusal e (long_scan text i h)) (inl (refl, h))
refused_at_by {text} r (foreign_byte i h) e = rw (same_refusal e (foreign_scan text i h)) (inr (inl (refl, h)))
refused_at_by {text} r (wordy_text i h) e = rw (same_refusal e (wordy_scan text i h)) (inr (inr (refl, h)))
refused_at_by {text} r (clean h) e = absurd (no_refusal e (clean_scan text h))

pub scan_refused_at : (text : List ℕ) (r : Refusal) → scan_of text ≡ Err r → Unread text r
scan_refused_at text r e = refused_at_by r (sorted text) e

clean_by : {text : List ℕ} (n : ℕ) → Sorted text → scan_of text ≡ Ok n → Clean text
clean_by {text} n (long i h) e = absurd (no_refusal (long_scan text i h) e)
clean_by {text} n (foreign_byte i h) e = absurd (no_refusal (foreign_scan text i h) e)
clean_by {text} n (wordy_text i h) e = absurd (no_refusal (wordy_scan text i h) e)
clean_by {text} n (clean h) e = h

pub scan_clean : (text : List ℕ) (n : ℕ) → scan_of text ≡ Ok n → Clean text
scan_clean text n e = clean_by n (sorted text) e
