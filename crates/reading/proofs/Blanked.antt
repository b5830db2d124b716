-- "A remark is a blank wherever a blank may stand": with blanks in place of its remarks a text that has no foreign byte has the same tokens at the
-- same places.
use mathlib.Core.Path.{◌≡◌, refl, ap}
use mathlib.Core.Bool.{Bool, true, false, cond}
use mathlib.Core.List.{List, [], ◌∷◌}
use Prim.Native.Nat.{ℕ, zero, suc, ◌+◌}
use native.Mathlib.Omega.{arith}
use lib.Dec.{eqb}
use lib.ListN.{length, take, drop, length-drop}
use borrow.Author.Tests.{eqb-true}
use Rattle.base.proofs.Truth.{by_cases, not_no}
use Rattle.tokens.specs.Classes.{class_of, worded, unbroken}
use Rattle.tokens.specs.Remarks.{opened, skipped, stretch, blanks}
use Rattle.tokens.specs.Words.{front}
use Rattle.tokens.specs.Spans.{Span, width, cut, spans, spans_of}
use Rattle.tokens.proofs.Stretch.{stretch_nil, stretch_cons, stretch_le}
use Rattle.tokens.proofs.Remarks.{stops, worded_unbroken, unopened, blanks_past, token_stands}
use Rattle.tokens.proofs.Steps.{width_le}
use Rattle.tokens.proofs.Foreign.{usual, skipped_over, token_over}
use Rattle.reading.specs.Blanked.{space, blanked}

pub blanked_length : (o : Bool) (bs : List ℕ) → length (blanked o bs) ≡ length bs
unfolding blanked
blanked_length o [] = refl
blanked_length o (b ∷ bs) = ap suc (blanked_length (opened o b) bs)

-- No byte from here on is foreign.
abbrev UsualFrom : Bool → List ℕ → Type 0
UsualFrom o l = stretch usual o l ≡ length l

-- The blank or the byte that stands for a skipped byte is skipped too, and opens no remark.
record Blank (b : ℕ) : Type 0 where
  skips : skipped false b ≡ true
  opens : opened false b ≡ false

stays : (o p : Bool) (b : ℕ) → skipped o b ≡ true → opened o b ≡ p → Blank (cond p space b)
unfolding class_of
stays o true b s e = record { skips = refl; opens = refl }
stays false false b s e = record { skips = s; opens = e }
stays true false b s e = let t = eqb-true b 10 (not_no (eqb b 10) e) in rw t record { skips = refl; opens = refl }

-- Where nothing is skipped and no byte is foreign, no remark is open.
shut : (o : Bool) (b : ℕ) (bs : List ℕ) → skipped o b ≡ false → UsualFrom o (b ∷ bs) → o ≡ false
shut false b bs s u = refl
shut true b bs s u = let z : 0 ≡ suc (length bs) = rw (stretch_cons usual true b bs, s) at u in absurd (omega arith)

usual_on : (o : Bool) (b : ℕ) (bs : List ℕ) → UsualFrom o (b ∷ bs) → UsualFrom (opened o b) bs
usual_on o b bs u =
    by_cases (usual o b) (λ e. let z : suc (stretch usual (opened o b) bs) ≡ suc (length bs) = rw (stretch_cons usual o b bs, e) at u in omega arith)
    (λ e. let z : 0 ≡ suc (length bs) = rw (stretch_cons usual o b bs, e) at u in absurd (omega arith))

-- What is skipped: as many bytes, and then the same.
record Gap (o : Bool) (l : List ℕ) : Type 0 where
  count : blanks (blanked o l) ≡ stretch skipped o l
  after : drop (stretch skipped o l) (blanked o l) ≡ blanked false (drop (stretch skipped o l) l)

gap_on : (o : Bool) (b : ℕ) (bs : List ℕ) → skipped o b ≡ true → Gap (opened o b) bs → Gap o (b ∷ bs)
unfolding blanked
gap_on o b bs e g =
    let c = cond (opened o b) space b in
    let k = stays o (opened o b) b e refl in
    let n : stretch skipped o (b ∷ bs) ≡ suc (stretch skipped (opened o b) bs) = rw (stretch_cons skipped o b bs, e) in
    record {
      count = rw (stretch_cons skipped false c (blanked (opened o b) bs), k.skips, k.opens, n) (ap suc g.count);
      after = rw n g.after;
    }

gap_end : (b : ℕ) (bs : List ℕ) → skipped false b ≡ false → Gap false (b ∷ bs)
unfolding blanked
gap_end b bs e =
    let u = unopened b (stops b e) in
    let n : stretch skipped false (b ∷ bs) ≡ 0 = rw (stretch_cons skipped false b bs, e) in
    record {
      count = rw (n, u) (rw (stretch_cons skipped false b (blanked false bs), e));
      after = rw n;
    }

gap : (o : Bool) (l : List ℕ) → UsualFrom o l → Gap o l
unfolding blanked
gap o [] u = record { count = rw (stretch_nil skipped o) (stretch_nil skipped false); after = rw (stretch_nil skipped o) }
gap o (b ∷ bs) u =
    by_cases (skipped o b) (λ e. gap_on o b bs e (gap (opened o b) bs (usual_on o b bs u)))
    (λ e. let s = shut o b bs e u in rw s (gap_end b bs (rw s at e)))

-- A word: as many bytes, the same ones, and then the same.
record Run (n m : ℕ) (l : List ℕ) : Type 0 where
  count : n ≡ m
  bytes : take m (blanked false l) ≡ take m l
  after : drop m (blanked false l) ≡ blanked false (drop m l)

kept : (b : ℕ) (bs : List ℕ) → unbroken b ≡ true → blanked false (b ∷ bs) ≡ b ∷ blanked false bs
unfolding blanked
kept b bs u = rw (unopened b u)

-- A blank in place of a remark's first byte ends a word, as that does.
unworded : (p : Bool) (b : ℕ) → worded b ≡ false → worded (cond p space b) ≡ false
unfolding class_of
unworded true b e = refl
unworded false b e = e

word : (l : List ℕ) → Run (front worded (blanked false l)) (front worded l) l
unfolding blanked front
word [] = record { count = refl; bytes = refl; after = refl }
word (b ∷ bs) =
    by_cases (worded b)
    (λ e.
    let r = word bs in
    let u = unopened b (worded_unbroken b e) in
    record {
      count = rw (u, e) (ap suc r.count);
      bytes = rw (u, e) (ap (λ (l : List ℕ). b ∷ l) r.bytes);
      after = rw (u, e) r.after;
    })
    (λ e. record { count = rw (unworded (opened false b) b e, e); bytes = rw e; after = rw e })

token : (b : ℕ) (bs : List ℕ) → unbroken b ≡ true → Run (width (blanked false (b ∷ bs))) (width (b ∷ bs)) (b ∷ bs)
unfolding width
token b bs u =
    let k = kept b bs u in
    by_cases (worded b) (λ e. let r = word (b ∷ bs) in rw (k, e) (rw k at r)) (λ e.
    rw (k, e) record { count = refl; bytes = rw k; after = rw k })

-- After what is skipped, and after a token, no byte is foreign either.
past_gap : (l : List ℕ) → UsualFrom false l → UsualFrom false (drop (blanks l) l)
past_gap l u = omega (arith, u, skipped_over false l, length-drop (blanks l) l, stretch_le skipped false l)

first_usual : (b : ℕ) (bs : List ℕ) → UsualFrom false (b ∷ bs) → usual false b ≡ true
first_usual b bs u =
    by_cases (usual false b) (λ e. e) (λ e. let z : 0 ≡ suc (length bs) = rw (stretch_cons usual false b bs, e) at u in absurd (omega arith))

past_token : (b : ℕ) (bs : List ℕ) → unbroken b ≡ true → UsualFrom false (b ∷ bs) → UsualFrom false (drop (width (b ∷ bs)) (b ∷ bs))
past_token b bs k u =
    omega (arith, u, token_over b bs k (first_usual b bs u), length-drop (width (b ∷ bs)) (b ∷ bs), width_le (b ∷ bs))

none : blanked false [] ≡ []
unfolding blanked
none = refl

cut_blanked : (r : ℕ → List ℕ → List Span) → ((p : ℕ) (m : List ℕ) → UsualFrom false m → r p (blanked false m) ≡ r p m)
    → (at : ℕ) (l : List ℕ) → blanks l ≡ 0 → UsualFrom false l → cut r at (blanked false l) ≡ cut r at l
cut_blanked r h at [] z u = rw none
cut_blanked r h at (b ∷ bs) z u =
    let s = token_stands b bs z in
    let k = kept b bs s in
    let t = token b bs s in
    let w = width (b ∷ bs) in
    let n : width (b ∷ blanked false bs) ≡ w = rw k at t.count in
    let y : take w (b ∷ blanked false bs) ≡ take w (b ∷ bs) = rw k at t.bytes in
    let d : drop w (b ∷ blanked false bs) ≡ blanked false (drop w (b ∷ bs)) = rw k at t.after in
    rw (k, n, y, d, h (at + w) (drop w (b ∷ bs)) (past_token b bs s u))

spans_blanked : (f at : ℕ) (l : List ℕ) → UsualFrom false l → spans f at (blanked false l) ≡ spans f at l
unfolding spans
spans_blanked zero at l u = refl
spans_blanked (suc f) at l u =
    let g = gap false l u in
    rw (g.count, g.after)
    (cut_blanked (λ at bs. spans f at bs) (λ p m v. spans_blanked f p m v) (at + blanks l) (drop (blanks l) l) (blanks_past l) (past_gap l u))

pub blanked_spans : (text : List ℕ) → stretch usual false text ≡ length text → spans_of (blanked false text) ≡ spans_of text
unfolding spans_of
blanked_spans text u = rw (blanked_length false text) (spans_blanked (length text) 0 text u)
