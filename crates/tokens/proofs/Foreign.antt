-- The first foreign byte, found along the tokens, is the first byte by byte: what is skipped, and words, have none.
use mathlib.Core.Path.{◌≡◌, refl, sym, ap, ◌∙◌}
use mathlib.Core.Bool.{Bool, true, false, not, cond}
use mathlib.Core.List.{List, [], ◌∷◌}
use Prim.Native.Nat.{ℕ, zero, suc, ◌+◌, ◌≤◌, ◌<◌}
use native.Mathlib.Nat.{zero-add, add-zero}
use native.Mathlib.Omega.{arith}
use lib.ListN.{length, drop, length-drop}
use Rattle.base.proofs.Truth.{by_cases, not_i}
use Rattle.tokens.specs.Classes.{class_of, within, worded, unbroken, foreign}
use Rattle.tokens.specs.Remarks.{opened, skipped, strange, stretch, blanks}
use Rattle.tokens.specs.Words.{front}
use Rattle.tokens.specs.Spans.{Span, width, cut, spans, spans_of}
use Rattle.tokens.specs.Scanned.{foreign_in, first_foreign}
use Rattle.tokens.proofs.Between.{in_range, between_high}
use Rattle.tokens.proofs.Stretch.{stretch_nil, stretch_cons, stretch_le}
use Rattle.tokens.proofs.Remarks.{worded_unbroken, unopened, unheld, blanks_past, token_stands}
use Rattle.tokens.proofs.Steps.{width_some, width_le}
use Rattle.tokens.proofs.Spans.{first_of}

abbrev pub usual : Bool → ℕ → Bool
usual o b = not (strange o b)

-- A byte that has any class but the first is not foreign.
pub known_class : (b : ℕ) → 1 ≤ class_of b → foreign b ≡ false
known_class b h = between_high 0 0 (class_of b) h

known : (a b x : ℕ) → 1 ≤ a → within a b x ≡ true → usual false x ≡ true
known a b x h e = let r = in_range a b (class_of x) e in not_i (known_class x (omega arith))

-- What is skipped is not foreign; where it ends, it is the same with or without an open remark.
skipped_usual : (o : Bool) (b : ℕ) → skipped o b ≡ true → usual o b ≡ true
skipped_usual false b e = known 8 9 b (omega arith) e
skipped_usual true b e = rw e

ended_alike : (o : Bool) (b : ℕ) (bs : List ℕ) → skipped o b ≡ false → stretch usual o (b ∷ bs) ≡ stretch usual false (b ∷ bs)
ended_alike false b bs e = refl
ended_alike true b bs e = rw (stretch_cons usual true b bs, stretch_cons usual false b bs, e, unheld b e)

pub skipped_over : (o : Bool) (l : List ℕ) → stretch usual o l ≡ stretch skipped o l + stretch usual false (drop (stretch skipped o l) l)
skipped_over o [] = rw (stretch_nil usual o, stretch_nil skipped o, stretch_nil usual false)
skipped_over o (b ∷ bs) =
    rw (stretch_cons skipped o b bs)
    (by_cases (skipped o b)
    (λ e. let h = skipped_over (opened o b) bs in rw (stretch_cons usual o b bs, e, skipped_usual o b e) (omega arith))
    (λ e. rw e (ended_alike o b bs e ∙ sym (zero-add _))))

-- A byte of a token that is not foreign is stepped over, and with it a word.
one_over : (b : ℕ) (bs : List ℕ) → unbroken b ≡ true → usual false b ≡ true → stretch usual false (b ∷ bs) ≡ 1 + stretch usual false bs
one_over b bs u h = rw (stretch_cons usual false b bs, h, unopened b u) (omega arith)

word_if : (b : ℕ) (bs : List ℕ) (v : Bool) → worded b ≡ v → stretch usual false bs ≡ front worded bs + stretch usual false (drop (front worded bs) bs)
    → stretch usual false (b ∷ bs) ≡ cond v (suc (front worded bs)) 0 + stretch usual false (drop (cond v (suc (front worded bs)) 0) (b ∷ bs))
word_if b bs true e h = one_over b bs (worded_unbroken b e) (known 5 7 b (omega arith) e) ∙ omega (arith, h)
word_if b bs false e h = sym (zero-add _)

word_over : (l : List ℕ) → stretch usual false l ≡ front worded l + stretch usual false (drop (front worded l) l)
unfolding front
word_over [] = sym (zero-add _)
word_over (b ∷ bs) = word_if b bs (worded b) refl (word_over bs)

foreign_stays : (b : ℕ) (bs : List ℕ) → foreign b ≡ true → stretch usual false (b ∷ bs) ≡ 0
foreign_stays b bs h = rw (stretch_cons usual false b bs, h)

-- The token at the front is stepped over where its first byte is not foreign.
token_if : (b : ℕ) (bs : List ℕ) (v : Bool) → worded b ≡ v → unbroken b ≡ true → usual false b ≡ true
    → stretch usual false (b ∷ bs) ≡ cond v (front worded (b ∷ bs)) 1 + stretch usual false (drop (cond v (front worded (b ∷ bs)) 1) (b ∷ bs))
token_if b bs true e u h = word_over (b ∷ bs)
token_if b bs false e u h = one_over b bs u h

pub token_over : (b : ℕ) (bs : List ℕ) → unbroken b ≡ true → usual false b ≡ true
    → stretch usual false (b ∷ bs) ≡ width (b ∷ bs) + stretch usual false (drop (width (b ∷ bs)) (b ∷ bs))
unfolding width
token_over b bs u h = token_if b bs (worded b) refl u h

abbrev Along : (ℕ → List ℕ → List Span) → ℕ → List ℕ → Type 0
Along r at l = foreign_in (r at l) (at + length l) ≡ at + stretch usual false l

cut_foreign : (r : ℕ → List ℕ → List Span) (at : ℕ) (l : List ℕ) → blanks l ≡ 0 → ((p : ℕ) (m : List ℕ) → length m < length l → Along r p m)
    → Along (cut r) at l
unfolding foreign_in
cut_foreign r at [] z f = ap (λ (n : ℕ). at + n) (sym (stretch_nil usual false))
cut_foreign r at (b ∷ bs) z f =
    let w = width (b ∷ bs) in
    let d = drop w (b ∷ bs) in
    let g = first_of (b ∷ bs) in
    let k = length-drop w (b ∷ bs) in
    let s = width_some (b ∷ bs) (omega arith) in
    let m = width_le (b ∷ bs) in
    by_cases (foreign b) (λ e. rw (g, e) (sym (ap (λ (n : ℕ). at + n) (foreign_stays b bs e) ∙ add-zero at))) (λ e.
    let n : at + length (b ∷ bs) ≡ at + w + length d = omega arith in
    let h = token_over b bs (token_stands b bs z) (not_i e) in
    rw (g, e) (ap (foreign_in (r (at + w) d)) n ∙ f (at + w) d (omega arith) ∙ omega (arith, h)))

spans_foreign : (f at : ℕ) (l : List ℕ) → length l ≤ f → Along (spans f) at l
unfolding spans foreign_in
spans_foreign zero at [] h = ap (λ (n : ℕ). at + n) (sym (stretch_nil usual false))
spans_foreign zero at (b ∷ l) h = let z : ⊥ = omega arith in absurd z
spans_foreign (suc f) at l h =
    let d = drop (blanks l) l in
    let k = length-drop (blanks l) l in
    let m = stretch_le skipped false l in
    let n : at + length l ≡ at + blanks l + length d = omega arith in
    let o = skipped_over false l in
    ap (foreign_in (cut (λ p m. spans f p m) (at + blanks l) d)) n
    ∙ cut_foreign (λ p m. spans f p m) (at + blanks l) d (blanks_past l) (λ p m q. spans_foreign f p m (omega arith))
    ∙ omega (arith, o)

pub foreign_along : (text : List ℕ) → first_foreign text ≡ stretch usual false text
unfolding spans_of
foreign_along text =
    ap (foreign_in (spans (length text) 0 text)) (sym (zero-add (length text)))
    ∙ spans_foreign (length text) 0 text (omega arith)
    ∙ zero-add (stretch usual false text)
