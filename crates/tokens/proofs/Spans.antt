-- What the tokens of a text are, token by token: as many places as tokens, each a part of the text, and where a word begins, that word.
use mathlib.Core.Path.{◌≡◌, refl, sym, ap, ◌∙◌, subst}
use mathlib.Core.Bool.{true}
use mathlib.Core.List.{List, [], ◌∷◌}
use Prim.Native.Nat.{ℕ, zero, suc, ◌+◌, ◌<◌}
use native.Mathlib.Omega.{arith}
use lib.ListN.{length, take, drop, get_or, length-drop, length-map, get_or-map}
use lib.Seq.{drop-drop, get_or-take}
use Rattle.tokens.specs.Classes.{worded}
use Rattle.tokens.specs.Remarks.{blanks}
use Rattle.tokens.specs.Words.{front, word_at}
use Rattle.tokens.specs.Spans.{Span, width, cut, spans, spans_of, tokens, places}
use Rattle.tokens.proofs.Steps.{width_some}

pub tokens_length : (text : List ℕ) → length (tokens text) ≡ length (spans_of text)
unfolding tokens
tokens_length text = length-map (spans_of text) (λ (s : Span). s.bytes)

pub places_length : (text : List ℕ) → length (places text) ≡ length (spans_of text)
unfolding places
places_length text = length-map (spans_of text) (λ (s : Span). s.place)

-- What stands past the last token.
abbrev pub no_span : Span
no_span = record { place = 0; bytes = [] }

pub token_at : (text : List ℕ) (k : ℕ) → get_or (tokens text) k [] ≡ (get_or (spans_of text) k no_span).bytes
unfolding tokens
token_at text k = get_or-map (λ (s : Span). s.bytes) (spans_of text) k no_span

pub place_at : (text : List ℕ) (k : ℕ) → get_or (places text) k 0 ≡ (get_or (spans_of text) k no_span).place
unfolding places
place_at text k = get_or-map (λ (s : Span). s.place) (spans_of text) k no_span

-- A token is what stands at its place in the text.
pub record Stands (text : List ℕ) (s : Span) : Type 0 where
  pub below : s.place < length text
  pub is : s.bytes ≡ take (width (drop s.place text)) (drop s.place text)

module _ (text : List ℕ) (r : ℕ → List ℕ → List Span) (i : ℕ)
    (rest : (p k : ℕ) → k < length (r p (drop p text)) → Stands text (get_or (r p (drop p text)) k no_span)) where
  cut_stands : (k : ℕ) (l : List ℕ) → l ≡ drop i text → k < length (cut r i l) → Stands text (get_or (cut r i l) k no_span)
  cut_stands k [] e h = let z : ⊥ = omega arith in absurd z
  cut_stands zero (b ∷ bs) e h = record {
    below = omega (arith, ap length e ∙ length-drop i text);
    is = ap (λ (l : List ℕ). take (width l) l) e;
  }
  cut_stands (suc k) (b ∷ bs) e h =
      let w = width (b ∷ bs) in
      let q : drop w (b ∷ bs) ≡ drop (i + w) text = ap (λ (l : List ℕ). drop w l) e ∙ drop-drop w i text in
      subst (λ (m : List ℕ). k < length (r (i + w) m) → Stands text (get_or (r (i + w) m) k no_span)) (sym q) (rest (i + w) k) (omega arith)

spans_stand : (text : List ℕ) (f at k : ℕ) → k < length (spans f at (drop at text)) → Stands text (get_or (spans f at (drop at text)) k no_span)
unfolding spans
spans_stand text zero at k h = let z : ⊥ = omega arith in absurd z
spans_stand text (suc f) at k h =
    cut_stands text (λ at bs. spans f at bs) (at + blanks (drop at text)) (λ p k h. spans_stand text f p k h) k
    (drop (blanks (drop at text)) (drop at text)) (drop-drop (blanks (drop at text)) at text) h

pub stands : (text : List ℕ) (k : ℕ) → k < length (tokens text) → Stands text (get_or (spans_of text) k no_span)
unfolding spans_of
stands text k h = spans_stand text (length text) 0 k (omega (arith, tokens_length text))

pub places_below : (text : List ℕ) (k : ℕ) → k < length (tokens text) → get_or (places text) k 0 < length text
places_below text k h = rw (place_at text k) (stands text k h).below

-- A token whose first byte is a word's is the word that starts at its place.
pub first_of : (l : List ℕ) → get_or (take (width l) l) 0 0 ≡ get_or l 0 0
unfolding width
first_of [] = refl
first_of (b ∷ bs) = get_or-take (width (b ∷ bs)) (b ∷ bs) 0 0 (width_some (b ∷ bs) (omega arith))

width_worded : (l : List ℕ) → worded (get_or l 0 0) ≡ true → width l ≡ front worded l
unfolding width front
width_worded [] h = refl
width_worded (b ∷ bs) h = rw h

pub whole_word : (text : List ℕ) (s : Span) → Stands text s → worded (get_or s.bytes 0 0) ≡ true → word_at text s.place ≡ s.bytes
whole_word text s t h =
    let d = drop s.place text in
    let w = ap (λ (l : List ℕ). worded (get_or l 0 0)) t.is ∙ ap worded (first_of d) in
    sym (t.is ∙ ap (λ (n : ℕ). take n d) (width_worded d (sym w ∙ h)))
