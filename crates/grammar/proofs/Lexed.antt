-- Tokens that can be written, and of which no two that stand side by side are words, are the tokens of what is written.
use mathlib.Core.Path.{◌≡◌, refl, ◌∙◌, ap}
use mathlib.Core.Logic.{◌⊎◌, inl, inr, ⊎_elim}
use mathlib.Core.Bool.{Bool, true, false, not, ◌||◌, false≢true}
use mathlib.Core.List.{List, [], ◌∷◌, ◌++◌, map, flatten}
use Prim.Native.Nat.{ℕ, zero, suc, ◌+◌, ◌≤◌}
use native.Mathlib.Omega.{arith}
use lib.ListN.{length, get_or, length-append}
use lib.Seq.{take-append_seam, drop-append_seam}
use Rattle.diagram.specs.Tree.{Name}
use Rattle.base.proofs.Truth.{and_l, and_r, and_i, by_cases, not_e, clash, or_e}
use Rattle.tokens.specs.Classes.{worded}
use Rattle.tokens.specs.Remarks.{stretch, blanks}
use Rattle.tokens.specs.Words.{front, every}
use Rattle.tokens.specs.Spans.{Span, width, cut, spans, spans_of}
use Rattle.tokens.specs.Token.{Token, token_of, text_tokens, bytes_of, sound}
use Rattle.tokens.proofs.Remarks.{worded_unbroken, none_skipped}
use Rattle.tokens.proofs.Tokens.{token}
use Rattle.grammar.proofs.Spelled.{wordy, writable, spelled}
use Rattle.grammar.specs.Printed.{render}

-- The first token, if there is one, is no word.
abbrev pub clear : List Token → Bool
clear [] = true
clear (t ∷ ts) = not (wordy t)

-- Tokens that can be written and read again: no two words stand side by side.
pub data Sound (words : List Name) : List Token → Type 0 where
  none : Sound words []
  one : {t : Token} {ts : List Token} → writable words t ≡ true → (not (wordy t) || clear ts) ≡ true → Sound words ts → Sound words (t ∷ ts)

front_stops : (t : ℕ → Bool) (w bs : List ℕ) → every t w ≡ true → front t bs ≡ 0 → front t (w ++ bs) ≡ length w
unfolding front
front_stops t [] bs p q = q
front_stops t (x ∷ w) bs p q = rw (and_l (t x) (every t w) p, front_stops t w bs (and_r (t x) (every t w) p) q)

token_blanks : (w r : List ℕ) → token w ≡ true → blanks (w ++ r) ≡ 0
token_blanks [] r p = absurd (false≢true p)
token_blanks (b ∷ []) r p = none_skipped b r p
token_blanks (b ∷ c ∷ w) r p = none_skipped b (c ∷ w ++ r) (worded_unbroken b (and_l (worded b) (every worded (c ∷ w)) p))

-- A token's bytes, before what does not go on with its word.
token_width : (w r : List ℕ) → token w ≡ true → (worded (get_or w 0 0) ≡ false) ⊎ (front worded r ≡ 0) → width (w ++ r) ≡ length w
unfolding width
token_width [] r p h = absurd (false≢true p)
token_width (b ∷ []) r p (inl h) = rw h
token_width (b ∷ []) r p (inr h) = by_cases (worded b) (λ e. rw e (front_stops worded (b ∷ []) r (and_i e refl) h)) (λ e. rw e)
token_width (b ∷ c ∷ w) r p (inl h) = absurd (clash (and_l (worded b) (every worded (c ∷ w)) p) h)
token_width (b ∷ c ∷ w) r p (inr h) = rw (and_l (worded b) (every worded (c ∷ w)) p) (front_stops worded (b ∷ c ∷ w) r p h)

cut_token : (rest : ℕ → List ℕ → List Span) (at : ℕ) (w r : List ℕ) → token w ≡ true → width (w ++ r) ≡ length w
    → cut rest at (w ++ r) ≡ record { place = at; bytes = w } ∷ rest (at + length w) r
cut_token rest at [] r p e = absurd (false≢true p)
cut_token rest at (b ∷ w) r p e = rw (e, take-append_seam (b ∷ w) r, drop-append_seam (b ∷ w) r)

spans_token : (f at : ℕ) (w r : List ℕ) → token w ≡ true → width (w ++ r) ≡ length w
    → spans (suc f) at (w ++ r) ≡ record { place = at + 0; bytes = w } ∷ spans f (at + 0 + length w) r
unfolding spans
spans_token f at w r p e = rw (token_blanks w r p) (cut_token (λ at bs. spans f at bs) (at + 0) w r p e)

spans_empty : (f at : ℕ) → spans f at [] ≡ []
unfolding spans stretch
spans_empty zero at = refl
spans_empty (suc f) at = refl

token_some : (w : List ℕ) → token w ≡ true → 1 ≤ length w
token_some [] p = absurd (false≢true p)
token_some (b ∷ w) p = omega arith

token_stops : (w r : List ℕ) → token w ≡ true → worded (get_or w 0 0) ≡ false → front worded (w ++ r) ≡ 0
unfolding front
token_stops [] r p h = absurd (false≢true p)
token_stops (b ∷ w) r p h = rw h

module _ (words : List Name) (fine : sound words ≡ true) where
  abbrev pub pieces : ℕ → ℕ → List ℕ → List Token
  pieces f at bs = map (λ (s : Span). token_of words s.bytes) (spans f at bs)

  -- What is written starts as its first token does.
  clear_stops : {ts : List Token} → Sound words ts → clear ts ≡ true → front worded (render words ts) ≡ 0
  unfolding flatten front
  clear_stops none q = refl
  clear_stops (one {t} {ts} k a s) q =
      let w = spelled words fine t k in token_stops (bytes_of words t) (render words ts) w.taken (w.first ∙ not_e (wordy t) q)

  lexed_from : {ts : List Token} → Sound words ts → (f at : ℕ) → length (render words ts) ≤ f → pieces f at (render words ts) ≡ ts
  unfolding flatten
  lexed_from none f at h = ap (map (λ (s : Span). token_of words s.bytes)) (spans_empty f at)
  lexed_from (one {t} {ts} k a s) zero at h =
      let w = bytes_of words t in
      let z : ⊥ = omega (arith, length-append w (render words ts), token_some w (spelled words fine t k).taken) in absurd z
  lexed_from (one {t} {ts} k a s) (suc f) at h =
      let w = bytes_of words t in
      let r = render words ts in
      let y = spelled words fine t k in
      let e = token_width w r y.taken (⊎_elim (λ (q : not (wordy t) ≡ true). inl (y.first ∙ not_e (wordy t) q)) (λ q. inr (clear_stops s q)) (or_e (not (wordy t)) (clear ts) a)) in
      rw (spans_token f at w r y.taken e, y.back, lexed_from s f (at + 0 + length w) (omega (arith, length-append w r, token_some w y.taken)))

  pub lexed : (ts : List Token) → Sound words ts → text_tokens words (render words ts) ≡ ts
  unfolding text_tokens spans_of
  lexed ts s = lexed_from s (length (render words ts)) 0 (omega arith)
