-- A text without its blanks is its tokens, one after the other; and what is known of a text all of whose tokens can be written.
use mathlib.Core.Path.{◌≡◌, refl, sym, ◌∙◌, ap, ap₂}
use mathlib.Core.Bool.{Bool, true, false, not, ◌&&◌, false≢true}
use mathlib.Core.List.{List, [], ◌∷◌, ◌++◌, map, flatten}
use Prim.Native.Nat.{ℕ, zero, suc, ◌+◌, ◌≤◌, ◌<◌}
use native.Mathlib.Omega.{arith}
use lib.ListN.{length, get_or, take, drop, length-drop, length-map, take-append-drop}
use Rattle.diagram.specs.Tree.{Name, Flow}
use Rattle.base.proofs.Truth.{and_l, and_r, and_i, by_cases, not_i, not_e}
use Rattle.tokens.specs.Classes.{worded, unbroken, foreign}
use Rattle.tokens.specs.Remarks.{opened, skipped, stretch, blanks}
use Rattle.tokens.specs.Words.{keywords, short, every}
use Rattle.tokens.specs.Spans.{Span, width, cut, spans, spans_of, tokens}
use Rattle.tokens.specs.Token.{Token, token_of, text_tokens, sound}
use Rattle.tokens.specs.Scanned.{foreign_in, first_foreign}
use Rattle.tokens.proofs.Stretch.{stretch_nil, stretch_cons}
use Rattle.tokens.proofs.Remarks.{worded_unbroken, unskipped, ends, blanks_past, token_stands}
use Rattle.tokens.proofs.Steps.{width_some}
use Rattle.tokens.proofs.Tokens.{token, all_tokens, written, keywords_sound}
use Rattle.tokens.proofs.Cut.{cut_is_token, all_lexed}
use Rattle.grammar.proofs.Spelled.{writable, read_spelled}
use Rattle.grammar.specs.Tokens.{flow_tokens}
use Rattle.grammar.specs.Derives.{Derives}
use Rattle.grammar.specs.Printed.{printed, unblanked, render}
use Rattle.grammar.proofs.Lexed.{Sound, none, one}
use Rattle.grammar.proofs.Rendered.{diagram_sound}

-- What is skipped before a byte makes no difference.
past_skipped : (o : Bool) (bs : List ℕ) → unblanked false (drop (stretch skipped o bs) bs) ≡ unblanked o bs
unfolding unblanked
past_skipped o [] = rw (stretch_nil skipped o)
past_skipped o (b ∷ bs) =
    rw (stretch_cons skipped o b bs)
    (by_cases (skipped o b) (λ e. rw e (past_skipped (opened o b) bs)) (λ e. rw e (rw (ends o b e))))

pub unblanked_front : (bs : List ℕ) → unblanked false (drop (blanks bs) bs) ≡ unblanked false bs
unblanked_front bs = past_skipped false bs

-- A byte of a token is kept.
pub kept : (b : ℕ) (bs : List ℕ) → unbroken b ≡ true → unblanked false (b ∷ bs) ≡ b ∷ unblanked false bs
unfolding unblanked
kept b bs u = rw (unskipped b u)

unblanked_words : (w r : List ℕ) → every worded w ≡ true → unblanked false (w ++ r) ≡ w ++ unblanked false r
unblanked_words [] r h = refl
unblanked_words (b ∷ w) r h =
    kept b (w ++ r) (worded_unbroken b (and_l (worded b) (every worded w) h))
    ∙ ap (λ (l : List ℕ). b ∷ l) (unblanked_words w r (and_r (worded b) (every worded w) h))

unblanked_token : (t r : List ℕ) → token t ≡ true → unblanked false (t ++ r) ≡ t ++ unblanked false r
unblanked_token [] r p = absurd (false≢true p)
unblanked_token (b ∷ []) r p = kept b r p
unblanked_token (b ∷ c ∷ w) r p = unblanked_words (b ∷ c ∷ w) r p

-- A token leaves less than there was.
cut_shortens : (b : ℕ) (bs : List ℕ) → length (drop (width (b ∷ bs)) (b ∷ bs)) ≤ length bs
cut_shortens b bs = omega (arith, width_some (b ∷ bs) (omega arith), length-drop (width (b ∷ bs)) (b ∷ bs))

cut_unblanked : (rest : ℕ → List ℕ → List Span) (f : ℕ)
    → ((at : ℕ) (bs : List ℕ) → length bs ≤ f → flatten (map (λ (s : Span). s.bytes) (rest at bs)) ≡ unblanked false bs)
    → (at : ℕ) (bs : List ℕ) → length bs ≤ suc f → blanks bs ≡ 0
    → flatten (map (λ (s : Span). s.bytes) (cut rest at bs)) ≡ unblanked false bs
unfolding flatten unblanked
cut_unblanked rest f h at [] l p = refl
cut_unblanked rest f h at (b ∷ bs) l p =
    let w = width (b ∷ bs) in
    let t = take w (b ∷ bs) in
    let r = drop w (b ∷ bs) in
    let small : length r ≤ f = let k = cut_shortens b bs in omega arith in
    ap (λ (x : List ℕ). t ++ x) (h (at + w) r small)
    ∙ (sym (unblanked_token t r (cut_is_token b bs (token_stands b bs p))) ∙ ap (unblanked false) (take-append-drop w (b ∷ bs)))

nothing_unblanked : (bs : List ℕ) → length bs ≤ zero → flatten {A = ℕ} [] ≡ unblanked false bs
unfolding flatten unblanked
nothing_unblanked [] l = refl
nothing_unblanked (b ∷ bs) l = let z : ⊥ = omega arith in absurd z

spans_unblanked : (f at : ℕ) (bs : List ℕ) → length bs ≤ f → flatten (map (λ (s : Span). s.bytes) (spans f at bs)) ≡ unblanked false bs
unfolding spans
spans_unblanked zero at bs l = nothing_unblanked bs l
spans_unblanked (suc f) at bs l =
    cut_unblanked (λ at bs. spans f at bs) f (λ at bs k. spans_unblanked f at bs k) (at + blanks bs) (drop (blanks bs) bs)
    (rw (length-drop (blanks bs) bs) (omega arith)) (blanks_past bs)
    ∙ unblanked_front bs

unblanked_bytes : (text : List ℕ) → flatten (tokens text) ≡ unblanked false text
unfolding tokens spans_of
unblanked_bytes text = spans_unblanked (length text) 0 text (omega arith)

pub without_blanks : (text : List ℕ) → printed text ≡ unblanked false text
unfolding printed
without_blanks text = unblanked_bytes text

-- The tokens of a text by their bytes.
pub by_bytes : (words : List Name) (text : List ℕ) → text_tokens words text ≡ map (token_of words) (tokens text)
unfolding text_tokens tokens
by_bytes words text = go (spans_of text)
  where
    go : (ss : List Span) → map (λ (s : Span). token_of words s.bytes) ss ≡ map (token_of words) (map (λ (s : Span). s.bytes) ss)
    go [] = refl
    go (s ∷ ss) = ap (λ (ts : List Token). token_of words s.bytes ∷ ts) (go ss)

pub tokens_many : (words : List Name) (text : List ℕ) → length (text_tokens words text) ≡ length (tokens text)
tokens_many words text = ap length (by_bytes words text) ∙ length-map (tokens text) (token_of words)

-- Each of these tokens can be written.
abbrev pub all_writable : List Name → List Token → Bool
all_writable words [] = true
all_writable words (t ∷ ts) = writable words t && all_writable words ts

pub sound_writable : (words : List Name) {ts : List Token} → Sound words ts → all_writable words ts ≡ true
sound_writable words none = refl
sound_writable words (one k a s) = and_i k (sound_writable words s)

-- None of these tokens is a foreign byte: no foreign byte is found along them.
abbrev none_foreign : List Name → Bool
none_foreign [] = true
none_foreign (w ∷ ws) = not (foreign (get_or w 0 0)) && none_foreign ws

no_foreign : (ss : List Span) (n : ℕ) → none_foreign (map (λ (s : Span). s.bytes) ss) ≡ true → foreign_in ss n ≡ n
unfolding foreign_in
no_foreign [] n h = refl
no_foreign (s ∷ ss) n h =
    let f = foreign (get_or s.bytes 0 0) in
    let l = none_foreign (map (λ (s : Span). s.bytes) ss) in
    rw (not_e f (and_l (not f) l h)) (no_foreign ss n (and_r (not f) l h))

-- Bytes that are read as tokens which can be written: what is written for those, at most 24 of them, none foreign.
pub record Read (words : List Name) (ws : List Name) : Type 0 where
  pub again : render words (map (token_of words) ws) ≡ flatten ws
  pub known : none_foreign ws ≡ true
  pub small : (j : ℕ) → j < length ws → short (get_or ws j []) ≡ true

module _ (words : List Name) (fine : sound words ≡ true) where
  all_read : (ws : List Name) → all_tokens ws ≡ true → all_writable words (map (token_of words) ws) ≡ true → Read words ws
  unfolding flatten
  all_read [] h k = record { again = refl; known = refl; small = λ j l. let z : ⊥ = omega arith in absurd z }
  all_read (w ∷ ws) h k =
      let t = and_l (token w) (all_tokens ws) h in
      let o = and_l (writable words (token_of words w)) (all_writable words (map (token_of words) ws)) k in
      let r = all_read ws (and_r (token w) (all_tokens ws) h) (and_r (writable words (token_of words w)) (all_writable words (map (token_of words) ws)) k) in
      let s = read_spelled words fine w t o in
      record {
        again = ap₂ (λ (a b : List ℕ). a ++ b) (written words w t (λ e. false≢true (rw e at o))) r.again;
        known = and_i (not_i s.known) r.known;
        small = each s.small r.small;
      }
    where
      each : short w ≡ true → ((j : ℕ) → j < length ws → short (get_or ws j []) ≡ true) → (j : ℕ) → j < length (w ∷ ws) → short (get_or (w ∷ ws) j []) ≡ true
      each a f zero l = a
      each a f (suc j) l = f j (omega arith)

  -- A text all of whose tokens can be written: it prints as they are written, has no foreign byte and no long word.
  module _ (text : List ℕ) (h : all_writable words (text_tokens words text) ≡ true) where
    pub text_read : Read words (tokens text)
    text_read = all_read (tokens text) (all_lexed text) (rw (by_bytes words text) at h)

    pub printed_tokens : render words (text_tokens words text) ≡ printed text
    unfolding printed
    printed_tokens = ap (render words) (by_bytes words text) ∙ text_read.again

    pub proper_usual : first_foreign text ≡ length text
    unfolding tokens
    proper_usual = no_foreign (spans_of text) (length text) text_read.known

-- A text that some diagram derives by document 01's words is refused for none of its bytes and words, and prints as the diagram's tokens are written.
module _ (text : List ℕ) (d : Flow) (g : Derives keywords (text_tokens keywords text) d) where
  derived_writable : all_writable keywords (text_tokens keywords text) ≡ true
  derived_writable = rw g.tokens (sound_writable keywords (diagram_sound keywords d g.proper))

  pub derived_usual : first_foreign text ≡ length text
  derived_usual = proper_usual keywords keywords_sound text derived_writable

  pub derived_short : (j : ℕ) → j < length (tokens text) → short (get_or (tokens text) j []) ≡ true
  derived_short = (text_read keywords keywords_sound text derived_writable).small

  pub derived_printed : printed text ≡ render keywords (flow_tokens d [])
  derived_printed = sym (printed_tokens keywords keywords_sound text derived_writable) ∙ ap (render keywords) g.tokens
