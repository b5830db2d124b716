-- Where the walk stands in a text: the keyword and the name of a node by its number, the word that the name is, and the tokens past it.
use mathlib.Core.Path.{◌≡◌, refl, sym, ap, ◌∙◌}
use mathlib.Core.Bool.{Bool, true, false, cond, false≢true}
use mathlib.Core.List.{List, [], ◌∷◌, map, nil≢cons, head-eq_of_cons-eq, tail-eq_of_cons-eq}
use Prim.Native.Nat.{ℕ, zero, suc, ◌+◌, ◌-◌, ◌<◌}
use native.Mathlib.Omega.{arith}
use lib.Dec.{eqb, ltb}
use lib.ListN.{length, get_or, take, drop, length-drop, length-map}
use lib.Seq.{drop-cons, length-take-le}
use borrow.Author.Tests.{ltb-true, ltb-false}
use Rattle.diagram.specs.Tree.{Name}
use Rattle.base.proofs.Lists.{drop_next}
use Rattle.base.proofs.Truth.{by_cases}
use Rattle.tokens.specs.Classes.{class_of, worded}
use Rattle.tokens.specs.Remarks.{blanks}
use Rattle.tokens.specs.Words.{keywords, place_in, numerals, lettered, word_at}
use Rattle.tokens.specs.Spans.{Span, width, spans_of, places}
use Rattle.tokens.specs.Token.{opening, closing, comma, colon, Keyword, Token, sign, key, name, numeral, other, word_place, keyed, named, class_token, key_token, numeral_token, word_token, token_of, text_tokens}
use Rattle.tokens.specs.Rest.{rest}
use Rattle.tokens.proofs.Steps.{width_le, rest_start, rest_end, rest_skip, rest_token}
use Rattle.tokens.proofs.Spans.{no_span, tokens_length, place_at, stands, whole_word}
use Rattle.tokens.proofs.Tokens.{chosen}
use Rattle.grammar.specs.Machine.{is_key, is_name}
use Rattle.grammar.specs.Tokens.{bit}
use Rattle.grammar.specs.Keys.{keys_from, keyword_at, name_at}
use Rattle.walked.specs.Walk.{spelled}
use Rattle.walked.specs.Rows.{tokens_from, past_word}

-- Only a word is a name, and it is the name of itself.
class_unnamed : (c : ℕ) → is_name (class_token c) ≡ false
class_unnamed c =
    no (eqb c 1) (sign opening) _ refl (no (eqb c 2) (sign closing) _ refl (no (eqb c 3) (sign comma) _ refl (no (eqb c 4) (sign colon) other refl refl)))
  where
    no : (b : Bool) (t u : Token) → is_name t ≡ false → is_name u ≡ false → is_name (cond b t u) ≡ false
    no b t u p q = chosen b t u (λ (t : Token). is_name t ≡ false) (λ e. p) (λ e. q)

word_named : (w : Name) → is_name (word_token keywords w) ≡ true → spelled (word_token keywords w) ≡ w
unfolding word_token
word_named w =
    at (keyed keywords w) (key_token (word_place keywords w)) _ (λ h. absurd (false≢true h))
    (at (lettered w) (cond (named keywords w) (name w) other) (numeral_token (place_in numerals 0 17 w))
    (at (named keywords w) (name w) other (λ h. refl) (λ h. absurd (false≢true h)))
    (at (ltb (place_in numerals 0 17 w) 17) (numeral (place_in numerals 0 17 w)) other (λ h. absurd (false≢true h)) (λ h. absurd (false≢true h))))
  where
    at : (b : Bool) (t u : Token) → (is_name t ≡ true → spelled t ≡ w) → (is_name u ≡ true → spelled u ≡ w) → is_name (cond b t u) ≡ true
        → spelled (cond b t u) ≡ w
    at b t u p q = chosen b t u (λ (t : Token). is_name t ≡ true → spelled t ≡ w) (λ e. p) (λ e. q)

pub name_bytes : (b w : Name) → token_of keywords b ≡ name w → (b ≡ w) × (worded (get_or b 0 0) ≡ true)
unfolding token_of
name_bytes b w e =
    by_cases (worded (get_or b 0 0))
    (λ p. let q : word_token keywords b ≡ name w = rw p at e in (sym (word_named b (ap is_name q)) ∙ ap spelled q, p))
    (λ p. let q : class_token (class_of (get_or b 0 0)) ≡ name w = rw p at e in absurd (false≢true (sym (class_unnamed (class_of (get_or b 0 0))) ∙ ap is_name q)))

-- What stands past the first of some entries.
module _ {A : Type 0} where
  here_at : (j : ℕ) (l : List A) (x d : A) (xs : List A) → drop j l ≡ x ∷ xs → get_or l j d ≡ x
  here_at zero [] x d xs q = absurd (nil≢cons q)
  here_at zero (y ∷ l) x d xs q = head-eq_of_cons-eq q
  here_at (suc j) [] x d xs q = absurd (nil≢cons q)
  here_at (suc j) (y ∷ l) x d xs q = here_at j l x d xs q

abbrev tokens_of : List Span → List Token
tokens_of ss = map (λ (s : Span). token_of keywords s.bytes) ss

module _ (text : List ℕ) where
  abbrev pub start_of : ℕ → ℕ
  start_of j = get_or (places text) j 0

  -- The position past a token.
  past : Span → ℕ
  past s = s.place + width (drop s.place text)

  after_first : (at : ℕ) (s : Span) (ss : List Span) → rest text at ≡ s ∷ ss → ss ≡ rest text (past s)
  unfolding past
  after_first at s ss q =
      let i = at + blanks (drop at text) in
      let f = rest_skip text at i refl in
      by_cases (ltb i (length text))
      (λ l.
      let e = i + width (drop i text) in
      let g : record { place = i; bytes = take (e - i) (drop i text) } ∷ rest text e ≡ s ∷ ss =
      sym (rest_token text i e (ltb-true i (length text) l) f.0 refl) ∙ (sym f.1 ∙ q) in
      sym (tail-eq_of_cons-eq g) ∙ ap (λ (s : Span). rest text (s.place + width (drop s.place text))) (head-eq_of_cons-eq g))
      (λ l. absurd (nil≢cons (sym (rest_end text i (ltb-false i (length text) l)) ∙ (sym f.1 ∙ q))))

  after_any : (j at : ℕ) (s : Span) (ss l : List Span) → rest text at ≡ l → drop j l ≡ s ∷ ss → ss ≡ rest text (past s)
  after_any zero at s ss l q h = after_first at s ss (q ∙ h)
  after_any (suc j) at s ss [] q h = absurd (nil≢cons h)
  after_any (suc j) at s ss (r ∷ rs) q h = after_any j (past r) s ss rs (sym (after_first at r rs q)) h

  map_drop : (j : ℕ) (l : List Span) → tokens_of (drop j l) ≡ drop j (tokens_of l)
  map_drop zero l = refl
  map_drop (suc j) [] = refl
  map_drop (suc j) (s ∷ ss) = map_drop j ss

  -- A name that is the token j.
  module _ (j : ℕ) (w : Name) (ts : List Token) (q : drop j (text_tokens keywords text) ≡ name w ∷ ts) where
    spans_there : tokens_of (drop j (spans_of text)) ≡ name w ∷ ts
    unfolding text_tokens
    spans_there = map_drop j (spans_of text) ∙ q

    inside : j < length (spans_of text)
    inside =
        let l = length-drop j (spans_of text) in
        let k = sym (length-map (drop j (spans_of text)) (λ (s : Span). token_of keywords s.bytes)) ∙ ap length spans_there in
        omega arith

    span : Span
    span = get_or (spans_of text) j no_span

    split : drop j (spans_of text) ≡ span ∷ drop (suc j) (spans_of text)
    unfolding span
    split = drop-cons (spans_of text) j no_span inside

    both : token_of keywords span.bytes ∷ tokens_of (drop (suc j) (spans_of text)) ≡ name w ∷ ts
    both = sym (ap tokens_of split) ∙ spans_there

    bytes_are : (span.bytes ≡ w) × (worded (get_or span.bytes 0 0) ≡ true)
    bytes_are = name_bytes span.bytes w (head-eq_of_cons-eq both)

    pub word_there : word_at text (start_of j) ≡ w
    unfolding span
    word_there =
        rw (place_at text j) (whole_word text span (stands text j (rw (tokens_length text) inside)) bytes_are.1 ∙ bytes_are.0)

    wide : width (drop span.place text) ≡ length w
    unfolding span
    wide =
        let d = drop span.place text in
        sym (length-take-le (width d) d (width_le d))
        ∙ (ap length (sym (stands text j (rw (tokens_length text) inside)).is) ∙ ap length bytes_are.0)

    pub rest_there : tokens_from text (past_word text (start_of j)) ≡ ts
    unfolding span past
    rest_there =
        let a = after_any j 0 span (drop (suc j) (spans_of text)) (spans_of text) (sym (rest_start text)) split in
        rw (word_there, place_at text j, ← wide, ← a) (tail-eq_of_cons-eq both)

  -- The walk has come to the token k, before which n nodes stand; the tokens ts are left.
  pub record Here (n k : ℕ) (ts : List Token) : Type 0 where
    pub left : drop k (text_tokens keywords text) ≡ ts
    pub keys : drop n (keys_from 0 (text_tokens keywords text)) ≡ keys_from k ts

  pub at_start : Here 0 0 (text_tokens keywords text)
  at_start = record { left = refl; keys = refl }

  -- Past a keyword, and past any other token.
  pub past_key : {n k : ℕ} {w : Keyword} {ts : List Token} → Here n k (key w ∷ ts) → Here (suc n) (suc k) ts
  unfolding keys_from
  past_key {n} {k} {w} {ts} h = record {
    left = drop_next (text_tokens keywords text) ts k (key w) h.left;
    keys = drop_next (keys_from 0 (text_tokens keywords text)) (keys_from (suc k) ts) n k h.keys;
  }

  pub past_token : {n k : ℕ} {t : Token} {ts : List Token} → is_key t ≡ false → Here n k (t ∷ ts) → Here n (suc k) ts
  unfolding keys_from
  past_token {n} {k} {t} {ts} q h = record {
    left = drop_next (text_tokens keywords text) ts k t h.left;
    keys = rw q at h.keys;
  }

  pub past_bit : {n k : ℕ} (b : Bool) {ts : List Token} → Here n k (bit b ∷ ts) → Here n (suc k) ts
  past_bit false h = past_token refl h
  past_bit true h = past_token refl h

  -- The node whose keyword the walk has come to.
  pub key_there : {n k : ℕ} {w : Keyword} {ts : List Token} → Here n k (key w ∷ ts) → keyword_at text n ≡ start_of k
  unfolding keyword_at keys_from
  key_there {n} {k} {w} {ts} h = ap start_of (here_at n (keys_from 0 (text_tokens keywords text)) k 0 (keys_from (suc k) ts) h.keys)

  pub name_there : {n k : ℕ} {w : Keyword} {ts : List Token} → Here n k (key w ∷ ts) → name_at text n ≡ start_of (suc (suc k))
  unfolding name_at keys_from
  name_there {n} {k} {w} {ts} h =
      let q = here_at n (keys_from 0 (text_tokens keywords text)) k 0 (keys_from (suc k) ts) h.keys in
      ap start_of (omega arith)
