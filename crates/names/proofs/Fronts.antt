-- The token at the front of the rest of a text, by the place where it stands. Assumes nothing.
use mathlib.Core.Path.{◌≡◌, refl, sym, ap, ◌∙◌}
use mathlib.Core.Bool.{Bool, true, false, ◌&&◌, not, false≢true}
use mathlib.Core.List.{List, ◌∷◌, map, cons≢nil, head-eq_of_cons-eq, tail-eq_of_cons-eq}
use Prim.Native.Nat.{ℕ, suc, ◌+◌, ◌-◌, ◌<◌}
use native.Mathlib.Nat.{add-zero}
use native.Mathlib.Omega.{arith}
use lib.Dec.{ltb}
use lib.ListN.{length, get_or, take, drop}
use lib.Seq.{drop-cons, get_or-drop, length-take-le}
use borrow.Author.Tests.{ltb-true, ltb-false}
use Rattle.base.proofs.Truth.{by_cases, and_l}
use Rattle.diagram.specs.Tree.{Name}
use Rattle.tokens.specs.Classes.{class_of, worded}
use Rattle.tokens.specs.Remarks.{blanks}
use Rattle.tokens.specs.Words.{keywords, word_at, short, every, lettered}
use Rattle.tokens.specs.Spans.{Span, width}
use Rattle.tokens.specs.Token.{comma, Token, sign, name, named, keyed, token_of, bytes_of}
use Rattle.tokens.specs.Rest.{rest}
use Rattle.tokens.proofs.Between.{in_range}
use Rattle.tokens.proofs.Remarks.{token_stands}
use Rattle.tokens.proofs.Cut.{cut_is_token}
use Rattle.tokens.proofs.Steps.{rest_end, rest_skip, rest_token, width_le}
use Rattle.tokens.proofs.Spans.{first_of, whole_word}
use Rattle.tokens.proofs.Tokens.{token, written, keywords_sound}
use Rattle.tokens.proofs.WordKinds.{lettered_first}
use Rattle.grammar.specs.Tokens.{bit}
use Rattle.grammar.proofs.Spelled.{wordy, writable, read_spelled}
use Rattle.walked.specs.Rows.{tokens_from, past_word}

abbrev rests : List Span → List Token
rests ss = map (λ (s : Span). token_of keywords s.bytes) ss

-- From a position on the first token is t, and past the blanks it stands at i.
pub record Front (text : List ℕ) (at i : ℕ) (t : Token) (ts : List Token) : Type 0 where
  pub gap : i ≡ at + blanks (drop at text)
  pub tokens : tokens_from text at ≡ t ∷ ts

module _ {text : List ℕ} {at i : ℕ} {t : Token} {ts : List Token} (f : Front text at i t ts) where
  skip : (blanks (drop i text) ≡ 0) × (rest text at ≡ rest text i)
  skip = rest_skip text at i f.gap

  pub inside : i < length text
  inside =
      by_cases (ltb i (length text)) (ltb-true i (length text)) (λ e.
      absurd (cons≢nil (sym f.tokens ∙ ap rests (skip.1 ∙ rest_end text i (ltb-false i (length text) e)))))

  abbrev its : Name
  its = take (width (drop i text)) (drop i text)

  abbrev end : ℕ
  end = i + width (drop i text)

  stands : rest text at ≡ record { place = i; bytes = its } ∷ rest text end
  stands =
      let n : end - i ≡ width (drop i text) = omega arith in
      skip.1 ∙ (rw n at (rest_token text i end inside skip.0 refl))

  is : token_of keywords its ≡ t
  is = head-eq_of_cons-eq (sym (ap rests stands) ∙ f.tokens)

  later : tokens_from text end ≡ ts
  later = tail-eq_of_cons-eq (sym (ap rests stands) ∙ f.tokens)

  first : get_or its 0 0 ≡ get_or text i 0
  first = first_of (drop i text) ∙ get_or-drop i text 0 0 ∙ ap (λ (k : ℕ). get_or text k 0) (add-zero i)

  whole : token its ≡ true
  whole =
      let b = get_or text i 0 in
      let l = drop (suc i) text in
      rw (drop-cons text i 0 inside) (cut_is_token b l (token_stands b l (rw (drop-cons text i 0 inside) at skip.0)))

  its_class : writable keywords t ≡ true → worded (get_or text i 0) ≡ wordy t
  its_class w = sym (ap worded first) ∙ (read_spelled keywords keywords_sound its whole (rw is w)).first ∙ ap wordy is

  spelled : writable keywords t ≡ true → its ≡ bytes_of keywords t
  spelled w = sym (ap (bytes_of keywords) (sym is) ∙ written keywords its whole (λ e. false≢true (rw (sym is ∙ e) at w)))

-- A comma is one byte.
pub past_comma : {text : List ℕ} {at i : ℕ} {ts : List Token} → Front text at i (sign comma) ts → tokens_from text (i + 1) ≡ ts
unfolding width
past_comma {text} {at} {i} f =
    let one : width (drop i text) ≡ 1 = rw (drop-cons text i 0 (inside f), its_class f refl) in
    rw one at (later f)

-- A name starts with a letter and is the word that starts there.
module _ {text : List ℕ} {at i : ℕ} {n : Name} {ts : List Token} (f : Front text at i (name n) ts) (N : named keywords n ≡ true) where
  its_name : its f ≡ n
  its_name = spelled f N

  pub name_word : word_at text i ≡ n
  name_word = whole_word text (record { place = i; bytes = its f }) (record { below = inside f; is = refl }) (ap worded (first f) ∙ its_class f N) ∙ its_name

  pub name_letter : class_of (get_or text i 0) ≡ 5
  unfolding named
  name_letter =
      let l = and_l (lettered n) (every worded n) (and_l (lettered n && every worded n) (short n && not (keyed keywords n)) N) in
      let r = in_range 5 5 (class_of (get_or n 0 0)) (sym (lettered_first n) ∙ l) in
      rw (← first f, its_name) (omega arith)

  pub past_name : tokens_from text (past_word text i) ≡ ts
  past_name =
      let l = length-take-le (width (drop i text)) (drop i text) (width_le (drop i text)) in
      let e : past_word text i ≡ end f = ap (λ (w : Name). i + length w) (name_word ∙ sym its_name) ∙ ap (λ (k : ℕ). i + k) l in
      rw e (later f)

-- A numeral does not.
pub bit_digit : {text : List ℕ} {at i : ℕ} (sw : Bool) {ts : List Token} → Front text at i (bit sw) ts → class_of (get_or text i 0) ≡ 6
unfolding class_of
bit_digit true f = rw (← first f, spelled f refl)
bit_digit false f = rw (← first f, spelled f refl)
