-- The token at a place or after it, by what the lexer finds there: nothing, a sign by its class alone, or a word by its end. Assumes nothing.
use mathlib.Core.Path.{◌≡◌, refl, sym, ap, ◌∙◌}
use mathlib.Core.Bool.{Bool, true, false, cond}
use mathlib.Core.List.{List, [], ◌∷◌}
use Prim.Native.Nat.{ℕ, zero, suc, ◌+◌, ◌-◌, ◌≤◌, ◌<◌}
use native.Mathlib.Omega.{arith}
use lib.ListN.{length, take, drop, get_or, length-drop}
use lib.Seq.{drop-cons}
use Rattle.std.specs.Prelude.{Option, Some, None}
use Rattle.base.proofs.Truth.{by_cases, is_false}
use Rattle.tokens.specs.Classes.{class_of, worded}
use Rattle.tokens.specs.Remarks.{blanks}
use Rattle.tokens.specs.Words.{front, keywords, every}
use Rattle.tokens.specs.Token.{Sign, sign_class, is_sign, word_token as token_of_word}
use Rattle.tokens.specs.Kinds.{kind, shown, token_kind}
use Rattle.tokens.specs.declared.TokenKind.{TokenKind}
use Rattle.tokens.specs.Spans.{width}
use Rattle.tokens.specs.Rest.{rest, Next}
use Rattle.tokens.specs.declared.Lexeme.{Lexeme}
use Rattle.tokens.proofs.Front.{front_le, front_more, front_every}
use Rattle.tokens.proofs.Between.{between_in, between_low, in_range}
use Rattle.tokens.proofs.Remarks.{token_stands}
use Rattle.tokens.proofs.Steps.{rest_end, rest_skip, rest_token}
use Rattle.tokens.proofs.WordKinds.{byte_kind, part_length, first_byte, no_sign}
use Rattle.tokens.proofs.Shown.{sign_shown, other_class}
use Rattle.lexer.proofs.Ways.{a_sign, a_word, ends_word, ends_sign, end_after}

module _ (text : List ℕ) (at i : ℕ) (I : i ≡ at + blanks (drop at text)) where
  pub no_token : length text ≤ i → Next text at (record { kind = None; start = length text; end = i })
  no_token h =
      let z = rest_end text i h in
      let y : rest text at ≡ [] = (rest_skip text at i I).1 ∙ z in
      record {
        its_kind = rw y;
        placed = rw y;
        after = rw y z;
        within = omega arith;
        ended = λ l. y;
        long = λ f. absurd (f refl);
        onward = λ f. absurd (f refl);
      }

  pub a_token : (e : ℕ) (c : Option TokenKind) → i < length text → e ≡ i + width (drop i text) → c ≡ token_kind (take (e - i) (drop i text))
      → Next text at (record { kind = c; start = i; end = e })
  a_token e c h E C =
      let s = rest_skip text at i I in
      let a = end_after text i e h E in
      let y : rest text at ≡ record { place = i; bytes = take (e - i) (drop i text) } ∷ rest text e = s.1 ∙ rest_token text i e h s.0 E in
      record {
        its_kind = rw y C;
        placed = rw y;
        after = rw y;
        within = omega arith;
        ended = λ l. absurd (omega arith);
        long = λ f. rw (y, part_length text i e a.1) (omega arith);
        onward = λ f. (omega arith, a.1);
      }

-- A byte at which no word stands is its own token; where one stands, its first byte has a word's class.
module _ (text : List ℕ) (i : ℕ) (h : i < length text) where
  first_front : (t : ℕ → Bool) (v : Bool) → t (get_or text i 0) ≡ v → front t (drop i text) ≡ cond v (suc (front t (drop (suc i) text))) 0
  unfolding front
  first_front t v e = rw (drop-cons text i 0 h, e)

  no_front : (t : ℕ → Bool) → front t (drop i text) ≤ 0 → t (get_or text i 0) ≡ false
  no_front t z = is_false (t (get_or text i 0)) (λ e. let q = first_front t true e in omega arith)

  some_front : (t : ℕ → Bool) → 0 < front t (drop i text) → t (get_or text i 0) ≡ true
  some_front t z = by_cases (t (get_or text i 0)) (λ e. e) (λ e. let q = first_front t false e in absurd (omega arith))

module _ (text : List ℕ) (at i : ℕ) (I : i ≡ at + blanks (drop at text)) (h : i < length text) (c : ℕ) (C : c ≡ class_of (get_or text i 0)) where
  -- By the end of the word that starts at i.
  module _ (e : ℕ) (E : e ≡ i + front worded (drop i text)) where
    pub sign_token : e ≤ i → Next text at (record { kind = byte_kind c; start = i; end = i + 1 })
    sign_token l =
        let w : worded (get_or text i 0) ≡ false = no_front text i h worded (omega arith) in
        a_token text at i I (i + 1) (byte_kind c) h (ends_sign text i e E h l)
        (a_sign (take (i + 1 - i) (drop i text)) (sym (first_byte text i (i + 1) (omega arith) (omega arith))) C (rw C w))

    pub word_token : (k : TokenKind) → i < e → e ≤ length text → (every worded (take (e - i) (drop i text)) ≡ true → k ≡ kind (token_of_word keywords (take (e - i) (drop i text))))
        → Next text at (record { kind = Some k; start = i; end = e })
    word_token k l r K =
        let w : worded (get_or text i 0) ≡ true = some_front text i h worded (omega arith) in
        let b = in_range 5 7 c (rw C w) in
        let n : e - i ≡ front worded (drop i text) = omega arith in
        let all : every worded (take (e - i) (drop i text)) ≡ true = rw n (front_every worded (drop i text)) in
        a_token text at i I e (Some k) h (ends_word text i e E l) (ap (λ (x : TokenKind). Some x) (K all) ∙ sym (a_word (take (e - i) (drop i text)) (sym (first_byte text i e r l)) C b.0 b.1))

  pub front_end : i + front worded (drop i text) ≤ length text
  front_end = let f = front_le worded (drop i text) in omega (arith, length-drop i text)

  -- A sign by its class alone.
  pub sign_here : c < 5 → Next text at (record { kind = byte_kind c; start = i; end = i + 1 })
  sign_here l =
      let w : worded (get_or text i 0) ≡ false = rw (← C) (between_low 5 7 c l) in
      let z : front worded (drop i text) ≡ 0 = first_front text i h worded false w in
      sign_token (i + front worded (drop i text)) refl (omega arith)

  -- Any other class is a word's, since nothing is skipped there. It ends where the rest of it ends.
  pub word_here : (e : ℕ) → 5 ≤ c → e ≡ i + 1 + front worded (drop (i + 1) text) → (e ≡ i + front worded (drop i text)) × (i < e) × (e ≤ length text)
  word_here e l E =
      let z = token_stands (get_or text i 0) (drop (suc i) text) (rw (drop-cons text i 0 h) at (rest_skip text at i I).0) in
      let u : c ≤ 7 = rw C (in_range 0 7 (class_of (get_or text i 0)) z).1 in
      let w : worded (get_or text i 0) ≡ true = rw (← C) (between_in 5 7 c l u) in
      let q = front_more worded text i h w in
      (E ∙ sym q, omega arith, omega (arith, front_end))

  -- Another class: another token.
  pub other_token : (s : Sign) → (c ≡ sign_class s → ⊥) → (t : Lexeme) × (Next text at t × (t.start ≡ i) × (is_sign s (shown t.kind) ≡ false))
  other_token s f = by (front worded (drop i text)) refl
    where
      by : (n : ℕ) → front worded (drop i text) ≡ n → (t : Lexeme) × (Next text at t × (t.start ≡ i) × (is_sign s (shown t.kind) ≡ false))
      by zero e =
          (record { kind = byte_kind c; start = i; end = i + 1 }, (sign_token (i + front worded (drop i text)) refl (omega arith), refl, other_class s c f))
      by (suc n) e =
          let k = kind (token_of_word keywords (take (i + suc n - i) (drop i text))) in
          let q : Next text at (record { kind = Some k; start = i; end = i + suc n }) =
          word_token (i + suc n) (ap (λ (x : ℕ). i + x) (sym e)) k (omega arith) (omega (arith, front_end)) (λ a. refl) in
          (record { kind = Some k; start = i; end = i + suc n }, (q, refl, sign_shown s _ ∙ no_sign (take (i + suc n - i) (drop i text)) s))
