-- The kinds of words: which words are no keyword and no numeral, and the numerals by their digits.
use mathlib.Core.Path.{◌≡◌, refl, ap, ◌∙◌}
use mathlib.Core.Bool.{Bool, true, false, ◌&&◌, cond}
use mathlib.Core.List.{List, [], ◌∷◌}
use Prim.Native.Nat.{ℕ, zero, suc, ◌+◌, ◌-◌, ◌≤◌, ◌<◌}
use native.Mathlib.Nat.{add-zero}
use native.Mathlib.Omega.{arith}
use lib.Dec.{eqb, ltb}
use lib.ListN.{length, take, drop, get_or, length-drop}
use lib.Seq.{drop-cons, get_or-take, get_or-drop, length-take-le}
use borrow.Author.Tests.{lt-ltb, eqb-true, ne_eqb}
use Rattle.std.specs.Prelude.{Option, Some, None}
use Rattle.base.proofs.Truth.{clash, by_cases, is_false, and_l, and_r}
use Rattle.base.proofs.Decided.{same_decides}
use Rattle.diagram.specs.Tree.{Name}
use Rattle.diagram.specs.Names.{same}
use Rattle.tokens.specs.Classes.{between, class_of, letter, worded}
use Rattle.tokens.specs.Words.{place_in, keywords, short, every, lettered, numerals}
use Rattle.tokens.specs.Token.{Sign, loop, in_order, word_place, keyed, named, class_token, word_token, is_sign, numeral_in}
use Rattle.tokens.specs.Kinds.{key_kind, kind, class_kind, keyword_in}
use Rattle.tokens.specs.declared.Keyword.{Keyword as KeyKind}
use Rattle.tokens.specs.declared.TokenKind.{TokenKind}
use Rattle.tokens.proofs.Below.{all_below, at_below}
use Rattle.tokens.proofs.Between.{in_range}

abbrev all_pass : (Name → Bool) → List Name → Bool
all_pass t [] = true
all_pass t (n ∷ ns) = t n && all_pass t ns

-- A word that fails a test which all of a list pass is none of them.
none_like : (t : Name → Bool) (ns : List Name) (k none : ℕ) (w : Name) → all_pass t ns ≡ true → t w ≡ false → place_in ns k none w ≡ none
none_like t [] k none w p f = refl
none_like t (n ∷ ns) k none w p f =
    let d : same w n ≡ false = is_false (same w n) (λ e. clash (ap t ((same_decides w n).0 e) ∙ and_l (t n) (all_pass t ns) p) f) in
    rw d (none_like t ns (suc k) none w (and_r (t n) (all_pass t ns) p) f)

-- A keyword starts with a letter.
pub keyword_lettered : (w : Name) → lettered w ≡ false → keyed keywords w ≡ false
unfolding keywords class_of
keyword_lettered w f = rw (none_like lettered keywords 0 9 w refl f)

-- The numerals have one digit, or a 1 and a digit up to 6.
abbrev decimal : Name → Bool
decimal [] = false
decimal (x ∷ []) = between 48 57 x
decimal (x ∷ y ∷ []) = eqb x 49 && between 48 54 y
decimal (x ∷ y ∷ z ∷ w) = false

no_numeral : (w : Name) → decimal w ≡ false → numeral_in w ≡ None
unfolding numeral_in
no_numeral w f = rw (none_like decimal numerals 0 17 w refl f)

-- The digit d after others has the place k + d.
right : (ℕ → Name) → ℕ → ℕ → Bool
right of k d = eqb (place_in numerals 0 17 (of (48 + d))) (d + k)

by_digit : (of : ℕ → Name) (k n x : ℕ) → all_below (right of k) n ≡ true → 48 ≤ x → x < 48 + n → place_in numerals 0 17 (of x) ≡ x - 48 + k
unfolding right
by_digit of k n x t l h =
    let q : 48 + (x - 48) ≡ x = omega arith in
    rw q at (eqb-true (place_in numerals 0 17 (of (48 + (x - 48)))) (x - 48 + k) (at_below (right of k) n t (x - 48) (omega arith)))

valued : (w : Name) (n : ℕ) → place_in numerals 0 17 w ≡ n → n < 17 → numeral_in w ≡ Some n
unfolding numeral_in
valued w n e l = rw (e, lt-ltb n 17 l)

pub one_digit : (x : ℕ) → numeral_in (x ∷ []) ≡ cond (between 48 57 x) (Some (x - 48)) None
unfolding right
one_digit x =
    by_cases (between 48 57 x)
    (λ e.
    let r = in_range 48 57 x e in
    rw e (valued (x ∷ []) (x - 48) (by_digit (λ d. d ∷ []) 0 10 x refl r.0 (omega arith) ∙ add-zero (x - 48)) (omega arith)))
    (λ e. rw e (no_numeral (x ∷ []) e))

pub two_digits : (y : ℕ) → numeral_in (49 ∷ y ∷ []) ≡ cond (between 48 54 y) (Some (y - 48 + 10)) None
unfolding right
two_digits y =
    by_cases (between 48 54 y)
    (λ e.
    let r = in_range 48 54 y e in
    rw e (valued (49 ∷ y ∷ []) (y - 48 + 10) (by_digit (λ d. 49 ∷ d ∷ []) 10 7 y refl r.0 (omega arith)) (omega arith)))
    (λ e. rw e (no_numeral (49 ∷ y ∷ []) e))

pub no_one : (x y : ℕ) → (x ≡ 49 → ⊥) → numeral_in (x ∷ y ∷ []) ≡ None
no_one x y f = no_numeral (x ∷ y ∷ []) (rw (ne_eqb x 49 f))

pub no_longer : (w : Name) → 2 < length w → numeral_in w ≡ None
no_longer [] h = let z : ⊥ = omega arith in absurd z
no_longer (x ∷ []) h = let z : ⊥ = omega arith in absurd z
no_longer (x ∷ y ∷ []) h = let z : ⊥ = omega arith in absurd z
no_longer (x ∷ y ∷ z ∷ w) h = no_numeral (x ∷ y ∷ z ∷ w) refl

-- What a word is, by the class c of its first byte.
abbrev pub numeral_kind : Option ℕ → TokenKind
numeral_kind None = TokenKind.Other
numeral_kind (Some n) = TokenKind.Numeral n

pub lettered_first : (w : Name) → lettered w ≡ letter (get_or w 0 0)
unfolding class_of
lettered_first [] = refl
lettered_first (b ∷ bs) = refl

module _ (w : Name) {c : ℕ} (C : c ≡ class_of (get_or w 0 0)) where
  pub word_numeral : (c ≡ 5 → ⊥) → kind (word_token keywords w) ≡ numeral_kind (numeral_in w)
  unfolding word_token numeral_in
  word_numeral f =
      let l : lettered w ≡ false = lettered_first w ∙ rw (← C) (is_false (between 5 5 c) (λ e. let r = in_range 5 5 c e in f (omega arith))) in
      rw (keyword_lettered w l, l) (by_cases (ltb (place_in numerals 0 17 w) 17) (λ e. rw e) (λ e. rw e))

  pub word_name : keyed keywords w ≡ false → c ≡ 5 → every worded w ≡ true → kind (word_token keywords w) ≡ cond (short w) TokenKind.Name TokenKind.Other
  unfolding word_token named
  word_name k e h =
      let l : lettered w ≡ true = lettered_first w ∙ rw (← C, e) in
      rw (k, l, h) (by_cases (short w) (λ s. rw s) (λ s. rw s))

-- A keyword.
module _ (w : Name) where
  pub word_keyword : {k : KeyKind} → keyword_in keywords w ≡ Some k → kind (word_token keywords w) ≡ TokenKind.Keyword k
  unfolding word_token
  word_keyword {k} e =
      by_cases (keyed keywords w)
      (λ q. let z : Some (key_kind (get_or in_order (word_place keywords w) loop)) ≡ Some k = rw q at e in rw q (ap (λ (x : KeyKind). TokenKind.Keyword x) cc))
      (λ q. let z : ◌≡◌ {A = Option KeyKind} None (Some k) = rw q at e in let y : ⊥ = cc in absurd y)

  pub no_keyword : keyword_in keywords w ≡ None → keyed keywords w ≡ false
  no_keyword e =
      by_cases (keyed keywords w)
      (λ q. let z : Some (key_kind (get_or in_order (word_place keywords w) loop)) ≡ None = rw q at e in let y : ⊥ = cc in absurd y) (λ q. q)

-- A word is no sign.
pub no_sign : (w : Name) (s : Sign) → is_sign s (word_token keywords w) ≡ false
unfolding word_token
no_sign w s =
    by_cases (keyed keywords w) (λ e. rw e) (λ e. rw e
    (by_cases (lettered w) (λ f. rw f (by_cases (named keywords w) (λ g. rw g) (λ g. rw g)))
    (λ f. rw f (by_cases (ltb (place_in numerals 0 17 w) 17) (λ g. rw g) (λ g. rw g)))))

-- A byte that stands in no word, by its class.
abbrev pub byte_kind : ℕ → Option TokenKind
byte_kind c = cond (between 0 0 c) None (Some (kind (class_token c)))

-- Up to the classes of signs it is that of a sign, or a foreign byte.
pub sign_by_class : (c : ℕ) → c < 5 → class_kind c ≡ byte_kind c
sign_by_class zero h = refl
sign_by_class (suc zero) h = refl
sign_by_class (suc (suc zero)) h = refl
sign_by_class (suc (suc (suc zero))) h = refl
sign_by_class (suc (suc (suc (suc zero)))) h = refl
sign_by_class (suc (suc (suc (suc (suc c))))) h = absurd (omega arith)

-- The word from a place to another, by its bytes.
module _ (text : List ℕ) (a e : ℕ) (l : e ≤ length text) where
  pub part_length : length (take (e - a) (drop a text)) ≡ e - a
  part_length = length-take-le (e - a) (drop a text) (rw (length-drop a text) (omega arith))

  pub first_byte : a < e → get_or (take (e - a) (drop a text)) 0 0 ≡ get_or text a 0
  first_byte h = get_or-take (e - a) (drop a text) 0 0 (omega arith) ∙ get_or-drop a text 0 0 ∙ ap (λ (k : ℕ). get_or text k 0) (add-zero a)

  pub one_byte : e - a ≡ 1 → take (e - a) (drop a text) ≡ get_or text a 0 ∷ []
  one_byte n = rw (n, drop-cons text a 0 (omega arith))

  pub two_bytes : e - a ≡ 2 → take (e - a) (drop a text) ≡ get_or text a 0 ∷ get_or text (suc a) 0 ∷ []
  two_bytes n = rw (n, drop-cons text a 0 (omega arith), drop-cons text (suc a) 0 (omega arith))
