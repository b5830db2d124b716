-- Laws of tokens: the tokens of texts are proper, and writing and reading a token are inverse to each other.
use mathlib.Core.Path.{◌≡◌, refl, sym, ◌∙◌, ap}
use mathlib.Core.Logic.{◌⊎◌, inl, inr}
use mathlib.Core.Bool.{Bool, true, false, ◌&&◌, ◌||◌, cond, false≢true}
use mathlib.Core.List.{List, [], ◌∷◌, map}
use Prim.Native.Nat.{ℕ, suc, ◌+◌, ◌≤◌, ◌<◌}
use native.Mathlib.Nat.{add-zero, zero-add}
use native.Mathlib.Omega.{arith}
use lib.Dec.{eqb}
use lib.ListN.{length, get_or}
use borrow.Author.Tests.{eqb-true, lt-ltb, ltb-true, le-leb}
use Rattle.std.specs.Prelude.{Some, None}
use Rattle.diagram.specs.Tree.{Name, all, some, one}
use Rattle.diagram.specs.Names.{same}
use Rattle.base.proofs.Truth.{clash, by_cases, and_l, and_i}
use Rattle.base.proofs.Decided.{same_decides}
use Rattle.tokens.specs.Classes.{between, spacing, class_of, foreign, worded, unbroken}
use Rattle.tokens.specs.Words.{keywords, numerals, place_in, every, lettered}
use Rattle.tokens.specs.Spans.{Span, spans_of}
use Rattle.tokens.specs.Token.{Sign, opening, closing, comma, colon, Keyword, flow, leaf, group, replicator, loop, sign, key, name, numeral, other, in_order, key_place, word_place, keyed, named, class_token, word_token, token_of, text_tokens, proper, all_proper, sign_bytes, bytes_of, sound, sign_class}
use Rattle.tokens.specs.Kinds.{kind, token_kind}
use Rattle.tokens.proofs.Below.{at_below}
use Rattle.tokens.proofs.Between.{in_range}
use Rattle.tokens.proofs.Remarks.{worded_unbroken}

-- What a token's bytes can be: a word, or one byte that is no blank and starts no remark.
abbrev pub token : Name → Bool
token [] = false
token (b ∷ []) = unbroken b
token (b ∷ c ∷ w) = every worded (b ∷ c ∷ w)

abbrev pub all_tokens : List Name → Bool
all_tokens [] = true
all_tokens (t ∷ ts) = token t && all_tokens ts

-- Which way a choice went.
pub chosen : {A : Type 0} (b : Bool) (x y : A) (P : A → Type 0) → (b ≡ true → P x) → (b ≡ false → P y) → P (cond b x y)
chosen true x y P f g = f refl
chosen false x y P f g = g refl

-- Where a word stands in a list, whatever number the first place has and whatever stands for none.
pub data Found (ns : List Name) (w : Name) : Type 0 where
  nowhere : ((k none : ℕ) → place_in ns k none w ≡ none) → Found ns w
  there : (i : ℕ) → i < length ns → ((k none : ℕ) → place_in ns k none w ≡ k + i) → w ≡ get_or ns i [] → Found ns w

pub found : (ns : List Name) (w : Name) → Found ns w
found [] w = nowhere (λ k none. refl)
found (n ∷ ns) w =
    by_cases (same w n) (λ q. there 0 (omega arith) (λ k none. rw q (sym (add-zero k))) ((same_decides w n).0 q)) (λ q. later q (found ns w))
  where
    later : same w n ≡ false → Found ns w → Found (n ∷ ns) w
    later q (nowhere f) = nowhere (λ k none. rw q (f (suc k) none))
    later q (there i l f e) = there (suc i) (omega arith) (λ k none. rw q (f (suc k) none ∙ omega arith)) e

-- The keywords by their places.
key_at : (i : ℕ) → i < 9 → key_place (get_or in_order i loop) ≡ i
key_at i h = eqb-true (key_place (get_or in_order i loop)) i (at_below (λ k. eqb (key_place (get_or in_order k loop)) k) 9 refl i h)

pub key_back : (k : Keyword) → (key_place k < 9) × (get_or in_order (key_place k) loop ≡ k)
key_back flow = (omega arith, refl)
key_back leaf = (omega arith, refl)
key_back (group all) = (omega arith, refl)
key_back (group some) = (omega arith, refl)
key_back (group one) = (omega arith, refl)
key_back (replicator all) = (omega arith, refl)
key_back (replicator some) = (omega arith, refl)
key_back (replicator one) = (omega arith, refl)
key_back loop = (omega arith, refl)

-- A byte by its class: a sign, or none.
data Classed (b c : ℕ) : Type 0 where
  a_sign : (s : Sign) → class_token c ≡ sign s → (c ≡ sign_class s) × (1 ≤ c) → b ∷ [] ≡ sign_bytes s → Classed b c
  no_sign : class_token c ≡ other → (c ≡ 0) ⊎ (5 ≤ c) → Classed b c

classed : (b : ℕ) → Classed b (class_of b)
unfolding class_of
classed b =
    at 40 opening refl (refl, omega arith) refl
    (at 41 closing refl (refl, omega arith) refl
    (at 44 comma refl (refl, omega arith) refl
    (at 58 colon refl (refl, omega arith) refl
    (up (between 65 90 b || between 97 122 b) refl (inr (omega arith))
    (up (between 48 57 b) refl (inr (omega arith))
    (up (eqb b 95) refl (inr (omega arith))
    (up (spacing b) refl (inr (omega arith)) (up (eqb b 35) refl (inr (omega arith)) (no_sign refl (inl refl))))))))))
  where
    at : (v : ℕ) {c d : ℕ} (s : Sign) → class_token c ≡ sign s → (c ≡ sign_class s) × (1 ≤ c) → v ∷ [] ≡ sign_bytes s → Classed b d
        → Classed b (cond (eqb b v) c d)
    at v {c} {d} s p q r h = chosen (eqb b v) c d (Classed b) (λ e. a_sign s p q (ap (λ (x : ℕ). x ∷ []) (eqb-true b v e) ∙ r)) (λ e. h)

    up : (t : Bool) {c d : ℕ} → class_token c ≡ other → (c ≡ 0) ⊎ (5 ≤ c) → Classed b d → Classed b (cond t c d)
    up t {c} {d} p q h = chosen t c d (Classed b) (λ e. no_sign p q) (λ e. h)

-- What a word's token can be.
data Sorted (words : List Name) (w : Name) : Type 0 where
  signed : (s : Sign) → token_of words w ≡ sign s → worded (get_or w 0 0) ≡ false → get_or w 0 0 ∷ [] ≡ sign_bytes s → Sorted words w
  keying : (i : ℕ) → i < 9 → token_of words w ≡ key (get_or in_order i loop) → w ≡ get_or words i [] → Sorted words w
  naming : token_of words w ≡ name w → named words w ≡ true → Sorted words w
  valued : (n : ℕ) → n < 17 → token_of words w ≡ numeral n → w ≡ get_or numerals n [] → Sorted words w
  useless : token_of words w ≡ other → Sorted words w

sorted : (words : List Name) (w : Name) → Sorted words w
unfolding token_of word_token
sorted words w =
    by_cases (worded (get_or w 0 0))
    (λ p. by_cases (keyed words w) (keyword_at p (found words w)) (λ q. by_cases (lettered w) (letters p q) (λ l. number p q l (found numerals w))))
    (λ p. byte_at p (classed (get_or w 0 0)))
  where
    byte_at : worded (get_or w 0 0) ≡ false → Classed (get_or w 0 0) (class_of (get_or w 0 0)) → Sorted words w
    byte_at p (a_sign s e c b) = signed s (rw p e) p b
    byte_at p (no_sign e c) = useless (rw p e)

    keyword_at : worded (get_or w 0 0) ≡ true → Found words w → keyed words w ≡ true → Sorted words w
    keyword_at p (nowhere f) q = let z = ltb-true (word_place words w) 9 q in let y = f 0 9 in let x : ⊥ = omega arith in absurd x
    keyword_at p (there i l f e) q =
        let z = ltb-true (word_place words w) 9 q in
        let y : word_place words w ≡ i = f 0 9 ∙ zero-add i in
        keying i (omega arith) (rw (p, q, y)) e

    letters : worded (get_or w 0 0) ≡ true → keyed words w ≡ false → lettered w ≡ true → Sorted words w
    letters p q l = by_cases (named words w) (λ n. naming (rw (p, q, l, n)) n) (λ n. useless (rw (p, q, l, n)))

    number : worded (get_or w 0 0) ≡ true → keyed words w ≡ false → lettered w ≡ false → Found numerals w → Sorted words w
    number p q l (nowhere f) = useless (rw (p, q, l, f 0 17))
    number p q l (there i h f e) = valued i h (rw (p, q, l, f 0 17, zero-add i, lt-ltb i 17 h)) e

pub token_proper : (words : List Name) (w : Name) → proper words (token_of words w) ≡ true
token_proper words w = go (sorted words w)
  where
    go : Sorted words w → proper words (token_of words w) ≡ true
    go (signed s e c b) = rw e
    go (keying i h e b) = rw e
    go (naming e n) = rw e n
    go (valued n h e b) = rw e (le-leb n 16 (omega arith))
    go (useless e) = rw e

pub text_proper : (words : List Name) (text : List ℕ) → all_proper words (text_tokens words text) ≡ true
unfolding text_tokens
text_proper words text = go (spans_of text)
  where
    go : (ss : List Span) → all_proper words (map (λ (s : Span). token_of words s.bytes) ss) ≡ true
    go [] = refl
    go (s ∷ ss) = and_i (token_proper words s.bytes) (go ss)

-- A token is written as it was read, unless it is wanted nowhere.
single : (w : Name) → token w ≡ true → worded (get_or w 0 0) ≡ false → w ≡ get_or w 0 0 ∷ []
single [] h p = absurd (false≢true h)
single (b ∷ []) h p = refl
single (b ∷ c ∷ w) h p = absurd (clash (and_l (worded b) (every worded (c ∷ w)) h) p)

pub written : (words : List Name) (w : Name) → token w ≡ true → (token_of words w ≡ other → ⊥) → bytes_of words (token_of words w) ≡ w
written words w h n = go (sorted words w)
  where
    go : Sorted words w → bytes_of words (token_of words w) ≡ w
    go (signed s e p b) = rw e (sym (single w h p ∙ b))
    go (keying i l e b) = rw (e, key_at i l) (sym b)
    go (naming e m) = rw e
    go (valued m l e b) = rw e (sym b)
    go (useless e) = absurd (n e)

pub whole_word : (w : Name) → every worded w ≡ true → worded (get_or w 0 0) ≡ true → token w ≡ true
unfolding class_of
whole_word [] h p = absurd (false≢true p)
whole_word (b ∷ []) h p = worded_unbroken b p
whole_word (b ∷ c ∷ w) h p = h

-- A token has the kind of the token that its bytes are, unless it is a foreign byte, which has none and is wanted nowhere.
pub known_kind : (w : Name) → foreign (get_or w 0 0) ≡ false → token_kind w ≡ Some (kind (token_of keywords w))
unfolding token_kind
known_kind w f = rw f

pub foreign_kind : (words : List Name) (w : Name) → foreign (get_or w 0 0) ≡ true → (token_kind w ≡ None) × (token_of words w ≡ other)
unfolding token_kind token_of
foreign_kind words w f = let z : class_of (get_or w 0 0) ≡ 0 = omega (arith, in_range 0 0 (class_of (get_or w 0 0)) f) in (rw f, rw z)

-- Document 01's words are sound.
pub keywords_sound : sound keywords ≡ true
unfolding sound keywords class_of
keywords_sound = refl
