-- With sound words a token that can be written is read as it is written.
use mathlib.Core.Path.{◌≡◌, refl, sym, ◌∙◌}
use mathlib.Core.Bool.{Bool, true, false, not, ◌&&◌, false≢true}
use mathlib.Core.List.{List, [], ◌∷◌}
use Prim.Native.Nat.{ℕ, zero, suc, ◌+◌, ◌≤◌, ◌<◌}
use native.Mathlib.Nat.{add-zero, zero-add}
use native.Mathlib.Omega.{arith}
use lib.Dec.{eqb, leb}
use lib.ListN.{length, get_or}
use borrow.Author.Tests.{eqb-true, lt-ltb, le-leb, leb-true}
use Rattle.base.specs.Text.{bytes}
use Rattle.diagram.specs.Tree.{Name}
use Rattle.diagram.specs.Names.{same, new, differ}
use Rattle.base.proofs.Truth.{clash, is_false, and_l, and_r, and_i, not_e}
use Rattle.base.proofs.Decided.{same_decides}
use Rattle.tokens.specs.Classes.{between, class_of, foreign, letter, worded}
use Rattle.tokens.specs.Words.{numerals, place_in, short, every, lettered}
use Rattle.tokens.specs.Token.{Sign, opening, closing, comma, colon, Keyword, Token, sign, key, name, numeral, other, key_place, keyed, named, word_token, token_of, sign_bytes, bytes_of, lettering, all_lettering, sound}
use Rattle.tokens.proofs.Below.{at_below}
use Rattle.tokens.proofs.Between.{in_range, between_in}
use Rattle.tokens.proofs.Foreign.{known_class}
use Rattle.tokens.proofs.Tokens.{token, whole_word, Found, nowhere, there, found, key_back, written}

-- The token can be written.
abbrev pub writable : List Name → Token → Bool
writable words (sign s) = true
writable words (key k) = true
writable words (name w) = named words w
writable words (numeral n) = leb n 16
writable words other = false

-- The token is a word.
abbrev pub wordy : Token → Bool
wordy (sign s) = false
wordy (key k) = true
wordy (name w) = true
wordy (numeral n) = true
wordy other = true

-- Bytes of a token for which no text is refused, and which are read as this one.
pub record Spelled (words : List Name) (t : Token) (w : Name) : Type 0 where
  pub taken : token w ≡ true
  pub small : short w ≡ true
  pub known : foreign (get_or w 0 0) ≡ false
  pub first : worded (get_or w 0 0) ≡ wordy t
  pub back : token_of words w ≡ t

-- A word of letters, as each of sound words is one.
letter_worded : (b : ℕ) → letter b ≡ true → worded b ≡ true
letter_worded b h = let r = in_range 5 5 (class_of b) h in between_in 5 7 (class_of b) r.0 (omega arith)

every_worded : (w : Name) → every letter w ≡ true → every worded w ≡ true
every_worded [] h = refl
every_worded (b ∷ w) h = and_i (letter_worded b (and_l (letter b) (every letter w) h)) (every_worded w (and_r (letter b) (every letter w) h))

lettered_first : (w : Name) → lettered w ≡ true → worded (get_or w 0 0) ≡ true
lettered_first [] h = absurd (false≢true h)
lettered_first (b ∷ w) h = letter_worded b h

record Letters (w : Name) : Type 0 where
  each : every letter w ≡ true
  some : lettered w ≡ true
  small : length w ≤ 12

letters : (w : Name) → lettering w ≡ true → Letters w
letters [] h = absurd (false≢true h)
letters (b ∷ w) h =
    let e = and_r (between 1 12 (length (b ∷ w))) (every letter (b ∷ w)) h in
    record {
      each = e;
      some = and_l (letter b) (every letter w) e;
      small = (in_range 1 12 (length (b ∷ w)) (and_l (between 1 12 (length (b ∷ w))) (every letter (b ∷ w)) h)).1;
    }

all_letters : (ns : List Name) (i : ℕ) → all_lettering ns ≡ true → i < length ns → Letters (get_or ns i [])
all_letters [] i h l = let z : ⊥ = omega arith in absurd z
all_letters (n ∷ ns) zero h l = letters n (and_l (lettering n) (all_lettering ns) h)
all_letters (n ∷ ns) (suc i) h l = all_letters ns i (and_r (lettering n) (all_lettering ns) h) (omega arith)

-- Words that differ have the places where they stand.
new_at : (n : Name) (ns : List Name) (i : ℕ) → new n ns ≡ true → i < length ns → same (get_or ns i []) n ≡ false
new_at n [] i h l = let z : ⊥ = omega arith in absurd z
new_at n (m ∷ ns) zero h l =
    is_false (same m n) (λ e. clash ((same_decides n m).1 (sym ((same_decides m n).0 e))) (not_e (same n m) (and_l (not (same n m)) (new n ns) h)))
new_at n (m ∷ ns) (suc i) h l = new_at n ns i (and_r (not (same n m)) (new n ns) h) (omega arith)

place_back : (ns : List Name) (i k none : ℕ) → differ ns ≡ true → i < length ns → place_in ns k none (get_or ns i []) ≡ k + i
place_back [] i k none h l = let z : ⊥ = omega arith in absurd z
place_back (n ∷ ns) zero k none h l = rw ((same_decides n n).1 refl) (sym (add-zero k))
place_back (n ∷ ns) (suc i) k none h l =
    rw (new_at n ns i (and_l (new n ns) (differ ns) h) (omega arith))
    (place_back ns i (suc k) none (and_r (new n ns) (differ ns) h) (omega arith) ∙ omega arith)

module _ (words : List Name) where
  a_word : (t : Token) (w : Name) → every worded w ≡ true → worded (get_or w 0 0) ≡ true → short w ≡ true → wordy t ≡ true → word_token words w ≡ t → Spelled words t w
  unfolding token_of
  a_word t w h p s v e = record { taken = whole_word w h p; small = s; known = known_class (get_or w 0 0) (omega (arith, in_range 5 7 (class_of (get_or w 0 0)) p)); first = p ∙ sym v; back = rw p e }

  spelled_sign : (s : Sign) → Spelled words (sign s) (sign_bytes s)
  unfolding token_of class_of
  spelled_sign opening = record { taken = refl; small = refl; known = refl; first = refl; back = refl }
  spelled_sign closing = record { taken = refl; small = refl; known = refl; first = refl; back = refl }
  spelled_sign comma = record { taken = refl; small = refl; known = refl; first = refl; back = refl }
  spelled_sign colon = record { taken = refl; small = refl; known = refl; first = refl; back = refl }

  spelled_name : (w : Name) → named words w ≡ true → Spelled words (name w) w
  unfolding named word_token
  spelled_name w h =
      let a = and_l (lettered w && every worded w) (short w && not (keyed words w)) h in
      let b = and_r (lettered w && every worded w) (short w && not (keyed words w)) h in
      let l = and_l (lettered w) (every worded w) a in
      a_word (name w) w (and_r (lettered w) (every worded w) a) (lettered_first w l) (and_l (short w) (not (keyed words w)) b) refl
      (rw (h, not_e (keyed words w) (and_r (short w) (not (keyed words w)) b), l))

  module _ (fine : sound words ≡ true) where
    fine_words : (length words ≡ 9) × (all_lettering words ≡ true) × (differ words ≡ true)
    unfolding sound
    fine_words =
        let r = and_r (eqb (length words) 9) (all_lettering words && differ words) fine in (
          eqb-true (length words) 9 (and_l (eqb (length words) 9) (all_lettering words && differ words) fine),
          and_l (all_lettering words) (differ words) r,
          and_r (all_lettering words) (differ words) r,
        )

    spelled_key : (k : Keyword) → Spelled words (key k) (get_or words (key_place k) [])
    unfolding word_token
    spelled_key k =
        let i = key_place k in
        let b = key_back k in
        let l : i < length words = omega (arith, fine_words.0, b.0) in
        let w = get_or words i [] in
        let s = all_letters words i fine_words.1 l in
        a_word (key k) w (every_worded w s.each) (lettered_first w s.some) (le-leb (length w) 24 (omega (arith, s.small))) refl
        (rw (place_back words i 0 9 fine_words.2 l, zero-add i, lt-ltb i 9 b.0, b.1))

    -- A word that has not just letters is no keyword.
    unkeyed : (w : Name) → (Letters w → ⊥) → keyed words w ≡ false
    unkeyed w n = go (found words w)
      where
        go : Found words w → keyed words w ≡ false
        go (nowhere f) = rw (f 0 9)
        go (there i l f e) = absurd (n (rw e (all_letters words i fine_words.1 l)))

    spelled_numeral : (n : ℕ) → n < 17 → Spelled words (numeral n) (get_or numerals n [])
    unfolding class_of word_token
    spelled_numeral n h =
        let w = get_or numerals n [] in
        let l = not_e (lettered w) (at_below (λ k. not (lettered (get_or numerals k []))) 17 refl n h) in
        let p = eqb-true (place_in numerals 0 17 w) n (at_below (λ k. eqb (place_in numerals 0 17 (get_or numerals k [])) k) 17 refl n h) in
        a_word (numeral n) w (at_below (λ k. every worded (get_or numerals k [])) 17 refl n h)
        (at_below (λ k. worded (get_or (get_or numerals k []) 0 0)) 17 refl n h) (at_below (λ k. short (get_or numerals k [])) 17 refl n h) refl
        (rw (unkeyed w (λ s. clash s.some l), l, p, lt-ltb n 17 h))

    pub spelled : (t : Token) → writable words t ≡ true → Spelled words t (bytes_of words t)
    spelled (sign s) h = spelled_sign s
    spelled (key k) h = spelled_key k
    spelled (name w) h = spelled_name w h
    spelled (numeral n) h = spelled_numeral n (omega (arith, leb-true n 16 h))
    spelled other h = absurd (false≢true h)

    -- What was read as a token that can be written is spelled so.
    pub read_spelled : (w : Name) → token w ≡ true → writable words (token_of words w) ≡ true → Spelled words (token_of words w) w
    read_spelled w h k = rw (written words w h (λ e. false≢true (rw e at k))) at (spelled (token_of words w) k)

    -- There is a name, whatever the words: one with a digit.
    pub spare_name : (w : Name) × (named words w ≡ true)
    unfolding named class_of
    spare_name = (bytes "a0", rw (unkeyed (bytes "a0") (λ s. false≢true s.each)))
