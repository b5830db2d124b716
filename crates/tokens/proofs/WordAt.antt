-- Words that start at a place of a text.
use mathlib.Core.Path.{◌≡◌, refl, sym, ◌∙◌, ap}
use mathlib.Core.Bool.{true, false, false≢true}
use mathlib.Core.List.{List, [], ◌∷◌}
use Prim.Native.Nat.{ℕ, suc, ◌+◌, ◌-◌, ◌≤◌, ◌<◌}
use native.Mathlib.Numerals.{add-one}
use native.Mathlib.Omega.{arith}
use denote.Ref.{Bor}
use lib.Dec.{ltb}
use lib.ListN.{length, get_or, take, drop, length-drop, drop_of_length-le, get_or-eq_default}
use lib.Seq.{drop-cons, length-take-le}
use borrow.Author.Tests.{ltb-true, ltb-false, eq-eqb}
use Rattle.diagram.specs.Tree.{Name}
use Rattle.diagram.specs.Names.{same}
use Rattle.base.proofs.Truth.{by_cases}
use Rattle.base.proofs.Compared.{other_byte}
use Rattle.tokens.specs.Classes.{class_of, worded}
use Rattle.tokens.specs.Words.{front, word_at}
use Rattle.tokens.specs.Parts.{Word}
use Rattle.tokens.proofs.Front.{front_le}

-- A word that starts with a byte goes on after it.
abbrev run_of : List ℕ → Name
run_of bs = take (front worded bs) bs

run_more : (b : ℕ) (bs : List ℕ) → worded b ≡ true → run_of (b ∷ bs) ≡ b ∷ run_of bs
unfolding front
run_more b bs e = rw e

run_none : (b : ℕ) (bs : List ℕ) → worded b ≡ false → run_of (b ∷ bs) ≡ []
unfolding front
run_none b bs e = rw e

-- The byte 0 stands in no word.
pub zero_no_word : worded 0 ≡ true → ⊥
unfolding class_of
zero_no_word e = false≢true e

-- What stands at a place: a word's byte, or no word.
data Starts (text : List ℕ) (at : ℕ) : Type 0 where
  none : word_at text at ≡ [] → Starts text at
  some : at < length text → worded (get_or text at 0) ≡ true → word_at text at ≡ get_or text at 0 ∷ word_at text (at + 1) → Starts text at

pub past_none : (text : List ℕ) (at : ℕ) → length text ≤ at → word_at text at ≡ []
unfolding front
past_none text at h = ap run_of (drop_of_length-le text h)

-- A word as a part of the text, by its end.
pub word_inside : (text : List ℕ) (at : ℕ) {e : ℕ} → at ≤ length text → e ≡ at + front worded (drop at text) → e ≤ length text
word_inside text at h E = omega (arith, front_le worded (drop at text), length-drop at text)

-- A word is as many bytes as it has.
word_cut : (text : List ℕ) (at : ℕ) → take (length (word_at text at)) (drop at text) ≡ word_at text at
word_cut text at = rw (length-take-le (front worded (drop at text)) (drop at text) (front_le worded (drop at text)))

-- That very part of a lent text, by where its memory lies and what it holds.
module _ (text r : Bor (List ℕ)) (at : ℕ) (b : r.ref_ptr.0 ≡ text.ref_ptr.0) where
  pub word_none : length text.now < at → r.ref_ptr.1 ≡ text.ref_ptr.1 + 0 → r.now ≡ [] → Word text at r
  word_none h o n =
      record {
        its_word = n ∙ sym (past_none text.now at (omega arith));
        inside = λ l. let z : ⊥ = omega arith in absurd z;
        past = λ l. record { its_block = b; its_offset = o; its_bytes = n };
      }

  pub word_some : (e : ℕ) → at ≤ length text.now → e ≡ at + front worded (drop at text.now) → r.ref_ptr.1 ≡ text.ref_ptr.1 + at
      → r.now ≡ take (e - at) (drop at text.now) → Word text at r
  word_some e h E o n =
      let k : e - at ≡ front worded (drop at text.now) = omega arith in
      let w : r.now ≡ word_at text.now at = n ∙ ap (λ (x : ℕ). take x (drop at text.now)) k in
      record {
        its_word = w;
        inside = λ l. record { its_block = b; its_offset = o; its_bytes = w ∙ sym (word_cut text.now at) };
        past = λ l. let z : ⊥ = omega arith in absurd z;
      }

-- A word that has a byte stands inside the text.
pub word_within : (text : List ℕ) (at : ℕ) (n : Name) → word_at text at ≡ n → 1 ≤ length n → at ≤ length text
word_within text at n q h =
    by_cases (ltb (length text) at)
    (λ t. let l = ltb-true (length text) at t in let z = ap length (sym q ∙ past_none text at (omega arith)) in omega arith)
    (λ t. ltb-false (length text) at t)

-- A word starts where a word's byte stands, which past the end is none.
no_word : (text : List ℕ) (at : ℕ) → worded (get_or text at 0) ≡ false → word_at text at ≡ []
no_word text at e =
    by_cases (ltb at (length text))
    (λ q. ap run_of (drop-cons text at 0 (ltb-true at (length text) q)) ∙ run_none (get_or text at 0) (drop (suc at) text) e)
    (λ q. past_none text at (ltb-false at (length text) q))

a_word : (text : List ℕ) (at : ℕ) → worded (get_or text at 0) ≡ true → at < length text
a_word text at e =
    by_cases (ltb at (length text)) (ltb-true at (length text))
    (λ q. absurd (zero_no_word (rw (get_or-eq_default text 0 (ltb-false at (length text) q)) at e)))

word_on : (text : List ℕ) (at : ℕ) → worded (get_or text at 0) ≡ true → word_at text at ≡ get_or text at 0 ∷ word_at text (at + 1)
word_on text at e =
    ap run_of (drop-cons text at 0 (a_word text at e))
    ∙ (run_more (get_or text at 0) (drop (suc at) text) e ∙ ap (λ (k : ℕ). get_or text at 0 ∷ word_at text k) (sym (add-one at)))

starts : (text : List ℕ) (at : ℕ) → Starts text at
starts text at =
    by_cases (worded (get_or text at 0)) (λ e. some (a_word text at e) e (word_on text at e)) (λ e. none (no_word text at e))

-- The first byte of a word, or none, by what stands there.
module _ (text : List ℕ) (at : ℕ) {b : ℕ} (B : b ≡ get_or text at 0) where
  pub letter_none : worded b ≡ false → 0 ≡ get_or (word_at text at) 0 0
  letter_none f = rw (no_word text at (rw (← B) f))

  pub letter_some : worded b ≡ true → b ≡ get_or (word_at text at) 0 0
  letter_some f = B ∙ rw (word_on text at (rw (← B) f))

-- A word whose first byte is 0 is none.
pub zero_none : (text : List ℕ) (at : ℕ) → get_or (word_at text at) 0 0 ≡ 0 → word_at text at ≡ []
zero_none text at e = go (starts text at)
  where
    go : Starts text at → word_at text at ≡ []
    go (none q) = q
    go (some h w q) = absurd (zero_no_word (rw (sym (ap (λ (v : Name). get_or v 0 0) q) ∙ e) at w))

-- A word that has a first byte stands in the text, and goes on.
pub some_on : (text : List ℕ) (at x : ℕ) → x ≡ get_or (word_at text at) 0 0 → (x ≡ 0 → ⊥) → (at < length text) × (word_at text at ≡ x ∷ word_at text (at + 1))
some_on text at x e h = go (starts text at)
  where
    go : Starts text at → (at < length text) × (word_at text at ≡ x ∷ word_at text (at + 1))
    go (none q) = absurd (h (e ∙ ap (λ (v : Name). get_or v 0 0) q))
    go (some l w q) = (l, q ∙ ap (λ (b : ℕ). b ∷ word_at text (at + 1)) (sym (e ∙ ap (λ (v : Name). get_or v 0 0) q)))

-- Two words go on, and what is left of them decides whether they are the same.
pub record Onward (text : List ℕ) (a b : ℕ) : Type 0 where
  pub left : a < length text
  pub right : b < length text
  pub rest : same (word_at text a) (word_at text b) ≡ same (word_at text (a + 1)) (word_at text (b + 1))

-- Two words compared by their first bytes: none has one, or both have the same, and the rest decides.
module _ (text : List ℕ) (a b x y : ℕ) (X : x ≡ get_or (word_at text a) 0 0) (Y : y ≡ get_or (word_at text b) 0 0) where
  pub words_differ : (x ≡ y → ⊥) → false ≡ same (word_at text a) (word_at text b)
  words_differ f = other_byte (word_at text a) (word_at text b) 0 (λ q. f (X ∙ q ∙ sym Y))

  module _ (e : x ≡ y) where
    pub words_end : x ≡ 0 → true ≡ same (word_at text a) (word_at text b)
    words_end z = rw (zero_none text a (sym X ∙ z), zero_none text b (sym Y ∙ sym e ∙ z))

    pub words_on : (x ≡ 0 → ⊥) → Onward text a b
    words_on f =
        let p = some_on text a x X f in
        let q = some_on text b x (e ∙ Y) f in
        record { left = p.0; right = q.0; rest = rw (p.1, q.1, eq-eqb x x refl) }
