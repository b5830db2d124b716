-- The bytes of a word in its text, and its mark by them. Assumes nothing.
use mathlib.Core.Path.{◌≡◌, refl, sym, ap, ◌∙◌}
use mathlib.Core.List.{List, [], ◌∷◌}
use Prim.Native.Nat.{ℕ, ◌+◌, ◌-◌, ◌*◌, ◌/◌, ◌%◌, ◌≤◌, ◌<◌}
use native.Mathlib.Nat.{add-zero}
use native.Mathlib.Omega.{arith}
use lib.Dec.{leb}
use lib.ListN.{length, get_or, take, drop, length-drop}
use lib.Seq.{get_or-take, get_or-drop, length-take-le}
use borrow.Author.Tests.{leb-true, leb-false}
use Rattle.base.proofs.Truth.{by_cases}
use Rattle.diagram.specs.Tree.{Name}
use Rattle.tokens.specs.Classes.{worded}
use Rattle.tokens.specs.Words.{front, word_at}
use Rattle.tokens.proofs.Front.{front_le}
use Rattle.tokens.proofs.WordAt.{past_none}
use Rattle.walked.specs.Rows.{past_word}
use Rattle.names.specs.code.Marks.{mark_of}

pub empty : (w : Name) → length w ≡ 0 → w ≡ []
empty [] e = refl
empty (b ∷ w) e = let z : ⊥ = omega arith in absurd z

-- Where fewer than k bytes are, the one that stands k before their end is the first.
pub at_start : (text : List ℕ) (at n k : ℕ) → n < k → get_or text at 0 ≡ get_or text (at + (n - k)) 0
at_start text at n k h = let e : n - k ≡ 0 = omega arith in rw (e, add-zero at)

module _ (text : List ℕ) (at : ℕ) where
  word_length : length (word_at text at) ≡ front worded (drop at text)
  word_length = length-take-le (front worded (drop at text)) (drop at text) (front_le worded (drop at text))

  -- A byte of as many as are cut out from here on.
  pub cut_byte : (n j : ℕ) → j < n → get_or (take n (drop at text)) j 0 ≡ get_or text (at + j) 0
  cut_byte n j h = get_or-take n (drop at text) j 0 h ∙ get_or-drop at text j 0

  pub word_byte : (j : ℕ) → j < length (word_at text at) → get_or text (at + j) 0 ≡ get_or (word_at text at) j 0
  word_byte j h = sym (cut_byte (front worded (drop at text)) j (rw word_length at h))

  pub word_ends : at ≤ length text → past_word text at ≤ length text
  word_ends h = omega (arith, word_length, front_le worded (drop at text), length-drop at text)

  -- The place past it is `end`.
  module _ {end : ℕ} (p : end ≡ past_word text at) where
    pub mark_none : end ≤ at → 0 ≡ mark_of (word_at text at)
    unfolding mark_of
    mark_none h = rw (empty (word_at text at) (omega arith))

    pub mark_inside : at < end → length text < end → ⊥
    mark_inside h l =
        by_cases (leb at (length text)) (λ q. omega (arith, word_ends (leb-true at (length text) q))) (λ q.
        omega (arith, ap length (past_none text at (let z = leb-false at (length text) q in omega arith))))

    pub mark_is : at < end → {n f m a b c r : ℕ} → n ≡ end - at → f ≡ get_or text at 0 → m ≡ get_or text (at + n / 2) 0 → a ≡ get_or text (at + (n - 1)) 0
        → b ≡ get_or text (at + (n - 2)) 0 → c ≡ get_or text (at + (n - 3)) 0 → r ≡ (f * 101 + m * 3 + (a + b * 11 + c * 121) + n) % 512
        → r ≡ mark_of (word_at text at)
    unfolding mark_of
    mark_is h {n} {f} {m} {a} {b} {c} {r} N F M A B C R =
        let w = word_at text at in
        let l : n ≡ length w = omega arith in
        let f' : f ≡ get_or w 0 0 = F ∙ ap (λ (k : ℕ). get_or text k 0) (sym (add-zero at)) ∙ word_byte 0 (omega arith) in
        let m' : m ≡ get_or w (n / 2) 0 = M ∙ word_byte (n / 2) (omega arith) in
        let a' : a ≡ get_or w (n - 1) 0 = A ∙ word_byte (n - 1) (omega arith) in
        let b' : b ≡ get_or w (n - 2) 0 = B ∙ word_byte (n - 2) (omega arith) in
        let c' : c ≡ get_or w (n - 3) 0 = C ∙ word_byte (n - 3) (omega arith) in
        R ∙ rw (f', m', a', b', c', l)
