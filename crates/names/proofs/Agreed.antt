-- Two words of a text, one of which ends at a known place, byte by byte. Assumes nothing.
use mathlib.Core.Path.{◌≡◌, refl, sym, ap, ◌∙◌}
use mathlib.Core.Bool.{Bool, true, false, cond}
use mathlib.Core.List.{List, []}
use Prim.Native.Nat.{ℕ, zero, suc, ◌+◌, ◌-◌, ◌≤◌, ◌<◌}
use native.Mathlib.Nat.{add-zero}
use native.Mathlib.Omega.{arith}
use lib.ListN.{length, get_or, take, drop}
use Rattle.base.proofs.Decided.{same_decides}
use Rattle.base.proofs.Truth.{and_l, is_false}
use Rattle.diagram.specs.Tree.{Name}
use Rattle.diagram.specs.Names.{same}
use Rattle.tokens.specs.Classes.{worded}
use Rattle.tokens.specs.Words.{word_at, every}
use Rattle.tokens.proofs.Front.{front_every}
use Rattle.tokens.proofs.WordAt.{zero_no_word, letter_none, letter_some, zero_none, some_on, words_on}
use Rattle.walked.specs.Rows.{past_word}
use Rattle.std.specs.Prelude.{Option, Some, None}
use Rattle.std.proofs.lemmas.Option.{none-some, same_Some}
use Rattle.names.specs.code.Pars.{again}
use Rattle.names.proofs.Marked.{empty, cut_byte, word_byte}

-- Up to p and q they are the same.
pub record Agreed (text : List ℕ) (a b p q : ℕ) : Type 0 where
  pub decides : same (word_at text a) (word_at text b) ≡ same (word_at text p) (word_at text q)
  pub left : past_word text a ≡ past_word text p
  pub right : past_word text b ≡ past_word text q

pub agreed_start : (text : List ℕ) (a b : ℕ) → Agreed text a b a b
agreed_start text a b = record { decides = refl; left = refl; right = refl }

module _ {text : List ℕ} {a b p q end : ℕ} (s : Agreed text a b p q) (E : end ≡ past_word text b) where
  from_here : same (word_at text p) (word_at text q) ≡ false → ◌≡◌ {A = Option ℕ} None (again text a b)
  from_here e = rw (s.decides, e)

  module _ (h : q < end) {x y : ℕ} (X : x ≡ get_or text p 0) (Y : y ≡ get_or text q 0) where
    some : 0 < length (word_at text q)
    some = omega (arith, s.right)

    first : y ≡ get_or (word_at text q) 0 0
    first = Y ∙ ap (λ (k : ℕ). get_or text k 0) (sym (add-zero q)) ∙ word_byte text q 0 some

    pub agreed_next : x ≡ y → Agreed text a b (p + 1) (q + 1)
    agreed_next e =
        let there : y ≡ 0 → ⊥ = λ z. omega (arith, some, ap length (zero_none text q (sym first ∙ z))) in
        let more = some_on text q y first there in
        let inside : worded y ≡ true = and_l (worded y) (every worded (word_at text (q + 1))) (rw more.1 at (front_every worded (drop q text))) in
        let here : x ≡ get_or (word_at text p) 0 0 = letter_some text p X (rw e inside) in
        let gone = some_on text p x here (λ z. there (sym e ∙ z)) in
        let on = words_on text p q x y here first e (λ z. there (sym e ∙ z)) in
        record {
          decides = s.decides ∙ on.rest;
          left = s.left ∙ omega (arith, ap length gone.1);
          right = s.right ∙ omega (arith, ap length more.1);
        }

  -- The one has ended, and so has the other if no byte of a word stands there.
  module _ (h : end ≤ q) {x : ℕ} (X : x ≡ get_or text p 0) where
    ended : word_at text q ≡ []
    ended = empty (word_at text q) (omega (arith, s.right))

    pub agreed_end : worded x ≡ false → ◌≡◌ {A = Option ℕ} (Some p) (again text a b)
    agreed_end e =
        let none = zero_none text p (sym (letter_none text p X e)) in
        rw (s.decides, s.left, ended, none) (ap (λ (k : ℕ). Some k) (sym (add-zero p)))

    pub agreed_longer : worded x ≡ true → ◌≡◌ {A = Option ℕ} None (again text a b)
    agreed_longer e =
        from_here
        (is_false (same (word_at text p) (word_at text q)) (λ d.
        let w = (same_decides (word_at text p) (word_at text q)).0 d ∙ ended in
        zero_no_word (rw (letter_some text p X e ∙ ap (λ (v : Name). get_or v 0 0) w) at e)))

-- As many bytes as the one word has, cut from where each starts: where they are the same, the two agree up to there.
module _ (text : List ℕ) (a b n : ℕ) {end : ℕ} (E : end ≡ past_word text b) (N : n ≡ end - b) where
  its_length : n ≡ length (word_at text b)
  its_length = omega arith

  module _ (s : take n (drop a text) ≡ take n (drop b text)) where
    cut_agrees : (k : ℕ) → k ≤ n → Agreed text a b (a + k) (b + k)
    cut_agrees zero h = rw (add-zero a, add-zero b) (agreed_start text a b)
    cut_agrees (suc k) h =
        let l : k < n = omega arith in
        let e = sym (cut_byte text a n k l) ∙ (ap (λ (v : List ℕ). get_or v k 0) s ∙ cut_byte text b n k l) in
        let i : a + suc k ≡ a + k + 1 = omega arith in
        let j : b + suc k ≡ b + k + 1 = omega arith in
        rw (i, j) (agreed_next (cut_agrees k (omega arith)) E (omega (arith, its_length)) refl refl e)

    module _ {x : ℕ} (X : x ≡ get_or text (a + n) 0) where
      pub cut_end : worded x ≡ false → ◌≡◌ {A = Option ℕ} (Some (a + n)) (again text a b)
      cut_end f = agreed_end (cut_agrees n (omega arith)) E (omega arith) X f

      pub cut_longer : worded x ≡ true → ◌≡◌ {A = Option ℕ} None (again text a b)
      cut_longer t = agreed_longer (cut_agrees n (omega arith)) E (omega arith) X t

-- What the answer tells of the words.
pub again_none : (text : List ℕ) (a b : ℕ) → ◌≡◌ {A = Option ℕ} None (again text a b) → same (word_at text a) (word_at text b) ≡ false
again_none text a b = go (same (word_at text a) (word_at text b))
  where
    go : (t : Bool) → ◌≡◌ {A = Option ℕ} None (cond t (Some (past_word text a)) None) → t ≡ false
    go true e = absurd (none-some _ e)
    go false e = refl

pub again_some : (text : List ℕ) (a b e : ℕ) → ◌≡◌ {A = Option ℕ} (Some e) (again text a b)
    → (same (word_at text a) (word_at text b) ≡ true) × (e ≡ past_word text a)
again_some text a b e = go (same (word_at text a) (word_at text b))
  where
    go : (t : Bool) → ◌≡◌ {A = Option ℕ} (Some e) (cond t (Some (past_word text a)) None) → (t ≡ true) × (e ≡ past_word text a)
    go true q = (refl, same_Some _ _ q)
    go false q = absurd (none-some _ (sym q))
