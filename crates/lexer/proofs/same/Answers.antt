-- `lexer::same` meets its contract: what is left of the two words decides.
use Rattle.std.proofs.Common.{◌≡◌, ℕ, Bool, List, ◌<◌, true, false, length, get_or, eqb, refl, sym, ap, ◌∙◌, rules}
use mathlib.Core.Bool.{false≢true}
use borrow.Author.Tests.{eq-eqb, eqb-true}
use Rattle.base.proofs.Truth.{by_cases}
use Rattle.diagram.specs.Tree.{Name}
use Rattle.diagram.specs.Names.{same}
use Rattle.tokens.specs.Classes.{worded}
use Rattle.tokens.specs.Words.{word_at}
use Rattle.tokens.proofs.WordAt.{zero_no_word, letter_none, letter_some, past_none, Onward, words_differ, words_end, words_on}
use Rattle.lexer.proofs.same.Goals as goal

-- The first letter of a word that has one is the byte that stands there.
its_byte : (text : List ℕ) (at : ℕ) {x v : ℕ} → x ≡ get_or text at 0 → v ≡ get_or (word_at text at) 0 0 → (v ≡ 0 → ⊥) → v ≡ x
its_byte text at {x} X V f =
    by_cases (worded x) (λ t. V ∙ sym (letter_some text at X t)) (λ n. absurd (f (V ∙ sym (letter_none text at X n))))

-- Two words by the bytes x and y that stand at their starts.
module _ (text : List ℕ) (p q : ℕ) {x y : ℕ} (X : x ≡ get_or text p 0) (Y : y ≡ get_or text q 0) where
  -- Where the bytes are the same both words end here, or both go on.
  module _ (e : x ≡ y) where
    both_end : worded x ≡ false → true ≡ same (word_at text p) (word_at text q)
    both_end f = words_end text p q 0 0 (letter_none text p X f) (letter_none text q Y (rw e at f)) refl refl

    both_on : worded x ≡ true → Onward text p q
    both_on t = words_on text p q x y (letter_some text p X t) (letter_some text q Y (rw e at t)) e (λ z. zero_no_word (rw z at t))

  -- Where they differ and the words have the same first letter v or w, they have none.
  both_none : {v w : ℕ} → v ≡ get_or (word_at text p) 0 0 → w ≡ get_or (word_at text q) 0 0 → (x ≡ y → ⊥) → v ≡ w → v ≡ 0
  both_none {v} V W d e =
      by_cases (eqb v 0) (eqb-true v 0)
      (λ n.
      let f : v ≡ 0 → ⊥ = λ z. false≢true (sym n ∙ eq-eqb v 0 z) in
      absurd (d (sym (its_byte text p X V f) ∙ (e ∙ its_byte text q Y W (λ z. f (e ∙ z))))))

-- Two words by a test of their first letters v and w, which are the same only where there are none.
by_letters : (text : List ℕ) (p q : ℕ) {v w : ℕ} → v ≡ get_or (word_at text p) 0 0 → w ≡ get_or (word_at text q) 0 0 → (v ≡ w → v ≡ 0)
    → (r : Bool) → (r ≡ true → v ≡ w) → (r ≡ false → v ≡ w → ⊥) → r ≡ same (word_at text p) (word_at text q)
by_letters text p q {v} {w} V W f r Y N =
    by_cases r (λ t. rw t (words_end text p q v w V W (Y t) (f (Y t)))) (λ n. rw n (words_differ text p q v w V W (N n)))

pub returns-then-x-at : goal.returns-then-x-at
returns-then-x-at c =
    let l = c.loop-p in
    let V = c.letter.ensures in
    let W = c.letter-then-x-at.ensures in
    by_letters c.args.text.now l.p l.q V W (both_none c.args.text.now l.p l.q refl c.at.ensures V W c.if-x-at.true) _ (eqb-true _ _)
    (λ n e. false≢true (sym n ∙ eq-eqb _ _ e))
    ∙ sym l.invariant

pub returns-then-not-worded : goal.returns-then-not-worded
returns-then-not-worded c =
    let l = c.loop-p in
    both_end c.args.text.now l.p l.q refl c.at.ensures c.if-x-at.false (sym c.worded.ensures ∙ c.if-not-worded.true) ∙ sym l.invariant

pub overflow_add-q : goal.overflow_add-q
overflow_add-q c =
    let l = c.loop-p in
    let o = both_on c.args.text.now l.p l.q refl c.at.ensures c.if-x-at.false (sym c.worded.ensures ∙ c.if-not-worded.false) in
    let h : l.q < length c.args.text.now = o.right in
    search (rules, h)

pub loop-p-preserved : goal.loop-p-preserved
loop-p-preserved c =
    let l = c.loop-p in
    l.invariant ∙ (both_on c.args.text.now l.p l.q refl c.at.ensures c.if-x-at.false (sym c.worded.ensures ∙ c.if-not-worded.false)).rest

-- Where the one starts past the text it is none, and the other is the same if it has no first letter.
pub returns : goal.returns
returns c =
    let l = c.loop-p in
    let V = ap (λ (w : Name). get_or w 0 0) (sym (past_none c.args.text.now l.p c.loop-p-test.false)) in
    by_letters c.args.text.now l.p l.q V c.letter-2.ensures (λ e. refl) _ (λ t. sym (eqb-true _ 0 t)) (λ n e. false≢true (sym n ∙ eq-eqb _ 0 (sym e)))
    ∙ sym l.invariant
