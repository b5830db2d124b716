-- The machine and the grammar: what an outcome means for the tokens, and the other way. The nine words that are keywords are given, and sound.
use mathlib.Core.Path.{◌≡◌, refl, sym, ◌∙◌, ap, subst}
use mathlib.Core.Logic.{◌⊎◌, inl, inr, ⊎_elim}
use mathlib.Core.Bool.{Bool, true, false, false≢true}
use mathlib.Core.List.{List, [], ◌∷◌, ◌++◌, append_assoc}
use Prim.Native.Nat.{ℕ, suc, ◌≤◌, ◌<◌}
use native.Mathlib.Omega.{arith}
use lib.Dec.{ltb}
use lib.ListN.{length, take, drop, take-append-drop}
use lib.Seq.{take-take}
use borrow.Author.Tests.{ltb-true, ltb-false}
use Rattle.diagram.specs.Tree.{Name, Flow, Child, plain, loop, group, replicator, leaf, inner}
use Rattle.base.specs.declared.Reason.{Reason}
use Rattle.tokens.specs.Token.{Token, all_proper, sound}
use Rattle.grammar.proofs.Spelled.{spare_name}
use Rattle.grammar.specs.Tokens.{child_tokens, member_tokens}
use Rattle.grammar.specs.Machine.{Want, node, Outcome, whole, stop, root, allows, outcome, depths}
use Rattle.grammar.specs.Derives.{Derives, Viable}
use Rattle.grammar.proofs.Fit.{FitChild, grammatical_fit}
use Rattle.grammar.proofs.Stack.{Node, SpellsAll, shape}
use Rattle.grammar.proofs.Goods.{good_root}
use Rattle.grammar.proofs.Runs.{Off, Big, Means, run_means}
pub use Rattle.grammar.proofs.Once.{derived_once}

abbrev first : List Want
first = node root depths ∷ []

-- The first entry spells the texts that derive a diagram.
spelled : (words : List Name) (ts : List Token) (d : Flow) → Derives words ts d → SpellsAll words first ts []
unfolding child_tokens member_tokens
spelled words ts d h = ([], record { tree = plain (inner d); fit = (grammatical_fit words d).0 h.proper; allowed = refl; tokens = h.tokens }, refl)

derived : (words : List Name) (ts : List Token) → SpellsAll words first ts [] → (d : Flow) × Derives words ts d
unfolding child_tokens member_tokens
derived words ts s = go n.tree n.fit n.allowed n.tokens
  where
    n : Node words root ts []
    n = subst (λ (r : List Token). Node words root ts r) s.2 s.1

    go : (c : Child) → FitChild words c → allows root (shape c) ≡ true → ts ≡ child_tokens c [] → (d : Flow) × Derives words ts d
    go (plain (leaf m)) h a e = absurd (false≢true a)
    go (plain (inner f)) h a e = (f, record { proper = (grammatical_fit words f).1 h; tokens = e })
    go (loop m) h a e = absurd (false≢true a)
    go (group y b c ms) h a e = absurd (false≢true a)
    go (replicator y par size m) h a e = absurd (false≢true a)

pub viable_of : (words : List Name) (ts rest : List Token) → SpellsAll words first (ts ++ rest) [] → Viable words ts
viable_of words ts rest s = let r = derived words (ts ++ rest) s in (r.0, rest, r.1)

-- A beginning of a beginning.
pub shorter : (words : List Name) (i j : ℕ) (ts : List Token) → i ≤ j → Viable words (take j ts) → Viable words (take i ts)
shorter words i j ts h v = (v.0, drop i (take j ts) ++ v.1, subst (λ (l : List Token). Derives words l v.0) (sym e) v.2)
  where
    e : take i ts ++ (drop i (take j ts) ++ v.1) ≡ take j ts ++ v.1
    e =
        sym (append_assoc (take i ts) (drop i (take j ts)) v.1)
        ∙ ap (λ (l : List Token). l ++ v.1)
        (ap (λ (l : List Token). l ++ drop i (take j ts)) (sym (take-take i j ts h)) ∙ take-append-drop i (take j ts))

pub derived_viable : (words : List Name) (ts : List Token) (d : Flow) → Derives words ts d → (i : ℕ) → Viable words (take i ts)
derived_viable words ts d h i = (d, drop i ts, subst (λ (l : List Token). Derives words l d) (sym (take-append-drop i ts)) h)

-- The outcome is a whole text, or 5 or 6.
pub data Answered (ts : List Token) : Type 0 where
  read : (n : ℕ) → outcome ts ≡ whole n → Answered ts
  strayed : (k : ℕ) → outcome ts ≡ stop Reason.Token k → Answered ts
  outgrown : (k : ℕ) → outcome ts ≡ stop Reason.Node k → Answered ts

module _ (words : List Name) (fine : sound words ≡ true) (ts : List Token) (h : all_proper words ts ≡ true) where
  answer_means : (o : Outcome) → outcome ts ≡ o → Means words first ts 0 o
  unfolding outcome
  answer_means o e = subst (Means words first ts 0) e (let a = spare_name words fine in run_means words a.0 a.1 ts h first (good_root words a.0 a.1 depths) 0 0)

  answered_off : (k : ℕ) → outcome ts ≡ stop Reason.Token k → Off words first ts k
  answered_off k e = let r = answer_means (stop Reason.Token k) e in ⊎_elim (λ q. subst (Off words first ts) (omega (arith, r.1)) q.1) (λ q. let z : ⊥ = cc in absurd z) r.2

  answered_big : (k : ℕ) → outcome ts ≡ stop Reason.Node k → Big words first ts k
  answered_big k e = let r = answer_means (stop Reason.Node k) e in ⊎_elim (λ q. let z : ⊥ = cc in absurd z) (λ q. subst (Big words first ts) (omega (arith, r.1)) q.1) r.2

  pub answered : Answered ts
  answered = go (outcome ts) refl
    where
      go : (o : Outcome) → outcome ts ≡ o → Answered ts
      go (whole n) e = read n e
      go (stop c k) e = ⊎_elim (λ q. strayed k (e ∙ ap (λ (c : Reason). stop c k) q.0)) (λ q. outgrown k (e ∙ ap (λ (c : Reason). stop c k) q.0)) (answer_means (stop c k) e).2

  -- A text that is read derives a diagram.
  pub read_derives : (n : ℕ) → outcome ts ≡ whole n → (d : Flow) × Derives words ts d
  read_derives n e = derived words ts (answer_means (whole n) e)

  -- Where a text is off grammar, the tokens before begin some grammatical text, and with the token they begin none, and at the end the text
  -- is none.
  pub off_viable : (k : ℕ) → outcome ts ≡ stop Reason.Token k → (k ≤ length ts) × Viable words (take k ts)
  off_viable k e = let o = answered_off k e in (o.within, viable_of words (take k ts) o.rest o.viable)

  pub off_token : (k : ℕ) → outcome ts ≡ stop Reason.Token k → k < length ts → Viable words (take (suc k) ts) → ⊥
  off_token k e l v = (answered_off k e).astray l v.1 (spelled words (take (suc k) ts ++ v.1) v.0 v.2)

  pub off_end : (k : ℕ) → outcome ts ≡ stop Reason.Token k → k ≡ length ts → (d : Flow) → Derives words ts d → ⊥
  off_end k e l d g = (answered_off k e).unfinished l (spelled words ts d g)

  -- A node too many or too deep is on grammar.
  pub big_viable : (k : ℕ) → outcome ts ≡ stop Reason.Node k → (k < length ts) × Viable words (take (suc k) ts)
  big_viable k e = let b = answered_big k e in (b.within, viable_of words (take (suc k) ts) b.rest b.viable)

  -- The first place where a text is off grammar is the one that is answered, unless a node too many or too deep stands before it.
  pub off_only : (k : ℕ) → Viable words (take k ts) → (k < length ts → Viable words (take (suc k) ts) → ⊥) → (k ≡ length ts → (d : Flow) → Derives words ts d → ⊥) → k ≤ length ts
      → ((j : ℕ) × (outcome ts ≡ stop Reason.Node j) × (j < k)) ⊎ (outcome ts ≡ stop Reason.Token k)
  off_only k v astray unfinished l = go answered
    where
      Here : Type 0
      Here = ((j : ℕ) × (outcome ts ≡ stop Reason.Node j) × (j < k)) ⊎ (outcome ts ≡ stop Reason.Token k)

      -- nothing past k is viable
      past : (j : ℕ) → k < j → j ≤ length ts → Viable words (take j ts) → ⊥
      past j a b w = astray (omega arith) (shorter words (suc k) j ts a w)

      not_read : (d : Flow) → Derives words ts d → (b : Bool) → ltb k (length ts) ≡ b → ⊥
      not_read d g true q = astray (ltb-true k (length ts) q) (derived_viable words ts d g (suc k))
      not_read d g false q = unfinished (omega (arith, ltb-false k (length ts) q)) d g

      same_place : (j : ℕ) → outcome ts ≡ stop Reason.Token j → (before after : Bool) → ltb j k ≡ before → ltb k j ≡ after → Here
      same_place j e true after p q = let z = ltb-true j k p in absurd (off_token j e (omega arith) (shorter words (suc j) k ts z v))
      same_place j e false true p q = let o = off_viable j e in absurd (past j (ltb-true k j q) o.0 o.1)
      same_place j e false false p q =
          let s : j ≡ k = omega (arith, ltb-false j k p, ltb-false k j q) in inr (e ∙ ap (λ (i : ℕ). stop Reason.Token i) s)

      earlier : (j : ℕ) → outcome ts ≡ stop Reason.Node j → (b : Bool) → ltb j k ≡ b → Here
      earlier j e true p = inl (j, e, ltb-true j k p)
      earlier j e false p = let b = big_viable j e in let z = ltb-false j k p in absurd (past (suc j) (omega arith) b.0 b.1)

      go : Answered ts → Here
      go (read n e) = let r = read_derives n e in absurd (not_read r.0 r.1 (ltb k (length ts)) refl)
      go (strayed j e) = same_place j e (ltb j k) (ltb k j) refl refl
      go (outgrown j e) = earlier j e (ltb j k) refl
