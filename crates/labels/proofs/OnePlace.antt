-- A name of an accepted text stands at one place, since "leaf and flow names all differ".
use mathlib.Core.Path.{◌≡◌, refl, sym, ap, ◌∙◌}
use mathlib.Core.Bool.{true, not, false≢true}
use mathlib.Core.List.{List, ◌∷◌}
use Prim.Native.Nat.{ℕ, zero, suc, ◌+◌}
use native.Mathlib.Omega.{arith}
use lib.ListN.{get_or, drop}
use Rattle.base.proofs.Truth.{clash, and_l, and_r, not_e}
use Rattle.base.proofs.Decided.{same_decides}
use Rattle.diagram.specs.Tree.{Name, Flow}
use Rattle.diagram.specs.Names.{same, new, differ}
use Rattle.diagram.specs.TreeNodes.{TextNode}
use Rattle.tokens.specs.Words.{keywords, word_at}
use Rattle.tokens.specs.Spans.{places}
use Rattle.tokens.specs.Token.{Token, sign, key, name, numeral, other, text_tokens}
use Rattle.grammar.specs.Machine.{is_key}
use Rattle.walked.proofs.Past.{word_there}
use Rattle.reading.specs.Accepted.{Accepted}
use Rattle.labels.specs.Stands.{titling, Stands}
use Rattle.labels.proofs.KeyNodes.{Keyed, empty, no_key, title, no_title, text_keyed}

-- Among some tokens the keyword of a leaf or flow, and the name two tokens on.
record Title (ts : List Token) (i : ℕ) (n : Name) : Type 0 where
  its_kind : titling (get_or ts i other) ≡ true
  after : List Token
  its_name : drop (suc (suc i)) ts ≡ name n ∷ after

titling_key : (t : Token) → titling t ≡ true → is_key t ≡ true
titling_key (sign s) h = h
titling_key (key k) h = refl
titling_key (name w) h = h
titling_key (numeral n) h = h
titling_key other h = h

-- Past the first of the tokens, and before it.
past_first : {t : Token} {ts : List Token} {i : ℕ} {n : Name} → Title (t ∷ ts) (suc i) n → Title ts i n
past_first s = record { its_kind = s.its_kind; after = s.after; its_name = s.its_name }

before_first : {t : Token} {ts : List Token} {i : ℕ} → (n : Name) × Title ts i n → (n : Name) × Title (t ∷ ts) (suc i) n
before_first s = (s.0, record { its_kind = s.1.its_kind; after = s.1.after; its_name = s.1.its_name })

-- Each such keyword has a name.
its_title : {i : ℕ} {ts : List Token} {hs : List TextNode} {ns : List Name} → Keyed i ts hs ns → (a : ℕ) → titling (get_or ts a other) ≡ true
    → (n : Name) × Title ts a n
its_title empty a t = absurd (false≢true t)
its_title (no_key {t = s} q k) zero t = absurd (clash (titling_key s t) q)
its_title (no_key q k) (suc a) t = before_first (its_title k a t)
its_title (title {n = n} {ts = ts} m s p q k) zero t = (n, record { its_kind = t; after = ts; its_name = refl })
its_title (title m s p q k) (suc a) t = before_first (its_title k a t)
its_title (no_title m q k) zero t = absurd (clash t m)
its_title (no_title m q k) (suc a) t = before_first (its_title k a t)

first_name : {t u : Token} {n m : Name} {ts : List Token} → Title (t ∷ u ∷ name n ∷ ts) 0 m → m ≡ n
first_name s = let e = s.its_name in cc e

-- A name that is none of the names is that of no keyword.
absent : {i : ℕ} {ts : List Token} {hs : List TextNode} {ns : List Name} → Keyed i ts hs ns → (m : Name) → new m ns ≡ true → (a : ℕ) → Title ts a m → ⊥
absent empty m f a s = false≢true s.its_kind
absent (no_key {t = t} q k) m f zero s = clash (titling_key t s.its_kind) q
absent (no_key q k) m f (suc a) s = absent k m f a (past_first s)
absent (title {n = n} {ns = ns} u v p q k) m f zero s =
    clash ((same_decides m n).1 (first_name s)) (not_e (same m n) (and_l (not (same m n)) (new m ns) f))
absent (title {n = n} {ns = ns} u v p q k) m f (suc a) s = absent k m (and_r (not (same m n)) (new m ns) f) a (past_first s)
absent (no_title u q k) m f zero s = clash s.its_kind u
absent (no_title u q k) m f (suc a) s = absent k m f a (past_first s)

-- Two keywords of one name are one.
once : {i : ℕ} {ts : List Token} {hs : List TextNode} {ns : List Name} → Keyed i ts hs ns → differ ns ≡ true → (m : Name) (a b : ℕ)
    → Title ts a m → Title ts b m → a ≡ b
once empty f m a b s t = absurd (false≢true s.its_kind)
once (no_key {t = u} q k) f m zero b s t = absurd (clash (titling_key u s.its_kind) q)
once (no_key {t = u} q k) f m (suc a) zero s t = absurd (clash (titling_key u t.its_kind) q)
once (no_key q k) f m (suc a) (suc b) s t = ap suc (once k f m a b (past_first s) (past_first t))
once (title u v p q k) f m zero zero s t = refl
once (title {n = n} {ns = ns} u v p q k) f m zero (suc b) s t = absurd (absent k m (rw (first_name s) (and_l (new n ns) (differ ns) f)) b (past_first t))
once (title {n = n} {ns = ns} u v p q k) f m (suc a) zero s t = absurd (absent k m (rw (first_name t) (and_l (new n ns) (differ ns) f)) a (past_first s))
once (title {n = n} {ns = ns} u v p q k) f m (suc a) (suc b) s t = ap suc (once k (and_r (new n ns) (differ ns) f) m a b (past_first s) (past_first t))
once (no_title u q k) f m zero b s t = absurd (clash s.its_kind u)
once (no_title u q k) f m (suc a) zero s t = absurd (clash t.its_kind u)
once (no_title u q k) f m (suc a) (suc b) s t = ap suc (once k f m a b (past_first s) (past_first t))

-- The keyword before a name that stands at a place.
titled_so : (text : List ℕ) (d : Flow) → Accepted text d → (n : Name) (p : ℕ) (s : Stands text n p) → Title (text_tokens keywords text) s.keyword n
titled_so text d a n p s =
    let k = s.keyword in
    let r = its_title (text_keyed text d a.derived) k s.its_kind in
    let two : k + 2 ≡ suc (suc k) = omega arith in
    let e : n ≡ r.0 =
    sym s.its_name ∙ (ap (word_at text) (s.its_place ∙ ap (λ (x : ℕ). get_or (places text) x 0) two)
    ∙ word_there text (suc (suc k)) r.0 r.1.after r.1.its_name) in
    rw e r.1

pub one_place : (text : List ℕ) (d : Flow) → Accepted text d → (n : Name) (p q : ℕ) → Stands text n p → Stands text n q → p ≡ q
one_place text d a n p q s t =
    let one = once (text_keyed text d a.derived) a.keeps.names n s.keyword t.keyword (titled_so text d a n p s) (titled_so text d a n q t) in
    s.its_place ∙ (ap (λ (k : ℕ). get_or (places text) (k + 2) 0) one ∙ sym t.its_place)
