-- The pars that a flow lists, read one after the other beside those around it. Assumes nothing.
use mathlib.Core.Path.{◌≡◌, refl, sym, ap, ◌∙◌}
use mathlib.Core.Bool.{Bool, true, false}
use mathlib.Core.List.{List, [], ◌∷◌, ◌++◌, reverse, reverse-append, reverse-reverse}
use Prim.Native.Nat.{ℕ, zero, suc, ◌+◌, ◌-◌, ◌≤◌, ◌<◌}
use native.Mathlib.Nat.{add-zero, zero-add}
use native.Mathlib.Omega.{arith}
use lib.Dec.{eqb}
use lib.ListN.{length, get_or, drop}
use borrow.Author.Tests.{eq-eqb, ne_eqb, eqb-true, not-true, not-false}
use Rattle.base.proofs.Decided.{all_same_decides}
use Rattle.base.proofs.Truth.{and_l, and_r, agree}
use Rattle.diagram.specs.Tree.{Name}
use Rattle.diagram.specs.Names.{equal, same}
use Rattle.tokens.specs.Classes.{class_of}
use Rattle.tokens.specs.Remarks.{blanks}
use Rattle.tokens.specs.Words.{keywords, word_at}
use Rattle.tokens.specs.Token.{closing, comma, Token, sign, name, named}
use Rattle.grammar.specs.Tokens.{pars_tokens, bit}
use Rattle.grammar.specs.Named.{all_named}
use Rattle.walked.specs.Rows.{tokens_from, past_word, Listed}
use Rattle.std.proofs.Common.{not, Option, Some, None}
use Rattle.std.specs.Option.{is_some}
use Rattle.walked.specs.declared.Row.{Row}
use Rattle.names.specs.code.Pars.{par_start, pars_at, Around, ParNext}
use Rattle.names.proofs.Fronts.{Front, inside, past_comma, name_word, name_letter, past_name, bit_digit}

-- m pars around from the k-th on, outermost first.
abbrev pub pars_on : List ℕ → List Row → List ℕ → ℕ → ℕ → List Name
pars_on text rows pars k zero = []
pars_on text rows pars k (suc m) = word_at text (par_start rows pars k) ∷ pars_on text rows pars (k + 1) m

module _ (text : List ℕ) (rows : List Row) (pars : List ℕ) where
  pars_last : (k m : ℕ) → pars_on text rows pars k (suc m) ≡ pars_on text rows pars k m ++ (word_at text (par_start rows pars (k + m)) ∷ [])
  pars_last k zero = rw (add-zero k)
  pars_last k (suc m) =
      let e : k + 1 + m ≡ k + suc m = omega arith in
      let r = rw e at (pars_last (k + 1) m) in
      ap (λ (ns : List Name). word_at text (par_start rows pars k) ∷ ns) r

  pars_turned : (n : ℕ) → reverse (pars_on text rows pars 0 n) ≡ pars_at text rows pars n
  unfolding pars_at
  pars_turned zero = refl
  pars_turned (suc n) =
      ap reverse (pars_last 0 n)
      ∙ reverse-append (pars_on text rows pars 0 n) (word_at text (par_start rows pars (0 + n)) ∷ [])
      ∙ rw (zero-add n, pars_turned n)

equal_turned : (l m : List Name) → equal same (reverse l) (reverse m) ≡ equal same l m
equal_turned l m =
    agree (equal same (reverse l) (reverse m)) (equal same l m) (λ e.
    (all_same_decides l m).1 (sym (reverse-reverse l) ∙ ap reverse ((all_same_decides (reverse l) (reverse m)).0 e) ∙ reverse-reverse m)) (λ e.
    (all_same_decides (reverse l) (reverse m)).1 (ap reverse ((all_same_decides l m).0 e)))

-- k pars are read and are the first k around; more are listed from p on.
pub record Reading (text : List ℕ) (rows : List Row) (pars : List ℕ) (n : ℕ) (ps ns : List Name) (p k : ℕ) : Type 0 where
  pub left : List Name
  pub sw : Bool
  pub others : List Token
  pub names : all_named keywords left ≡ true
  pub tokens : tokens_from text p ≡ pars_tokens left (sign comma ∷ bit sw ∷ sign closing ∷ others)
  pub is : equal same (reverse ps) ns ≡ equal same left (pars_on text rows pars k (n - k))

pub read_start : {text : List ℕ} {rows : List Row} {pars : List ℕ} {n at p : ℕ} {ps ns : List Name} → p ≡ past_word text at → Listed text at ps → Around text rows pars n ns
    → Reading text rows pars n ps ns p 0
read_start {text} {rows} {pars} {n} {at} {p} {ps} {ns} e l a =
    let all : n - 0 ≡ n = omega arith in
    record {
      left = ps;
      sw = l.sw;
      others = l.others;
      names = l.names;
      tokens = rw e l.tokens;
      is = rw (a.is, ← pars_turned text rows pars n, all) (equal_turned ps (pars_on text rows pars 0 n));
    }

ends_at : (text : List ℕ) (rows : List Row) (pars : List ℕ) (k m : ℕ) → equal same [] (pars_on text rows pars k m) ≡ eqb m 0
ends_at text rows pars k zero = refl
ends_at text rows pars k (suc m) = sym (ne_eqb (suc m) 0 (λ e. omega arith))

all_read : (k n : ℕ) → k ≤ n → eqb (n - k) 0 ≡ eqb k n
all_read k n l =
    agree (eqb (n - k) 0) (eqb k n) (λ e. let z = eqb-true (n - k) 0 e in eq-eqb k n (omega arith))
    (λ e. let z = eqb-true k n e in eq-eqb (n - k) 0 (omega arith))

-- Past the blanks there is a comma at i, and past those after it stands a byte of the class c at j.
module _ {text : List ℕ} {rows : List Row} {pars : List ℕ} {n : ℕ} {ps ns : List Name} {p k : ℕ} (s : Reading text rows pars n ps ns p k) {i : ℕ}
    (I : i ≡ p + blanks (drop p text)) where
  abbrev end : List Token
  end = sign comma ∷ bit s.sw ∷ sign closing ∷ s.others

  comma_inside : (left : List Name) → tokens_from text p ≡ pars_tokens left end → i < length text
  comma_inside [] e = let f : Front text p i (sign comma) (bit s.sw ∷ sign closing ∷ s.others) = record { gap = I; tokens = e } in inside f
  comma_inside (q ∷ qs) e = let f : Front text p i (sign comma) (name q ∷ pars_tokens qs end) = record { gap = I; tokens = e } in inside f

  pub read_inside : i < length text
  read_inside = comma_inside s.left s.tokens

  module _ {j : ℕ} (J : j ≡ i + 1 + blanks (drop (i + 1) text)) {c : ℕ} (C : c ≡ class_of (get_or text j 0)) where
    second : {u : Token} {us : List Token} → tokens_from text p ≡ sign comma ∷ u ∷ us → Front text (i + 1) j u us
    second {u} {us} e = let f : Front text p i (sign comma) (u ∷ us) = record { gap = I; tokens = e } in record { gap = J; tokens = past_comma f }

    -- No more pars, or one more.
    no_par : (left : List Name) → all_named keywords left ≡ true → tokens_from text p ≡ pars_tokens left end → (c ≡ 5 → ⊥) → left ≡ []
    no_par [] h e f = refl
    no_par (q ∷ qs) h e f = absurd (f (C ∙ name_letter (second e) (and_l (named keywords q) (all_named keywords qs) h)))

    one_par : (left : List Name) → all_named keywords left ≡ true → tokens_from text p ≡ pars_tokens left end → c ≡ 5
        → (qs : List Name) × (left ≡ word_at text j ∷ qs) × (all_named keywords qs ≡ true) × (tokens_from text (past_word text j) ≡ pars_tokens qs end)
    one_par [] h e f = let z = C ∙ bit_digit s.sw (second e) in let no : ⊥ = omega arith in absurd no
    one_par (q ∷ qs) h e f =
        let N = and_l (named keywords q) (all_named keywords qs) h in
        let t = second e in
        (qs, ap (λ (m : Name). m ∷ qs) (sym (name_word t N)), and_r (named keywords q) (all_named keywords qs) h, past_name t N)

    pub read_end : (c ≡ 5 → ⊥) → k ≤ n → eqb k n ≡ equal same (reverse ps) ns
    read_end f l =
        let e = no_par s.left s.names s.tokens f in
        sym (s.is ∙ rw (e, ends_at text rows pars k (n - k)) (all_read k n l))

    module _ (f : c ≡ 5) where
      more : (qs : List Name) × (s.left ≡ word_at text j ∷ qs) × (all_named keywords qs ≡ true) × (tokens_from text (past_word text j) ≡ pars_tokens qs end)
      more = one_par s.left s.names s.tokens f

      pub read_over : n ≤ k → false ≡ equal same (reverse ps) ns
      read_over l = let e : n - k ≡ 0 = omega arith in sym (s.is ∙ rw (more.1, e))

      -- Whether it is the one around.
      module _ (l : k < n) {x : ℕ} {b : Bool} (X : x ≡ par_start rows pars k) (q : b ≡ same (word_at text j) (word_at text x)) where
        one : n - k ≡ suc (n - (k + 1))
        one = omega arith

        pub read_other : b ≡ false → false ≡ equal same (reverse ps) ns
        read_other z = sym (s.is ∙ rw (more.1, one, ← X, ← q, z))

        pub read_next : {e : ℕ} → b ≡ true → e ≡ past_word text j → Reading text rows pars n ps ns e (k + 1)
        read_next {e} z w =
            record {
              left = more.0;
              sw = s.sw;
              others = s.others;
              names = more.2;
              tokens = rw w more.3;
              is = s.is ∙ ap (λ (ns : List Name). equal same ns (pars_on text rows pars k (n - k))) more.1 ∙ rw (one, ← X, ← q, z);
            }

-- All are read: no more may come.
pub ends_here : {text : List ℕ} {rows : List Row} {pars : List ℕ} {n : ℕ} {ps ns : List Name} {p k : ℕ} → Reading text rows pars n ps ns p k → k ≡ n → (r : Option ℕ) → ParNext text p r
    → {b : Bool} → is_some r ≡ not b → b ≡ equal same (reverse ps) ns
ends_here {text} {rows} {pars} {n} {ps} {ns} {p} {k} s e None q {b} z =
    let t : b ≡ true = not-false b (sym z) in
    t ∙ sym (eq-eqb k n e) ∙ read_end s refl refl refl (q (read_inside s refl)) (omega arith)
ends_here {text} {rows} {pars} {n} {ps} {ns} {p} {k} s e (Some j) q {b} z =
    let f : b ≡ false = not-true b (sym z) in
    f ∙ read_over s refl q.1 refl q.2 (omega arith)
