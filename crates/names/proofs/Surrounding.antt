-- The pars around a node, by their places. Assumes nothing.
use mathlib.Core.Path.{◌≡◌, refl, sym, ap, ap₂, subst, ◌∙◌}
use mathlib.Core.Bool.{Bool, true, false}
use mathlib.Core.List.{List, [], ◌∷◌}
use Prim.Native.Nat.{ℕ, zero, suc, ◌+◌, ◌-◌, ◌≤◌, ◌<◌}
use native.Mathlib.Numerals.{add-one}
use native.Mathlib.Omega.{arith}
use lib.Dec.{ltb}
use lib.ListN.{length, set, take}
use lib.Seq.{get_or-take, length-take-le, get_or-set_same, get_or-set_other}
use borrow.Author.Tests.{ltb-true, ltb-false}
use Rattle.base.proofs.Truth.{by_cases}
use Rattle.diagram.specs.Tree.{Name}
use Rattle.diagram.specs.Names.{same, new}
use Rattle.tokens.specs.Words.{word_at}
use Rattle.walked.specs.Rows.{past_word}
use Rattle.walked.specs.Rows.{row_of}
use Rattle.walked.specs.declared.Row.{Row}
use Rattle.names.specs.code.Pars.{par_start, pars_at, Around}

-- Where the par of the node j ends.
module _ (text : List ℕ) (rows : List Row) where
  abbrev Ends : ℕ → Type 0
  Ends j = ((row_of rows j).past ≡ past_word text (row_of rows j).node.name) × ((row_of rows j).past ≤ length text)

  ends_at : {j k : ℕ} → j ≡ k → Ends k → Ends j
  ends_at e h = subst Ends (sym e) h

module _ (text : List ℕ) (rows : List Row) (pars : List ℕ) where
  pub pars_none : (n : ℕ) → n ≤ 0 → pars_at text rows pars n ≡ []
  unfolding pars_at
  pars_none n h = let e : n ≡ 0 = omega arith in rw e

  pub pars_first : (n : ℕ) → 0 < n → pars_at text rows pars n ≡ word_at text (par_start rows pars (n - 1)) ∷ pars_at text rows pars (n - 1)
  unfolding pars_at
  pars_first zero h = let z : ⊥ = omega arith in absurd z
  pars_first (suc n) h = let e : suc n - 1 ≡ n = omega arith in rw e

  pub pars_count : (n : ℕ) → length (pars_at text rows pars n) ≡ n
  unfolding pars_at
  pars_count zero = refl
  pars_count (suc n) = ap suc (pars_count n)

  one_more : {j k : ℕ} {ns ms : List Name} → j ≡ k → ns ≡ ms
      → ◌≡◌ {A = List Name} (word_at text (row_of rows j).node.name ∷ ns) (word_at text (row_of rows k).node.name ∷ ms)
  one_more p q = ap₂ (λ (k : ℕ) (ns : List Name). word_at text (row_of rows k).node.name ∷ ns) p q

  -- The first ones alone.
  pub pars_take : (n m : ℕ) → m ≤ n → pars_at text rows (take n pars) m ≡ pars_at text rows pars m
  unfolding pars_at
  pars_take n zero h = refl
  pars_take n (suc m) h = one_more (get_or-take n pars m 0 (omega arith)) (pars_take n m (omega arith))

  -- Another one after them.
  pub pars_set : (k v n : ℕ) → n ≤ k → pars_at text rows (set pars k v) n ≡ pars_at text rows pars n
  unfolding pars_at
  pars_set k v zero h = refl
  pars_set k v (suc n) h = one_more (get_or-set_other pars k n v 0 (λ e. omega arith)) (pars_set k v n (omega arith))

module _ {text : List ℕ} {rows : List Row} {pars : List ℕ} {n : ℕ} {names : List Name} (s : Around text rows pars n names) where
  pub around_take : n ≤ length pars → Around text rows (take n pars) (length (take n pars)) names
  around_take h =
      rw (length-take-le n pars h)
      (record { is = s.is ∙ sym (pars_take text rows pars n n (omega arith)); ended = λ k l. ends_at text rows (get_or-take n pars k 0 l) (s.ended k l) })

  pub around_set : (k x : ℕ) → n ≤ k → Around text rows (set pars k x) n names
  around_set k x h =
      record {
        is = s.is ∙ sym (pars_set text rows pars k x n h);
        ended = λ j l. ends_at text rows (get_or-set_other pars k j x 0 (λ e. omega arith)) (s.ended j l);
      }

  -- One more, which has the number x.
  pub around_more : (x : ℕ) {m : Name} → n < length pars → m ≡ word_at text ((row_of rows x).node.name)
      → (row_of rows x).past ≡ past_word text ((row_of rows x).node.name) → (row_of rows x).past ≤ length text
      → Around text rows (set pars n x) (n + 1) (m ∷ names)
  unfolding pars_at
  around_more x {m} p w e l =
      record {
        is = rw (add-one n, w, s.is) (sym (one_more text rows pars (get_or-set_same pars n x 0 p) (pars_set text rows pars n x n (omega arith))));
        ended = λ j u.
            by_cases (ltb j n) (λ z. (around_set n x (omega arith)).ended j (ltb-true j n z)) (λ z.
            let one : j ≡ n = let v = ltb-false j n z in omega arith in
            rw one (ends_at text rows (get_or-set_same pars n x 0 p) (e, l)));
      }

-- The pars from the place k on differ from m.
pub record Fresh (text : List ℕ) (rows : List Row) (pars : List ℕ) (m : Name) (n k : ℕ) : Type 0 where
  pub within : k ≤ n
  pub is : new m (pars_at text rows pars n) ≡ new m (pars_at text rows pars k)

pub fresh_start : (text : List ℕ) (rows : List Row) (pars : List ℕ) (m : Name) (n : ℕ) → Fresh text rows pars m n n
fresh_start text rows pars m n = record { within = omega arith; is = refl }

module _ {text : List ℕ} {rows : List Row} {pars : List ℕ} {m : Name} {n k : ℕ} (s : Fresh text rows pars m n k) where
  pub fresh_end : k ≤ 0 → true ≡ new m (pars_at text rows pars n)
  fresh_end h = rw (s.is, pars_none text rows pars k h)

  module _ (h : 0 < k) {x : ℕ} {b : Bool} (q : x ≡ par_start rows pars (k - 1)) (p : b ≡ same m (word_at text x)) where
    pub fresh_twice : b ≡ true → false ≡ new m (pars_at text rows pars n)
    fresh_twice e = rw (s.is, pars_first text rows pars k h, ← q, ← p, e)

    pub fresh_next : b ≡ false → Fresh text rows pars m n (k - 1)
    fresh_next e = record { within = omega (arith, s.within); is = s.is ∙ rw (pars_first text rows pars k h, ← q, ← p, e) }
