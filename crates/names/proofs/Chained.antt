-- A name is looked for among the nodes that are linked by its mark. Assumes nothing.
use mathlib.Core.Path.{◌≡◌, refl, sym, ap, ◌∙◌}
use mathlib.Core.Bool.{Bool, true, false, not, ◌&&◌}
use mathlib.Core.List.{List}
use Prim.Native.Nat.{ℕ, zero, suc, ◌-◌, ◌≤◌, ◌<◌}
use native.Mathlib.Omega.{arith}
use lib.Dec.{eqb}
use lib.ListN.{get_or}
use borrow.Author.Tests.{eq-eqb, eqb-true}
use Rattle.base.proofs.Decided.{same_decides}
use Rattle.base.proofs.Truth.{and_l, and_r, and_i, is_false, by_cases, clash}
use Rattle.diagram.specs.Tree.{Name}
use Rattle.diagram.specs.Names.{same}
use Rattle.tokens.specs.Words.{word_at}
use Rattle.walked.specs.Rows.{row_of}
use Rattle.walked.specs.declared.Row.{Row}
use Rattle.names.specs.code.Marks.{mark_of, titled_at, title_at, unused_at, latest, Linked}

module _ (text : List ℕ) (rows : List Row) (s : ℕ) where
  -- The node u is a leaf or a flow whose name has the mark s.
  abbrev marked : ℕ → Bool
  marked u = titled_at rows u && eqb (mark_of (title_at text rows u)) s

  pub latest_within : (u : ℕ) → latest text rows s u ≤ u
  unfolding latest
  latest_within zero = omega arith
  latest_within (suc u) =
      let l = latest_within u in
      by_cases (marked u) (λ b. rw b (omega arith)) (λ b. rw b (omega arith))

  latest_marked : (u k : ℕ) → latest text rows s u ≡ suc k → (marked k ≡ true) × (k < u)
  unfolding latest
  latest_marked zero k e = let z : ⊥ = omega arith in absurd z
  latest_marked (suc u) k e =
      by_cases (marked u) (λ b.
      let q : u ≡ k = let z = rw b at e in omega arith in
      (ap marked (sym q) ∙ b, omega arith)) (λ b.
      let r = latest_marked u k (rw b at e) in
      (r.0, omega (arith, r.1)))

module _ (text : List ℕ) (rows : List Row) (m : Name) where
  -- A node that is not marked as the name is does not have it.
  other : (u : ℕ) → marked text rows (mark_of m) u ≡ false → (titled_at rows u && same m (title_at text rows u)) ≡ false
  other u e =
      is_false (titled_at rows u && same m (title_at text rows u)) (λ q.
      clash (and_i (and_l (titled_at rows u) (same m (title_at text rows u)) q)
      (eq-eqb (mark_of (title_at text rows u)) (mark_of m)
      (ap mark_of (sym ((same_decides m (title_at text rows u)).0 (and_r (titled_at rows u) (same m (title_at text rows u)) q)))))) e)

  unused_latest : (u : ℕ) → unused_at text rows m u ≡ unused_at text rows m (latest text rows (mark_of m) u)
  unfolding unused_at latest
  unused_latest zero = refl
  unused_latest (suc u) =
      let r = unused_latest u in
      by_cases (marked text rows (mark_of m) u) (λ b. rw b) (λ b. rw (b, other u b) r)

  unused_cons : (j : ℕ) → 0 < j
      → unused_at text rows m j ≡ (not (titled_at rows (j - 1) && same m (title_at text rows (j - 1))) && unused_at text rows m (j - 1))
  unfolding unused_at
  unused_cons zero h = let z : ⊥ = omega arith in absurd z
  unused_cons (suc j) h = let e : suc j - 1 ≡ j = omega arith in rw e

-- The nodes passed do not have the name, and the next that may have it has the number j - 1.
pub record Chain (text : List ℕ) (rows : List Row) (m : Name) (i j : ℕ) : Type 0 where
  pub upto : ℕ
  pub within : upto ≤ i
  pub is : j ≡ latest text rows (mark_of m) upto
  pub left : unused_at text rows m i ≡ unused_at text rows m j

pub chain_start : (text : List ℕ) (rows : List Row) (m : Name) (i j : ℕ) → j ≡ latest text rows (mark_of m) i → Chain text rows m i j
chain_start text rows m i j e = record { upto = i; within = omega arith; is = e; left = unused_latest text rows m i ∙ ap (unused_at text rows m) (sym e) }

module _ {text : List ℕ} {rows : List Row} {m : Name} {i j : ℕ} (s : Chain text rows m i j) where
  pub chain_end : j ≤ 0 → false ≡ not (unused_at text rows m i)
  unfolding unused_at
  chain_end h = let e : j ≡ 0 = omega arith in rw (s.left, e)

  module _ (h : 0 < j) where
    its : (marked text rows (mark_of m) (j - 1) ≡ true) × (j - 1 < s.upto)
    its = latest_marked text rows (mark_of m) s.upto (j - 1) (sym s.is ∙ omega arith)

    titled : titled_at rows (j - 1) ≡ true
    titled = and_l (titled_at rows (j - 1)) (eqb (mark_of (title_at text rows (j - 1))) (mark_of m)) its.0

    pub chain_found : {x : ℕ} {b : Bool} → x ≡ (row_of rows (j - 1)).node.name → b ≡ same m (word_at text x) → b ≡ true → true ≡ not (unused_at text rows m i)
    chain_found q p e = rw (s.left, unused_cons text rows m j h, titled, ← q, ← p, e)

    pub chain_next : {x : ℕ} {b : Bool} {links : List ℕ} {k : ℕ} → x ≡ (row_of rows (j - 1)).node.name → b ≡ same m (word_at text x) → b ≡ false
        → Linked text rows links i → k ≡ get_or links (j - 1) 0 → Chain text rows m i k
    chain_next {x} {b} {links} {k} q p e l n =
        let mark : mark_of (title_at text rows (j - 1)) ≡ mark_of m =
        eqb-true (mark_of (title_at text rows (j - 1))) (mark_of m)
        (and_r (titled_at rows (j - 1)) (eqb (mark_of (title_at text rows (j - 1))) (mark_of m)) its.0) in
        let z : k ≡ latest text rows (mark_of m) (j - 1) = n ∙ l.each (j - 1) (omega (arith, its.1, s.within)) titled ∙ rw mark in
        let other : same m (title_at text rows (j - 1)) ≡ false = rw (← q, ← p) e in
        record {
          upto = j - 1;
          within = omega (arith, its.1, s.within);
          is = z;
          left = s.left ∙ rw (unused_cons text rows m j h, titled, other, z) (unused_latest text rows m (j - 1));
        }
