-- Number 7 along the nodes: each leaf and flow is linked to the last one before it whose name has the same mark. Assumes nothing.
use mathlib.Core.Path.{◌≡◌, refl, sym, ap, ◌∙◌}
use mathlib.Core.Bool.{Bool, true, false, not}
use mathlib.Core.List.{List, []}
use Prim.Native.Nat.{ℕ, zero, suc, ◌+◌, ◌≤◌, ◌<◌}
use native.Mathlib.Numerals.{add-one}
use native.Mathlib.Omega.{arith}
use lib.Dec.{eqb}
use lib.ListN.{length, drop, get_or, set, replicate, length-set}
use lib.Seq.{get_or-set_same, get_or-set_other}
use borrow.Author.Tests.{eq-eqb, ne_eqb, eqb-true, eqb-false, not-true, not-false}
use Rattle.base.proofs.Truth.{by_cases, clash}
use Rattle.diagram.specs.Tree.{Name}
use Rattle.diagram.specs.TreeNodes.{titled, has_name}
use Rattle.tokens.specs.Words.{word_at}
use Rattle.rules.specs.Kept.{unused, names_kept, fault}
use Rattle.walked.specs.Rows.{past_word}
use Rattle.std.specs.Prelude.{Some}
use Rattle.walked.specs.Rows.{row_of}
use Rattle.walked.specs.declared.Row.{Row}
use Rattle.names.specs.code.Told.{node, earlier, Told}
use Rattle.names.specs.code.Marks.{mark_of, titled_at, title_at, unused_at, latest, Linked, Falling}
use Rattle.names.proofs.Titled.{titled_named}
use Rattle.names.proofs.Tables.{zeros}
use Rattle.names.proofs.Searched.{Searched, search_next, search_here}

-- The names of the nodes are those of their rows.
module _ {text : List ℕ} {rows : List Row} {count : ℕ} (t : Told text rows count) where
  module _ (i : ℕ) (h : i < count) where
    its_title : titled (node t.hs i).kind ≡ titled_at rows i
    its_title = rw (t.row i h).kind

    named : titled_at rows i ≡ true → has_name (node t.hs i).kind ≡ true
    named e = titled_named (node t.hs i).kind (its_title ∙ e)

    its_name : titled_at rows i ≡ true → (node t.hs i).name ≡ title_at text rows i
    its_name e = (t.row i h).word ∙ rw (named e)

    -- A mark by the places of the row is that of the name.
    pub its_mark : titled_at rows i ≡ true → {at end s : ℕ} → at ≡ (row_of rows i).node.name → end ≡ (row_of rows i).past
        → (end ≡ past_word text at → s ≡ mark_of (word_at text at)) → s ≡ mark_of (title_at text rows i)
    its_mark e {at} {end} {s} p q mark = mark (q ∙ (t.row i h).past (named e) ∙ rw p) ∙ rw p

  unused_told : (m : Name) (i : ℕ) → i ≤ count → unused m (earlier t.hs i) ≡ unused_at text rows m i
  unfolding earlier unused_at
  unused_told m zero h = refl
  unused_told m (suc i) h =
      let r = unused_told m i (omega arith) in
      rw (r, its_title i h) (by_cases (titled_at rows i) (λ e. rw (e, its_name i h e)) (λ e. rw e))

-- One table has a node of the first i or none for each mark, the other leads from each node to an earlier one or none.
pub record Linkable (heads links : List ℕ) (i : ℕ) : Type 0 where
  pub marks : length heads ≡ 512
  pub nodes : length links ≡ 256
  pub low : (s : ℕ) → get_or heads s 0 ≤ i
  pub falling : Falling links

pub linkable_start : Linkable (replicate 512 0) (replicate 256 0) 0
linkable_start =
    record {
      marks = refl;
      nodes = refl;
      low = λ s. let e = zeros 512 s in omega arith;
      falling = record { each = λ k. let e = zeros 256 k in omega arith };
    }

module _ {heads links : List ℕ} {i : ℕ} (r : Linkable heads links i) where
  pub linkable_none : Linkable heads links (i + 1)
  linkable_none = record { marks = r.marks; nodes = r.nodes; low = λ s. omega (arith, r.low s); falling = r.falling }

  pub linkable_next : {s : ℕ} → s < 512 → i < 256 → Linkable (set heads s (i + 1)) (set links i (get_or heads s 0)) (i + 1)
  linkable_next {s} l h =
      record {
        marks = simp length-set r.marks;
        nodes = simp length-set r.nodes;
        low = λ k.
            by_cases (eqb k s) (λ w. rw (eqb-true k s w, get_or-set_same heads s (i + 1) 0 (omega (arith, r.marks))) (omega arith)) (λ w.
            rw (get_or-set_other heads s k (i + 1) 0 (eqb-false k s w)) (omega (arith, r.low k)));
        falling = record {
          each = λ k.
              by_cases (eqb k i) (λ w. rw (eqb-true k i w, get_or-set_same links i (get_or heads s 0) 0 (omega (arith, r.nodes))) (r.low s)) (λ w.
              rw (get_or-set_other links i k (get_or heads s 0) 0 (eqb-false k i w)) (r.falling.each k));
        };
      }

-- Of the nodes before the number i, one table has the last of each mark, and the other has the links.
pub record Linking (text : List ℕ) (rows : List Row) (heads links : List ℕ) (i : ℕ) : Type 0 where
  pub headed : (s : ℕ) → s < 512 → get_or heads s 0 ≡ latest text rows s i
  pub linked : Linked text rows links i

pub linking_start : (text : List ℕ) (rows : List Row) → Linking text rows (replicate 512 0) (replicate 256 0) 0
unfolding latest
linking_start text rows =
    record { headed = λ s h. zeros 512 s; linked = record { each = λ k h. let z : ⊥ = omega arith in absurd z } }

module _ (text : List ℕ) (rows : List Row) (s i : ℕ) where
  latest_here : titled_at rows i ≡ true → mark_of (title_at text rows i) ≡ s → latest text rows s (i + 1) ≡ i + 1
  unfolding latest
  latest_here e q = rw (add-one i, e, eq-eqb (mark_of (title_at text rows i)) s q)

  latest_other : titled_at rows i ≡ true → (mark_of (title_at text rows i) ≡ s → ⊥) → latest text rows s (i + 1) ≡ latest text rows s i
  unfolding latest
  latest_other e q = rw (add-one i, e, ne_eqb (mark_of (title_at text rows i)) s q)

  latest_none : titled_at rows i ≡ false → latest text rows s (i + 1) ≡ latest text rows s i
  unfolding latest
  latest_none e = rw (add-one i, e)

module _ {text : List ℕ} {rows : List Row} {heads links : List ℕ} {i : ℕ} (r : Linking text rows heads links i) where
  -- The node i has no name.
  pub linking_none : titled_at rows i ≡ false → Linking text rows heads links (i + 1)
  linking_none e =
      record {
        headed = λ s h. r.headed s h ∙ sym (latest_none text rows s i e);
        linked = record {
          each = λ k h f.
              by_cases (eqb k i) (λ q. absurd (clash f (ap (titled_at rows) (eqb-true k i q) ∙ e))) (λ q.
              let ne = eqb-false k i q in
              r.linked.each k (omega arith) f);
        };
      }

  -- It has one, whose mark is s.
  pub linking_next : {s : ℕ} → Linkable heads links i → titled_at rows i ≡ true → i < 256 → s ≡ mark_of (title_at text rows i) → s < 512
      → Linking text rows (set heads s (i + 1)) (set links i (get_or heads s 0)) (i + 1)
  linking_next {s} room e h p l =
      let v = get_or heads s 0 in
      record {
        headed = λ k u.
            by_cases (eqb k s) (λ w.
            rw (eqb-true k s w, get_or-set_same heads s (i + 1) 0 (omega (arith, room.marks)), latest_here text rows s i e (sym p))) (λ w.
            let ne = eqb-false k s w in
            get_or-set_other heads s k (i + 1) 0 ne ∙ r.headed k u ∙ sym (latest_other text rows k i e (λ g. ne (sym g ∙ sym p))));
        linked = record {
          each = λ k u f.
              by_cases (eqb k i) (λ w. rw (eqb-true k i w, get_or-set_same links i v 0 (omega (arith, room.nodes)), ← p) (r.headed s l)) (λ w.
              let ne = eqb-false k i w in
              get_or-set_other links i k v 0 ne ∙ r.linked.each k (omega arith) f);
        };
      }

  -- What a search along the links finds.
  pub found_by_links : {at s w : ℕ} {b : Bool} → at ≡ (row_of rows i).node.name → s ≡ mark_of (title_at text rows i) → s < 512 → w ≡ get_or heads s 0
      → ((j : ℕ) → Linked text rows links j → w ≡ latest text rows (mark_of (word_at text at)) j → b ≡ not (unused_at text rows (word_at text at) j))
      → b ≡ not (unused_at text rows (title_at text rows i) i)
  found_by_links {at} {s} {w} {b} p q l v search = search i r.linked (rw (p, ← q) (v ∙ r.headed s l)) ∙ rw p

-- Whether the name that it has is used before it.
module _ {text : List ℕ} {rows : List Row} {count i : ℕ} (t : Told text rows count) (h : i < count) (r : Searched names_kept t.hs i) (e : titled_at rows i ≡ true)
    {b : Bool}
    (p : b ≡ not (unused_at text rows (title_at text rows i) i)) where
  kept : names_kept (earlier t.hs i) (node t.hs i) (drop (i + 1) t.hs) ≡ unused_at text rows (title_at text rows i) i
  kept = rw (its_title t i h, e, its_name t i h e) (unused_told t (title_at text rows i) i (omega arith))

  pub name_twice : b ≡ true → fault names_kept [] t.hs ≡ Some i
  name_twice q = search_here r (omega (arith, t.many)) (t.row i h).number (kept ∙ not-true (unused_at text rows (title_at text rows i) i) (sym p ∙ q))

  pub name_next : b ≡ false → Searched names_kept t.hs (i + 1)
  name_next q = search_next r (omega (arith, t.many)) (kept ∙ not-false (unused_at text rows (title_at text rows i) i) (sym p ∙ q))

-- The node i has no name.
pub name_none : {text : List ℕ} {rows : List Row} {count i : ℕ} (t : Told text rows count) → i < count → Searched names_kept t.hs i → titled_at rows i ≡ false
    → Searched names_kept t.hs (i + 1)
name_none {text} {rows} {count} {i} t h r e = search_next r (omega (arith, t.many)) (rw (its_title t i h, e))
