-- The solid children of flows, from the last node to the first: their weights by a table of depths. Assumes nothing.
use mathlib.Core.Path.{◌≡◌, refl, sym, ap, ◌∙◌}
use mathlib.Core.Bool.{Bool, true, false, ◌&&◌, cond}
use mathlib.Core.List.{List, [], ◌∷◌}
use Prim.Native.Nat.{ℕ, suc, ◌+◌, ◌≤◌, ◌<◌}
use native.Mathlib.Omega.{arith}
use lib.Dec.{eqb, ltb}
use lib.ListN.{length, drop, get_or, set, replicate, length-set}
use lib.Seq.{get_or-set_same, get_or-set_other}
use borrow.Author.Tests.{ltb-true, ltb-false, eq-eqb, ne_eqb, eqb-true, eqb-false, le-leb, lt-leb}
use Rattle.base.proofs.Truth.{by_cases}
use Rattle.diagram.specs.TreeNodes.{TextNode, flowing, may_be_solid}
use Rattle.diagram.specs.declared.Kind.{Kind}
use Rattle.rules.specs.Kept.{solids, one_of, solids_kept, fault}
use Rattle.walked.specs.Rows.{row_of}
use Rattle.walked.specs.declared.Row.{Row}
use Rattle.std.specs.Prelude.{Option, Some, None, IfSome}
use Rattle.names.specs.code.Told.{node, Told}
use Rattle.sweeps.specs.code.Weights.{heavier, weight}
use Rattle.names.proofs.Tables.{zeros}
use Rattle.names.proofs.Numbered.{last_more, from_here, from_past}

heavy : (b : Bool) → eqb (cond b 1 2) 0 ≡ false
heavy true = refl
heavy false = refl

light : (b : Bool) → b ≡ eqb (cond b 1 2) 1
light true = refl
light false = refl

weight_one : (ks : List Kind) → one_of ks ≡ eqb (weight ks) 1
unfolding weight
weight_one [] = refl
weight_one (k ∷ []) = light (may_be_solid k)
weight_one (k ∷ e ∷ ks) = rw (heavy (eqb (weight ks) 0 && may_be_solid e))

-- The solid children of a flow of depth e, by the depth of the next node.
module _ (h : TextNode) (after : List TextNode) (e : ℕ) where
  solids_over : h.depth ≤ e → solids e (h ∷ after) ≡ []
  solids_over l = rw (le-leb h.depth e l)

  solids_child : h.depth ≡ suc e → solids e (h ∷ after) ≡ cond h.solid (h.kind ∷ solids e after) (solids e after)
  solids_child q = rw (lt-leb h.depth e (omega arith), eq-eqb h.depth (suc e) q)

  solids_deeper : suc e < h.depth → solids e (h ∷ after) ≡ solids e after
  solids_deeper l = rw (lt-leb h.depth e (omega arith), ne_eqb h.depth (suc e) (λ q. omega arith))

weight_none : weight [] ≡ 0
unfolding weight
weight_none = refl

weight_if : (b : Bool) (w : ℕ) (k : Kind) (ks : List Kind) → w ≡ weight ks → cond b (heavier w k) w ≡ weight (cond b (k ∷ ks) ks)
unfolding weight
weight_if true w k ks e = rw e
weight_if false w k ks e = e

-- The table has the weight of the solid children of a flow at each depth, among the nodes from the number i on.
pub record Weighed (hs : List TextNode) (table : List ℕ) (i : ℕ) : Type 0 where
  pub each : (e : ℕ) → e ≤ 12 → get_or table (e + 1) 0 ≡ weight (solids e (drop i hs))

-- The first of these nodes that breaks the rule is f.
pub record First (hs : List TextNode) (f : Option ℕ) (i : ℕ) : Type 0 where
  pub is : (before : List TextNode) → fault solids_kept before (drop i hs) ≡ f

module _ {text : List ℕ} {rows : List Row} {count : ℕ} (t : Told text rows count) where
  pub weigh_start : Weighed t.hs (replicate 14 0) count
  unfolding weight
  weigh_start = record { each = λ e l. rw (from_past t.hs count (omega (arith, t.many))) (zeros 14 (e + 1)) }

  pub first_start : First t.hs None count
  unfolding fault
  first_start = record { is = λ before. rw (from_past t.hs count (omega (arith, t.many))) }

pub first_all : {hs : List TextNode} {f : Option ℕ} {i : ℕ} → First hs f i → i ≤ 0 → fault solids_kept [] hs ≡ f
first_all {hs} {f} {i} s h = let e : i ≡ 0 = omega arith in rw e at (s.is [])

pub blame_within : (P : ℕ → Type 0) (i : ℕ) (later : Option ℕ) (b e : Bool) → IfSome later P → P i → IfSome (cond b (cond e later (Some i)) later) P
blame_within P i later true true p q = p
blame_within P i later true false p q = q
blame_within P i later false e p q = p

-- One node more, which has the number i and the depth d.
module _ {text : List ℕ} {rows : List Row} {count : ℕ} (t : Told text rows count) {table : List ℕ} {i : ℕ} (s : Weighed t.hs table (i + 1)) (h : i < count)
    {d : ℕ} (D : (row_of rows i).node.depth ≤ 12 → d ≡ (row_of rows i).node.depth) where
  depth : d ≡ (node t.hs i).depth
  depth = let e = (t.row i h).depth in let l = t.deep i h in D (rw e l.2) ∙ e

  here : drop i t.hs ≡ node t.hs i ∷ drop (i + 1) t.hs
  here = from_here t.hs i (omega (arith, t.many))

  small : d ≤ 12
  small = rw depth (t.deep i h).2

  -- No node after it can be more than one deeper before another comes that is not.
  none_deeper : (e : ℕ) → d < e → solids e (drop (i + 1) t.hs) ≡ []
  none_deeper e l =
      by_cases (ltb (i + 1) count) (λ q.
      let g = ltb-true (i + 1) count q in
      let low : (node t.hs (i + 1)).depth ≤ e = let z = rw (last_more t.hs i) at (t.deep (i + 1) g).1 in let y = depth in omega arith in
      rw (from_here t.hs (i + 1) (omega (arith, t.many)), le-leb (node t.hs (i + 1)).depth e low)) (λ q.
      let g = ltb-false (i + 1) count q in
      rw (from_past t.hs (i + 1) (omega (arith, t.many))))

  pub first_next : {f g : Option ℕ} {w : ℕ} → First t.hs f (i + 1) → w ≡ get_or table (d + 1) 0
      → g ≡ cond (flowing (row_of rows i).node.kind) (cond (eqb w 1) f (Some i)) f → First t.hs g i
  unfolding fault
  first_next {f} {g} {w} r p q =
      let ws : eqb w 1 ≡ one_of (solids (node t.hs i).depth (drop (i + 1) t.hs)) =
      rw (weight_one (solids (node t.hs i).depth (drop (i + 1) t.hs)), ← depth, ← s.each d small, p) in
      record {
        is = λ before.
            rw (here, q, (t.row i h).kind, ← ws)
            (by_cases (flowing (node t.hs i).kind) (λ a. rw a (by_cases (eqb w 1) (λ b. rw b (r.is (node t.hs i ∷ before))) (λ b. rw (b, (t.row i h).number)))) (λ a. rw a (r.is (node t.hs i ∷ before))));
      }

  -- Its children are passed, and it is one of those of its depth: v is their weight.
  module _ (long : length table ≡ 14) {v w : ℕ} (p : w ≡ get_or (set table (d + 1) 0) d 0)
      (q : v ≡ cond (row_of rows i).node.solid (heavier w (row_of rows i).node.kind) w) where
    abbrev left : List ℕ
    left = set (set table (d + 1) 0) d v

    kept : (k : ℕ) → (k ≡ d → ⊥) → (k ≡ d + 1 → ⊥) → get_or left k 0 ≡ get_or table k 0
    kept k a b = get_or-set_other (set table (d + 1) 0) d k v 0 a ∙ get_or-set_other table (d + 1) k 0 0 b

    passed : get_or left (d + 1) 0 ≡ 0
    passed =
        get_or-set_other (set table (d + 1) 0) d (d + 1) v 0 (λ z. omega arith) ∙ get_or-set_same table (d + 1) 0 0 (let z = small in omega arith)

    taken : get_or left d 0 ≡ v
    taken = get_or-set_same (set table (d + 1) 0) d v 0 (simp length-set (let z = small in omega arith))

    at_depth : (e : ℕ) → e ≤ 12 → get_or left (e + 1) 0 ≡ weight (solids e (node t.hs i ∷ drop (i + 1) t.hs))
    at_depth e l =
        let n = node t.hs i in
        let after = drop (i + 1) t.hs in
        let y = depth in
        by_cases (ltb e d) (λ a.
        let x = ltb-true e d a in
        by_cases (eqb d (e + 1)) (λ b.
        let z = eqb-true d (e + 1) b in
        let wt : w ≡ weight (solids e after) =
        p ∙ get_or-set_other table (d + 1) d 0 0 (λ g. omega arith) ∙ ap (λ (k : ℕ). get_or table k 0) z ∙ s.each e l in
        ap (λ (k : ℕ). get_or left k 0) (sym z)
        ∙ taken
        ∙ q
        ∙ rw ((t.row i h).solid, (t.row i h).kind) (weight_if n.solid w n.kind (solids e after) wt)
        ∙ ap weight (sym (solids_child n after e (omega arith)))) (λ b.
        let z = eqb-false d (e + 1) b in
        kept (e + 1) (λ g. z (sym g)) (λ g. omega arith)
        ∙ s.each e l
        ∙ ap weight (sym (solids_deeper n after e (let u : e + 1 < d = omega arith in omega arith))))) (λ a.
        let x = ltb-false e d a in
        by_cases (eqb e d) (λ b.
        let z = eqb-true e d b in
        ap (λ (k : ℕ). get_or left (k + 1) 0) z ∙ passed ∙ sym weight_none ∙ ap weight (sym (solids_over n after e (omega arith)))) (λ b.
        let z = eqb-false e d b in
        kept (e + 1) (λ g. omega arith) (λ g. z (omega arith))
        ∙ s.each e l
        ∙ ap weight (none_deeper e (let u : d < e = omega arith in u) ∙ sym (solids_over n after e (omega arith)))))

    pub weigh_next : Weighed t.hs (set (set table (d + 1) 0) d v) i
    weigh_next = record { each = λ e l. rw here (at_depth e l) }
