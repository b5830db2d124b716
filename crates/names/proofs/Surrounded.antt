-- The pars around a node by a table of depths: how many there are at each depth at which the next node may be. Assumes nothing.
use mathlib.Core.Path.{◌≡◌, refl, sym, ap, ◌∙◌}
use mathlib.Core.Bool.{Bool, true, false, cond}
use mathlib.Core.List.{List, ◌∷◌}
use Prim.Native.Nat.{ℕ, suc, ◌+◌, ◌≤◌, ◌<◌}
use native.Mathlib.Nat.{add-zero}
use native.Mathlib.Omega.{arith}
use lib.Dec.{eqb}
use lib.ListN.{length, get_or, set, replicate, length-set}
use lib.Seq.{get_or-set_same, get_or-set_other}
use borrow.Author.Tests.{eqb-true, eqb-false}
use Rattle.base.proofs.Truth.{by_cases}
use Rattle.diagram.specs.Tree.{Name}
use Rattle.diagram.specs.TreeNodes.{TextNode, copying}
use Rattle.rules.specs.Kept.{around}
use Rattle.walked.specs.Rows.{row_of}
use Rattle.walked.specs.declared.Row.{Row}
use Rattle.names.specs.code.Told.{node, earlier, last_depth, Told}
use Rattle.names.specs.code.Pars.{Around}
use Rattle.names.proofs.Titled.{copying_named}
use Rattle.names.proofs.Tables.{zeros}
use Rattle.names.proofs.Numbered.{last_more}
use Rattle.names.proofs.Stack.{Stacked, stack_start, stack_next}
use Rattle.names.proofs.Placed.{name_ends}
use Rattle.names.proofs.Surrounding.{pars_none, around_set, around_more}

-- There is room for the pars and the depths, and no node has more than four pars around it.
pub record Roomy (pars many : List ℕ) : Type 0 where
  pub places : length pars ≡ 4
  pub depths : length many ≡ 14
  pub each : (k : ℕ) → get_or many k 0 ≤ 4

pub roomy_start : Roomy (replicate 4 0) (replicate 14 0)
roomy_start =
    record {
      places = refl;
      depths = refl;
      each = λ k. let e = zeros 14 k in omega arith;
    }

pub roomy_next : {pars many : List ℕ} → Roomy pars many → (n x k v : ℕ) → k < 14 → v ≤ 4 → Roomy (set pars n x) (set many k v)
roomy_next {pars} {many} s n x k v h l =
    record {
      places = simp length-set s.places;
      depths = simp length-set s.depths;
      each = λ j.
          by_cases (eqb j k) (λ e. rw (eqb-true j k e, get_or-set_same many k v 0 (rw s.depths h)) l) (λ e.
          rw (get_or-set_other many k j v 0 (eqb-false j k e)) (s.each j));
    }

-- A deeper node has those around it too.
pub record Surrounded (text : List ℕ) (rows : List Row) (pars many : List ℕ) (hs : List TextNode) (i : ℕ) : Type 0 where
  pub stack : Stacked around (λ e ns. Around text rows pars (get_or many e 0) ns) hs i
  pub rising : (e f : ℕ) → 0 < e → e ≤ f → f ≤ suc (last_depth hs i) → get_or many e 0 ≤ get_or many f 0

pub around_start : (text : List ℕ) (rows : List Row) (hs : List TextNode) → Surrounded text rows (replicate 4 0) (replicate 14 0) hs 0
around_start text rows hs =
    record {
      stack =
          stack_start around (λ e ns. Around text rows (replicate 4 0) (get_or (replicate 14 0) e 0) ns) hs
          (record { is = sym (pars_none text rows (replicate 4 0) 0 (omega arith)); ended = λ k h. let z : ⊥ = omega arith in absurd z });
      rising = λ e f low less high. rw (zeros 14 e) (omega arith);
    }

-- What a node leaves for those one deeper: with its par, if it is a replicator.
abbrev with_par : TextNode → List Name → List Name
with_par h ns = cond (copying h.kind) (h.name ∷ ns) ns

module _ {text : List ℕ} {rows : List Row} {count i : ℕ} (t : Told text rows count) (h : i < count) {pars many : List ℕ} (room : Roomy pars many)
    (s : Surrounded text rows pars many t.hs i) {d n : ℕ} (D : (row_of rows i).node.depth ≤ 12 → d ≡ (row_of rows i).node.depth) (p : n ≡ get_or many d 0) where
  depth : d ≡ (node t.hs i).depth
  depth = let e = (t.row i h).depth in let l = t.deep i h in D (rw e l.2) ∙ e

  pub around_here : Around text rows pars n (around (node t.hs i).depth (earlier t.hs i))
  around_here = let l = t.deep i h in rw (p, depth) (s.stack.each (node t.hs i).depth l.0 l.1)

  module _ (few : n ≤ 3) {z : ℕ} (r : z ≡ cond (copying ((row_of rows i).node.kind)) 1 0) where
    grown : (b : Bool) → copying (node t.hs i).kind ≡ b → {ns : List Name} → Around text rows pars n ns
        → Around text rows (set pars n i) (n + cond b 1 0) (cond b ((node t.hs i).name ∷ ns) ns)
    grown true e a =
        let row = t.row i h in
        let named = copying_named (node t.hs i).kind e in
        around_more a i (let l = room.places in omega arith) (row.word ∙ rw named) (row.past named) (name_ends t h named)
    grown false e a = rw (add-zero n) (around_set a n i (omega arith))

    left : Around text rows (set pars n i) (n + z) (with_par (node t.hs i) (around (node t.hs i).depth (earlier t.hs i)))
    left =
        let k = (node t.hs i).kind in
        let e : z ≡ cond (copying k) 1 0 = r ∙ rw (t.row i h).kind in
        rw e (grown (copying k) refl around_here)

    same_below : (e : ℕ) → e ≤ d → get_or (set many (d + 1) (n + z)) e 0 ≡ get_or many e 0
    same_below e l = get_or-set_other many (d + 1) e (n + z) 0 (λ g. omega arith)

    top : get_or (set many (d + 1) (n + z)) (d + 1) 0 ≡ n + z
    top = get_or-set_same many (d + 1) (n + z) 0 (let a = room.depths in let b = depth in let l = (t.deep i h).2 in omega arith)

    rises : (e f : ℕ) → 0 < e → e ≤ f → f ≤ d + 1 → get_or (set many (d + 1) (n + z)) e 0 ≤ get_or (set many (d + 1) (n + z)) f 0
    rises e f low less high =
        let y = depth in
        let l = (t.deep i h).1 in
        by_cases (eqb f (d + 1)) (λ g.
        let w = eqb-true f (d + 1) g in
        by_cases (eqb e (d + 1)) (λ k. rw (w, eqb-true e (d + 1) k) (omega arith)) (λ k.
        let ne = eqb-false e (d + 1) k in
        let under : e ≤ d = omega arith in
        rw (w, top, same_below e under) (let v = s.rising e d low under (omega arith) in omega arith))) (λ g.
        let ne = eqb-false f (d + 1) g in
        let under : f ≤ d = omega arith in
        rw (same_below e (omega arith), same_below f under) (s.rising e f low less (omega arith)))

    pub around_next : Surrounded text rows (set pars n i) (set many (d + 1) (n + z)) t.hs (i + 1)
    around_next =
        let l = t.deep i h in
        record {
          stack =
              stack_next with_par (λ e g before. refl) s.stack l.1 (λ e ns. Around text rows (set pars n i) (get_or (set many (d + 1) (n + z)) e 0) ns)
              (λ e ns some low was.
              let u = depth in
              let under : e ≤ d = omega arith in
              let few : get_or many e 0 ≤ n = let v = s.rising e d some under (omega arith) in omega arith in
              rw (same_below e under) (around_set was n i few))
              (rw (← ap (λ (k : ℕ). get_or (set many (d + 1) (n + z)) (k + 1) 0) depth, top) left);
          rising = λ e f low less high. rises e f low less (let y = depth in let v = rw (last_more t.hs i) at high in omega arith);
        }
