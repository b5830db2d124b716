-- What is around a node, kept by depths: a value that a node leaves for the nodes one deeper. Assumes nothing.
use mathlib.Core.Path.{◌≡◌}
use mathlib.Core.Bool.{cond}
use mathlib.Core.List.{List, [], ◌∷◌}
use Prim.Native.Nat.{ℕ, suc, ◌+◌, ◌≤◌, ◌<◌}
use native.Mathlib.Omega.{arith}
use lib.Dec.{ltb}
use borrow.Author.Tests.{ltb-true, ltb-false}
use Rattle.base.proofs.Truth.{by_cases}
use Rattle.diagram.specs.TreeNodes.{TextNode}
use Rattle.names.specs.code.Told.{node, earlier, last_depth}
use Rattle.names.proofs.Numbered.{earlier_none, last_none, earlier_more, last_more}

-- F is what is around a node of a depth, S e says it of the depth e: of each at which the node i may be.
pub record Stacked {A : Type 0} (F : ℕ → List TextNode → A) (S : ℕ → A → Type 0) (hs : List TextNode) (i : ℕ) : Type 0 where
  pub each : (e : ℕ) → 0 < e → e ≤ suc (last_depth hs i) → S e (F e (earlier hs i))

pub stack_start : {A : Type 0} (F : ℕ → List TextNode → A) (S : ℕ → A → Type 0) (hs : List TextNode) → S 1 (F 1 []) → Stacked F S hs 0
stack_start F S hs s =
    record {
      each = λ e low high.
          let one : e ≡ 1 = let z = rw (last_none hs) at high in omega arith in
          rw (one, earlier_none hs) s;
    }

-- A node leaves `grow` of what is around it for those one deeper.
module _ {A : Type 0} {F : ℕ → List TextNode → A} (grow : TextNode → A → A)
    (more : (e : ℕ) (h : TextNode) (before : List TextNode) → F e (h ∷ before) ≡ cond (ltb h.depth e) (grow h (F h.depth before)) (F e before))
    {S : ℕ → A → Type 0} {hs : List TextNode} {i : ℕ} (s : Stacked F S hs i) (high : (node hs i).depth ≤ suc (last_depth hs i)) where
  pub stack_next : (T : ℕ → A → Type 0) → ((e : ℕ) (a : A) → 0 < e → e ≤ (node hs i).depth → S e a → T e a)
      → T ((node hs i).depth + 1) (grow (node hs i) (F (node hs i).depth (earlier hs i))) → Stacked F T hs (i + 1)
  stack_next T old new =
      let d = (node hs i).depth in
      record {
        each = λ e low top.
            rw (earlier_more hs i, more e (node hs i) (earlier hs i))
            (by_cases (ltb d e) (λ l.
            let one : e ≡ d + 1 = let z = rw (last_more hs i) at top in let y = ltb-true d e l in omega arith in
            rw (l, one) new) (λ l. let y = ltb-false d e l in rw l (old e (F e (earlier hs i)) low y (s.each e low (omega arith)))));
      }
