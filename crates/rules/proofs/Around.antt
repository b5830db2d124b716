-- Walks along the nodes of a tree that look at each with what the replicators around it give, their pars or their copies. That does not hang on
-- the nodes before it that are as deep or deeper, so a walk is followed part by part of the tree.
use mathlib.Core.Path.{◌≡◌, refl, ◌∙◌}
use mathlib.Core.Bool.{cond}
use mathlib.Core.List.{List, ◌∷◌}
use Prim.Native.Nat.{ℕ, suc, ◌≤◌}
use native.Mathlib.Omega.{arith}
use lib.Dec.{ltb}
use borrow.Author.Tests.{lt-ltb, le-ltb}
use Rattle.diagram.specs.TreeNodes.{TextNode, TreeNode, own, copying}

module _ {X : Type 0} (g : ℕ → List TextNode → X) (add : TextNode → X → X) where
  -- Inside a node: what is around it, and the node itself if it is a replicator.
  abbrev pub inside : TextNode → X → X
  inside h a = cond (copying h.kind) (add h a) a

  -- One node more, the nearest before: around a deeper node is this one, with what is around it.
  abbrev pub Nests : Type 0
  Nests = (d : ℕ) (h : TextNode) (before : List TextNode) → g d (h ∷ before) ≡ cond (ltb h.depth d) (inside h (g h.depth before)) (g d before)

  -- Nodes were passed that are of depth d or deeper: what is around a node that is no deeper is what it was.
  abbrev pub Same : ℕ → List TextNode → List TextNode → Type 0
  Same d before now = (i : ℕ) → i ≤ d → g i now ≡ g i before

  -- The nodes that p puts first are of depth d or deeper, and `a` is around: where P holds after them, Q holds before them.
  pub record Walked (d : ℕ) (a : X) (p : List TreeNode → List TreeNode) (P Q : List TextNode → List TreeNode → Type 0) : Type 0 where
    pub go : (before : List TextNode) → g d before ≡ a → (vs : List TreeNode) → ((now : List TextNode) → Same d before now → P now vs) → Q before (p vs)

  module _ {d : ℕ} {a : X} where
    pub walked_none : {P : List TextNode → List TreeNode → Type 0} → Walked d a (λ vs. vs) P P
    walked_none = record { go = λ before e vs on. on before (λ i l. refl) }

    pub walked_then : {p q : List TreeNode → List TreeNode} {P Q R : List TextNode → List TreeNode → Type 0} → Walked d a p Q R → Walked d a q P Q
        → Walked d a (λ vs. p (q vs)) P R
    walked_then {q = q} x y = record {
      go = λ before e vs on.
          x.go before e (q vs) (λ now s. y.go now (s d (omega arith) ∙ e) vs (λ last t. on last (λ i l. t i l ∙ s i l)));
    }

    pub walked_as : {p : List TreeNode → List TreeNode} {P Q R : List TextNode → List TreeNode → Type 0}
        → ((before : List TextNode) (vs : List TreeNode) → Q before vs → R before vs) → Walked d a p P Q → Walked d a p P R
    walked_as {p = p} f x = record { go = λ before e vs on. f before (p vs) (x.go before e vs on) }

  -- A node, and the nodes under it.
  pub walked_node : Nests → (h : TreeNode) {a b : X} {p : List TreeNode → List TreeNode} {P Q R : List TextNode → List TreeNode → Type 0}
      → inside (own h) a ≡ b
      → ((before : List TextNode) (vs : List TreeNode) → g h.own.depth before ≡ a → Q (own h ∷ before) (p vs) → R before (h ∷ p vs))
      → Walked (suc h.own.depth) b p P Q → Walked h.own.depth a (λ vs. h ∷ p vs) P R
  walked_node nests h {a} {b} i step x = record {
    go = λ before e vs on. step before vs e (x.go (own h ∷ before) (under before e) vs (λ now s. on now (past before now s)));
  }
    where
      under : (before : List TextNode) → g h.own.depth before ≡ a → g (suc h.own.depth) (own h ∷ before) ≡ b
      under before e = nests (suc h.own.depth) (own h) before ∙ rw (lt-ltb h.own.depth (suc h.own.depth) (omega arith), e) i

      past : (before now : List TextNode) → Same (suc h.own.depth) (own h ∷ before) now → Same h.own.depth before now
      past before now s j l = s j (omega arith) ∙ (nests j (own h) before ∙ rw (le-ltb h.own.depth j l))
