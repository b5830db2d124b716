-- How many events a node has, as they are worked out from the nodes after it: the parts of a node, one by one.
use mathlib.Core.Path.{◌≡◌, refl, ap, ◌∙◌}
use mathlib.Core.List.{List, [], ◌∷◌, map}
use Prim.Native.Nat.{ℕ, zero, suc, ◌+◌, ◌≤◌, ◌<◌}
use native.Mathlib.Nat.{mod-eq_of_lt}
use native.Mathlib.Omega.{arith}
use borrow.Author.Tests.{le-leb, lt-leb, eq-eqb, ne_eqb}
use Rattle.diagram.specs.Tree.{Way, all, some, one}
use Rattle.diagram.specs.TreeNodes.{TextNode, group_kind, replicator_kind}
use Rattle.diagram.specs.declared.Kind.{Kind}
use Rattle.std.specs.Prelude.{Option, Some, None}
use Rattle.postfix.specs.declared.Code.{Code}
use Rattle.postfix.specs.declared.Code.TheVariants.{And, Or, Xor}
use Rattle.nodes.specs.declared.Form.TheVariants.{Joined}
use Rattle.nodes.specs.Nodes.{form_of}
use Rattle.labels.specs.declared.SearchNode.{SearchNode}
use Rattle.labels.specs.Weights.{sum_mod, product_mod, parts, weight, weigh}
use Rattle.labels.specs.Seeks.{next}
use Rattle.labels.proofs.NodeDepths.{Deep, done, deeper, Tree, tree, first_depth}

-- Small sums are themselves.
pub sum_small : (m n : ℕ) → m + n < 1024 → sum_mod m n ≡ m + n
sum_small m n h = let e : n < 1024 = omega arith in rw (mod-eq_of_lt e) (mod-eq_of_lt h)

-- A kind of node whose parts are joined, and how many copies a replicator has.
pub record Joins (k : Kind) (copies : Option ℕ) : Type 0 where
  pub code : Code
  pub form_is : form_of k ≡ Joined code copies

pub group_joins : (y : Way) → Joins (group_kind y) None
group_joins all = record { code = And; form_is = refl }
group_joins some = record { code = Or; form_is = refl }
group_joins one = record { code = Xor; form_is = refl }

pub replicator_joins : (y : Way) (size : ℕ) → 1 ≤ size → Joins (replicator_kind y size) (Some size)
replicator_joins y zero h = let z : ⊥ = omega arith in absurd z
replicator_joins all (suc n) h = record { code = And; form_is = refl }
replicator_joins some (suc n) h = record { code = Or; form_is = refl }
replicator_joins one (suc n) h = record { code = Xor; form_is = refl }

-- By the place of each node's name.
module _ (at : TextNode → ℕ) where
  -- A node as the search reads it.
  abbrev pub searched : TextNode → SearchNode
  searched h = record { form = form_of h.kind; depth = h.depth; place = at h; weight = 0 }

  -- The nodes, each with its events, and how many the first of them has.
  abbrev pub weighed : List TextNode → List SearchNode
  weighed hs = weigh (map searched hs)

  abbrev pub first_weight : List TextNode → ℕ
  first_weight hs = (next (weighed hs)).weight

  -- A node's events by those of its parts.
  pub weight_parts : (h : TextNode) (rs : List SearchNode) → Joins h.kind None → weight (searched h) rs ≡ parts h.depth 0 rs
  unfolding weight
  weight_parts h rs j = rw j.form_is

  pub weight_copies : (h : TextNode) {size : ℕ} (rs : List SearchNode) → Joins h.kind (Some size)
      → weight (searched h) rs ≡ product_mod size (parts h.depth 0 rs)
  unfolding weight
  weight_copies h rs j = rw j.form_is

  -- What is deeper than the parts of a node counts for nothing.
  parts_past : (d n : ℕ) {hs more : List TextNode} → Deep (suc (suc d)) hs more → parts d n (weighed hs) ≡ parts d n (weighed more)
  unfolding parts weigh
  parts_past d n done = refl
  parts_past d n (deeper {h = h} l p) = rw (lt-leb h.depth d (omega arith), ne_eqb h.depth (suc d) (λ e. omega arith)) (parts_past d n p)

  -- One part more.
  parts_one : (d n : ℕ) {hs more : List TextNode} → Tree (suc d) hs more → parts d n (weighed hs) ≡ parts d (sum_mod n (first_weight hs)) (weighed more)
  unfolding parts weigh
  parts_one d n (tree {h = h} e p) = rw (e, lt-leb (suc d) d (omega arith), eq-eqb (suc d) (suc d) refl) (parts_past d _ p)

  pub parts_then : (d n w : ℕ) {hs more : List TextNode} → Tree (suc d) hs more → first_weight hs ≡ w → n + w < 1024
      → parts d n (weighed hs) ≡ parts d (n + w) (weighed more)
  parts_then d n w {more = more} t e h = parts_one d n t ∙ ap (λ (x : ℕ). parts d x (weighed more)) (rw e (sum_small n w h))

  -- No more of them.
  pub parts_end : (d n : ℕ) (hs : List TextNode) → first_depth hs ≤ d → parts d n (weighed hs) ≡ n
  unfolding parts weigh
  parts_end d n [] h = refl
  parts_end d n (h ∷ hs) l = rw (le-leb h.depth d l)
