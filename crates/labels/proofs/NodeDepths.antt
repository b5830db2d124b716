-- Nodes by their depths: a tree is a node and deeper ones.
use mathlib.Core.Path.{◌≡◌}
use mathlib.Core.List.{List, [], ◌∷◌}
use Prim.Native.Nat.{ℕ, suc, ◌≤◌}
use native.Mathlib.Omega.{arith}
use Rattle.diagram.specs.TreeNodes.{TextNode}

-- Nodes that are at least as deep as d, and then those given.
pub data Deep (d : ℕ) : List TextNode → List TextNode → Type 0 where
  done : {more : List TextNode} → Deep d more more
  deeper : {h : TextNode} {hs more : List TextNode} → d ≤ h.depth → Deep d hs more → Deep d (h ∷ hs) more

pub deep_then : {d : ℕ} {xs ys zs : List TextNode} → Deep d xs ys → Deep d ys zs → Deep d xs zs
deep_then done q = q
deep_then (deeper l p) q = deeper l (deep_then p q)

deep_less : {d : ℕ} {xs ys : List TextNode} → Deep (suc d) xs ys → Deep d xs ys
deep_less done = done
deep_less {d} (deeper {h = h} g p) = let l : d ≤ h.depth = omega arith in deeper l (deep_less p)

-- A node of depth d, and deeper ones.
pub data Tree (d : ℕ) : List TextNode → List TextNode → Type 0 where
  tree : {h : TextNode} {hs more : List TextNode} → h.depth ≡ d → Deep (suc d) hs more → Tree d (h ∷ hs) more

pub tree_deep : {d : ℕ} {xs ys : List TextNode} → Tree d xs ys → Deep d xs ys
tree_deep {d} (tree {h = h} e p) = let l : d ≤ h.depth = omega arith in deeper l (deep_less p)

-- The depth of the first of some nodes.
abbrev pub first_depth : List TextNode → ℕ
first_depth [] = 0
first_depth (h ∷ hs) = h.depth

pub tree_first : {d : ℕ} {hs more : List TextNode} → Tree d hs more → first_depth hs ≡ d
tree_first (tree e p) = e
