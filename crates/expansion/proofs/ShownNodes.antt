-- The nodes of a diagram by what they are shown to be.
use mathlib.Core.Path.{◌≡◌, refl, sym, ap, subst}
use mathlib.Core.List.{List, [], ◌∷◌, map}
use Prim.Native.Nat.{ℕ, zero, suc, ◌<◌}
use native.Mathlib.Omega.{arith}
use lib.ListN.{length, take, drop, length-map, length-drop}
use lib.Seq.{drop-nil}
use Rattle.diagram.specs.declared.Node.{Node}
use Rattle.diagram.specs.declared.Diagram.{Diagram}
use Rattle.diagram.specs.TreeNodes.{ShownNode}
use Rattle.reading.specs.Shows.{shown_node, shown_nodes}
use Rattle.nodes.specs.Nodes.{kind_at, depth_at}

abbrev pub shown_depth : ShownNode → ℕ
shown_depth v = v.depth

-- A number of the first node; 0 where there is none.
abbrev pub first : (ShownNode → ℕ) → List ShownNode → ℕ
first f [] = 0
first f (v ∷ vs) = f v

kind_read : (text : List ℕ) (ns : List Node) (i : ℕ) (v : ShownNode) (rest : List ShownNode) → drop i (map (shown_node text) ns) ≡ v ∷ rest → kind_at ns i ≡ v.kind
unfolding shown_node
kind_read text [] zero v rest h = let l = ap length h in let z : ⊥ = omega arith in absurd z
kind_read text [] (suc i) v rest h = let l = ap length h in let z : ⊥ = omega arith in absurd z
kind_read text (n ∷ ns) zero v rest h = ap (λ (x : ShownNode). x.kind) (let e : shown_node text n ≡ v = cc in e)
kind_read text (n ∷ ns) (suc i) v rest h = kind_read text ns i v rest h

depth_read : (text : List ℕ) (ns : List Node) (i : ℕ) → depth_at ns i ≡ first shown_depth (drop i (map (shown_node text) ns))
unfolding shown_node
depth_read text [] i = rw (drop-nil {A = ShownNode} i)
depth_read text (n ∷ ns) zero = refl
depth_read text (n ∷ ns) (suc i) = depth_read text ns i

-- These nodes are shown to be those: from node i on, what the first of them is.
pub record Shown (ns : List Node) (vs : List ShownNode) : Type 0 where
  pub long : length ns ≡ length vs
  pub kind_here : (i : ℕ) (v : ShownNode) (rest : List ShownNode) → drop i vs ≡ v ∷ rest → kind_at ns i ≡ v.kind
  pub depth_here : (i : ℕ) → depth_at ns i ≡ first shown_depth (drop i vs)

-- The nodes of a diagram that count are what it shows.
pub nodes_shown : (text : List ℕ) (g : Diagram) (vs : List ShownNode) → shown_nodes text g ≡ vs → Shown (take g.count g.nodes) vs
unfolding shown_nodes
nodes_shown text g vs h =
    subst (λ (l : List ShownNode). Shown (take g.count g.nodes) l) h
    (record {
      long = sym (length-map (take g.count g.nodes) (shown_node text));
      kind_here = kind_read text (take g.count g.nodes);
      depth_here = depth_read text (take g.count g.nodes);
    })

pub node_inside : (vs rest : List ShownNode) (i : ℕ) (v : ShownNode) → drop i vs ≡ v ∷ rest → i < length vs
node_inside vs rest i v h = omega (arith, length-drop i vs, ap length h)
