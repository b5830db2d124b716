-- The nodes of a diagram by what they are shown to be, and the names of those that have one.
use mathlib.Core.Path.{◌≡◌, ap, subst, ◌∙◌}
use mathlib.Core.Bool.{true}
use mathlib.Core.List.{List, [], ◌∷◌, map}
use Prim.Native.Nat.{ℕ, zero, suc, ◌≤◌}
use native.Mathlib.Omega.{arith}
use lib.ListN.{length, get_or, take, drop}
use Rattle.diagram.specs.declared.Node.{Node}
use Rattle.diagram.specs.declared.Diagram.{Diagram}
use Rattle.diagram.specs.TreeNodes.{ShownNode, has_name}
use Rattle.tokens.specs.Words.{word_at}
use Rattle.reading.specs.Shows.{shown_node, shown_nodes}
use Rattle.nodes.specs.Nodes.{name_at}
use Rattle.expansion.proofs.ShownNodes.{Shown, nodes_shown}

-- These nodes, at most 256, are shown to be those, and a name stands in the text.
pub record Named (text : List ℕ) (ns : List Node) (vs : List ShownNode) : Type 0 where
  pub nodes : Shown ns vs
  pub few : length ns ≤ 256
  pub name_here : (i : ℕ) (v : ShownNode) (rest : List ShownNode) → drop i vs ≡ v ∷ rest → has_name v.kind ≡ true → word_at text (name_at ns i) ≡ v.name

name_read : (text : List ℕ) (ns : List Node) (i : ℕ) (v : ShownNode) (rest : List ShownNode) → drop i (map (shown_node text) ns) ≡ v ∷ rest → has_name v.kind ≡ true
    → word_at text (name_at ns i) ≡ v.name
unfolding shown_node
name_read text [] zero v rest h t = let l = ap length h in let z : ⊥ = omega arith in absurd z
name_read text [] (suc i) v rest h t = let l = ap length h in let z : ⊥ = omega arith in absurd z
name_read text (n ∷ ns) zero v rest h t =
    let e : shown_node text n ≡ v = ap (λ (l : List ShownNode). get_or l 0 v) h in
    let k : has_name n.kind ≡ true = ap (λ (x : ShownNode). has_name x.kind) e ∙ t in
    let w : word_at text n.name ≡ (shown_node text n).name = rw k in
    w ∙ ap (λ (x : ShownNode). x.name) e
name_read text (n ∷ ns) (suc i) v rest h t = name_read text ns i v rest h t

pub diagram_named : (text : List ℕ) (g : Diagram) (vs : List ShownNode) → shown_nodes text g ≡ vs → length vs ≤ 256 → Named text (take g.count g.nodes) vs
unfolding shown_nodes
diagram_named text g vs h most =
    let ns = take g.count g.nodes in
    let held = nodes_shown text g vs h in
    let long = held.long in
    record {
      nodes = held;
      few = omega arith;
      name_here = subst (λ (l : List ShownNode). (i : ℕ) (v : ShownNode) (rest : List ShownNode) → drop i l ≡ v ∷ rest → has_name v.kind ≡ true
          → word_at text (name_at ns i) ≡ v.name) h (name_read text ns);
    }
