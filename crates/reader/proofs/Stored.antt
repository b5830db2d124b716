-- The nodes as they are stored one after the other, over the blank ones.
use mathlib.Core.Path.{◌≡◌, refl, sym, ◌∙◌, ap, ap₂}
use mathlib.Core.List.{List, [], ◌∷◌, ◌++◌, map}
use Prim.Native.Nat.{ℕ, zero, suc, ◌+◌, ◌-◌, ◌≤◌, ◌<◌}
use native.Mathlib.Nat.{le_of_suc-le-suc}
use native.Mathlib.Numerals.{add-one}
use native.Mathlib.Omega.{arith}
use lib.ListN.{length, get_or, take, set, replicate}
use lib.Seq.{take_all, take-suc, set_at, length-take-le, append_snoc}
use Rattle.diagram.specs.Stored.{blank_node, blank_diagram}
use Rattle.diagram.specs.declared.Node.{Node}
use Rattle.diagram.specs.declared.Diagram.{Diagram}
use Rattle.diagram.specs.TreeNodes.{TextNode}
use Rattle.reading.specs.Nodes.{name_place, node_of, stored}
use Rattle.walked.specs.Rows.{row_of, Tells, Rowed}
use Rattle.walked.specs.declared.Row.{Row}

-- The nodes of the rows from the node i on, n of them.
unfoldable pub nodes_from : List Row → ℕ → ℕ → List Node
nodes_from rows i zero = []
nodes_from rows i (suc n) = (row_of rows i).node ∷ nodes_from rows (suc i) n

nodes_long : (rows : List Row) (i n : ℕ) → length (nodes_from rows i n) ≡ n
unfolding nodes_from
nodes_long rows i zero = refl
nodes_long rows i (suc n) = ap suc (nodes_long rows (suc i) n)

nodes_at : (rows : List Row) (i n j : ℕ) → j < n → get_or (nodes_from rows i n) j blank_node ≡ (row_of rows (i + j)).node
unfolding nodes_from
nodes_at rows i zero j h = let z : ⊥ = omega arith in absurd z
nodes_at rows i (suc n) zero h = ap (λ (k : ℕ). (row_of rows k).node) (omega arith)
nodes_at rows i (suc n) (suc j) h = nodes_at rows (suc i) n j (le_of_suc-le-suc h) ∙ ap (λ (k : ℕ). (row_of rows k).node) (omega arith)

-- The first i of some nodes, and blank ones.
abbrev pub filled : List Node → ℕ → List Node
filled ns i = take i ns ++ replicate (256 - i) blank_node

blanks_left : (i : ℕ) → i < 256 → replicate (256 - i) blank_node ≡ blank_node ∷ replicate (256 - suc i) blank_node
blanks_left i h = let e : 256 - i ≡ suc (256 - suc i) = omega arith in rw e

filled_more : (ns : List Node) (i : ℕ) (n : Node) → i < length ns → length ns ≤ 256 → n ≡ get_or ns i blank_node → set (filled ns i) i n ≡ filled ns (i + 1)
filled_more ns i n l m e =
    ap (λ (r : List Node). set (take i ns ++ r) i n) (blanks_left i (omega arith))
    ∙ (set_at (take i ns) blank_node (replicate (256 - suc i) blank_node) n i (length-take-le i ns (omega arith))
    ∙ rw (add-one i, take-suc ns i blank_node l, append_snoc (take i ns) (get_or ns i blank_node) (replicate (256 - suc i) blank_node), e))

-- The first i nodes of the rows are stored.
pub record Storing (rows : List Row) (count : ℕ) (ns : List Node) (i : ℕ) : Type 0 where
  pub inside : i ≤ count
  pub is : ns ≡ filled (nodes_from rows 0 count) i

pub storing_none : (rows : List Row) (count : ℕ) {d : Diagram} → d ≡ blank_diagram → Storing rows count d.nodes 0
storing_none rows count e = record { inside = omega arith; is = ap (λ (d : Diagram). d.nodes) e }

-- A row's node is that of the node that it tells.
row_node : (text : List ℕ) (rows : List Row) (i : ℕ) (h : TextNode) → Tells text rows i h → (row_of rows i).node ≡ node_of text h
unfolding node_of name_place
row_node text rows i h r = rw (r.number, ← r.name, ← r.at, ← r.kind, ← r.solid, ← r.strong, ← r.depth) refl

rows_nodes : (text : List ℕ) (rows : List Row) (i : ℕ) (hs : List TextNode) → Rowed text rows i hs → nodes_from rows i (length hs) ≡ map (node_of text) hs
unfolding nodes_from
rows_nodes text rows i [] r = refl
rows_nodes text rows i (h ∷ hs) r = ap₂ (λ (n : Node) (l : List Node). n ∷ l) (row_node text rows i h r.0) (rows_nodes text rows (suc i) hs r.1)

module _ {rows : List Row} {count : ℕ} {ns : List Node} {i : ℕ} (s : Storing rows count ns i) where
  pub storing_more : {n : Node} → count ≤ 256 → i < count → n ≡ (row_of rows i).node → Storing rows count (set ns i n) (i + 1)
  storing_more {n} few l e =
      let r = nodes_long rows 0 count in
      record {
        inside = omega arith;
        is =
            ap (λ (ns : List Node). set ns i n) s.is
            ∙ filled_more (nodes_from rows 0 count) i n (omega arith) (omega arith) (e ∙ sym (nodes_at rows 0 count i l ∙ ap (λ (k : ℕ). (row_of rows k).node) (omega arith)));
      }

  pub storing_all : (text : List ℕ) (hs : List TextNode) (x y : ℕ) → count ≤ i → length hs ≡ count → Rowed text rows 0 hs
      → record { nodes = ns; count = count; copies = x; events = y } ≡ stored text hs x y
  unfolding stored
  storing_all text hs x y h l r =
      let e : i ≡ count = omega (arith, s.inside) in
      let t : take i (nodes_from rows 0 count) ≡ nodes_from rows 0 count = take_all i (nodes_from rows 0 count) (omega (arith, nodes_long rows 0 count)) in
      let m : nodes_from rows 0 count ≡ map (node_of text) hs = rw (← l) (rows_nodes text rows 0 hs r) in
      rw (s.is, t, m, e, l)
