-- The nodes of a text by their numbers, and what their rows tell of them.
use Rattle.std.specs.Prelude.{◌≡◌, false, List, [], ◌∷◌, ℕ, zero, suc, ◌≤◌, ◌<◌, length, get_or}
use Rattle.diagram.specs.TreeNodes.{TextNode, text_node}
use Rattle.diagram.specs.declared.Kind.TheVariants.{Leaf}
use Rattle.walked.specs.Rows.{Tells}
use Rattle.walked.specs.declared.Row.{Row}

abbrev pub no_node : TextNode
no_node = text_node 0 Leaf false 0 []

abbrev pub node : List TextNode → ℕ → TextNode
node hs i = get_or hs i no_node

-- Those before the node i, the nearest first, and the depth of the nearest.
unfoldable pub earlier : List TextNode → ℕ → List TextNode
earlier hs zero = []
earlier hs (suc i) = node hs i ∷ earlier hs i

unfoldable pub last_depth : List TextNode → ℕ → ℕ
last_depth hs zero = 0
last_depth hs (suc i) = (node hs i).depth

-- The rows are those of nodes, of which there are this many: the row of each, and its depth.
pub record Told (text : List ℕ) (rows : List Row) (count : ℕ) : Type 0 where
  pub hs : List TextNode
  pub many : length hs ≡ count
  pub row : (i : ℕ) → i < count → Tells text rows i (node hs i)
  pub deep : (i : ℕ) → i < count → (0 < (node hs i).depth) × ((node hs i).depth ≤ suc (last_depth hs i)) × ((node hs i).depth ≤ 12)
