-- How many events one copy of each node has, worked out from the last node to the first.
use Rattle.std.specs.Prelude.{Bool, false, not, cond, List, [], ◌∷◌, Some, None, ℕ, suc, ◌+◌, ◌*◌, ◌%◌, eqb, leb}
use Rattle.nodes.specs.declared.Form.{Form}
use Rattle.nodes.specs.declared.Form.TheVariants.{Leaf, Loop, Joined}
use Rattle.nodes.specs.Nodes.{leaf_form}
use Rattle.labels.specs.declared.SearchNode.{SearchNode}

-- Sums and products modulo 1,024, as the code has them. A drawing that is read has at most 512 events, so none of them comes to 1,024.
abbrev pub sum_mod : ℕ → ℕ → ℕ
sum_mod m n = (m + n % 1024) % 1024

abbrev pub product_mod : ℕ → ℕ → ℕ
product_mod m n = (m * n) % 1024

-- n and the events of the nodes one deeper than d, of those at the front that are deeper than d: the parts of a node of depth d.
unfoldable pub parts : ℕ → ℕ → List SearchNode → ℕ
parts d n [] = n
parts d n (r ∷ rs) = cond (leb r.depth d) n (parts d (cond (eqb r.depth (suc d)) (sum_mod n r.weight) n) rs)

-- A loop has a reset if its member, the node after it, is no leaf.
abbrev pub resets : List SearchNode → Bool
resets [] = false
resets (r ∷ rs) = not (leaf_form r.form)

-- "Events are the leaf copies and, for each copy of a loop over a flow, its reset": those of a node's copy, by its form, the events of its parts, and whether it
-- has a reset.
abbrev pub weight_by : Form → ℕ → Bool → ℕ
weight_by Leaf n reset = 1
weight_by Loop n reset = sum_mod n (cond reset 1 0)
weight_by (Joined code None) n reset = n
weight_by (Joined code (Some size)) n reset = product_mod size n

-- By the nodes after it.
unfoldable pub weight : SearchNode → List SearchNode → ℕ
weight r rs = weight_by r.form (parts r.depth 0 rs) (resets rs)

-- The nodes, each with its events.
abbrev pub with_weight : SearchNode → ℕ → SearchNode
with_weight r w = record { form = r.form; depth = r.depth; place = r.place; weight = w }

unfoldable pub weigh : List SearchNode → List SearchNode
weigh [] = []
weigh (r ∷ rs) = with_weight r (weight r (weigh rs)) ∷ weigh rs
