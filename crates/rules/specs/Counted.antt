-- Node copies and events, counted along the nodes in the order of the text.
use Rattle.std.specs.Prelude.{Bool, true, false, ◌&&◌, ◌||◌, cond, List, [], ◌∷◌, ℕ, ◌+◌, ◌*◌, ltb}
use Rattle.diagram.specs.TreeNodes.{TextNode, flowing, leafy, looping, copying, size_of}

-- "Each node has one copy for each choice of values of the replicators around it": the product of their sizes.
unfoldable pub times : ℕ → List TextNode → ℕ
times d [] = 1
times d (h ∷ before) =
    cond (ltb h.depth d) (cond (copying h.kind) (size_of h.kind * times h.depth before) (times h.depth before)) (times d before)

-- "Events are the leaf copies and, for each copy of a loop over a flow, its reset": the node is a leaf, or a loop whose member, the next
-- node, is a flow.
abbrev pub over_flow : List TextNode → Bool
over_flow [] = false
over_flow (h ∷ after) = flowing h.kind

abbrev pub eventful : TextNode → List TextNode → Bool
eventful h after = leafy h.kind || (looping h.kind && over_flow after)

abbrev pub any_node : TextNode → List TextNode → Bool
any_node h after = true

-- The copies of the nodes that are counted.
unfoldable pub total : (TextNode → List TextNode → Bool) → List TextNode → List TextNode → ℕ
total counted before [] = 0
total counted before (h ∷ after) = cond (counted h after) (times h.depth before) 0 + total counted (h ∷ before) after

-- A count as far as it matters: 769 stands for every number over 768.
abbrev pub capped : ℕ → ℕ
capped n = cond (ltb 768 n) 769 n
