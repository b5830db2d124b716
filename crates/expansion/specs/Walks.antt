-- The walk over the nodes of a diagram that writes its process in postfix order: "Each node has one copy for each choice of values (0 to size−1) of the
-- replicators around it", so the nodes inside a replicator are walked over once for each value.
use Rattle.std.specs.Prelude.{cond, ◌&&◌, List, Option, Some, None, ℕ, zero, suc, ◌+◌, ◌-◌, leb, ltb, length, take, set}
use Rattle.diagram.specs.declared.Diagram.{Diagram}
use Rattle.diagram.specs.declared.Node.{Node}
use Rattle.diagram.specs.TreeNodes.{leafy}
use Rattle.postfix.specs.declared.Code.{Code}
use Rattle.postfix.specs.declared.Code.TheVariants.{Leaf, Again, Rounds}
use Rattle.nodes.specs.declared.Form.{Form}
use Rattle.nodes.specs.declared.Form.TheVariants.{Leaf as LeafForm, Loop, Joined}
use Rattle.nodes.specs.Nodes.{kind_at, form_at, depth_at}
use Rattle.expansion.specs.declared.Walk.{Walk}

-- Where the walk stands, and the lent codes.
pub record Place : Type 0 where
  pub walk : Walk
  pub codes : List Code

abbrev pub place : ℕ → ℕ → List Code → Place
place node count codes = record { walk = record { node = node; count = count }; codes = codes }

-- The walk at another node.
abbrev pub at_node : ℕ → Place → Place
at_node i p = place i p.walk.count p.codes

-- One code more. There is room for 1,024.
unfoldable pub add : Code → Place → Place
add c p = cond (ltb p.walk.count 1024) (place p.walk.node (p.walk.count + 1) (set p.codes p.walk.count c)) p

-- How many parts may follow the first: the copies for the values from 1 on, or any nodes; a drawing has at most 256.
abbrev pub more : Option ℕ → ℕ
more None = 255
more (Some size) = size - 1

-- Where the next part of node i begins: a copy where the first part does, any other where the walk stands.
abbrev pub again_at : Option ℕ → ℕ → ℕ → ℕ
again_at None i node = node
again_at (Some size) i node = i + 1

-- The parts of node i after the first, at most n of them and as long as they are deeper than it, each joined to those before it.
unfoldable pub further : (Place → Place) → List Node → ℕ → Code → Option ℕ → ℕ → Place → Place
further part ns i code copies zero p = p
further part ns i code copies (suc n) p =
    cond (leb (depth_at ns (again_at copies i p.walk.node)) (depth_at ns i)) p
    (further part ns i code copies n (add code (part (at_node (again_at copies i p.walk.node) p))))

-- A loop over the node that the walk stands at: over a leaf, or over a flow.
abbrev pub looped : (Place → Place) → List Node → Place → Place
looped part ns p =
    cond (ltb p.walk.node (length ns) && leafy (kind_at ns p.walk.node)) (add Again (at_node (p.walk.node + 1) p)) (add Rounds (part p))

-- Node i, which the walk stands at, by its form: a leaf, a loop, or parts that are joined.
abbrev pub by_form : Form → (Place → Place) → List Node → ℕ → Place → Place
by_form LeafForm part ns i p = add Leaf (at_node (i + 1) p)
by_form Loop part ns i p = looped part ns (at_node (i + 1) p)
by_form (Joined code copies) part ns i p = further part ns i code copies (more copies) (part (at_node (i + 1) p))

-- The node that the walk stands at, with those below it, down to as many depths as are given.
unfoldable pub part : ℕ → List Node → Place → Place
part zero ns p = p
part (suc left) ns p = cond (leb (length ns) p.walk.node) p (by_form (form_at ns p.walk.node) (part left ns) ns p.walk.node p)

-- The whole drawing, over the lent codes: "The root has depth 1", and there are at most 12.
unfoldable pub expanded : Diagram → List Code → Place
expanded d lent = part 12 (take d.count d.nodes) (place 0 0 lent)
