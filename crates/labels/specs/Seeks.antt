-- The search for an event by its number: "They are numbered from 0 depth first, left to right, values rising, a reset directly after its loop's body."
use Rattle.std.specs.Prelude.{Bool, true, false, cond, List, [], ◌∷◌, map, Option, Some, None, ℕ, suc, ◌-◌, ◌/◌, ◌%◌, eqb, leb, take}
use Rattle.std.specs.declared.ops.ControlFlow.{ControlFlow}
use Rattle.std.specs.declared.ops.ControlFlow.TheVariants.{Continue, Break}
use Rattle.diagram.specs.declared.Diagram.{Diagram}
use Rattle.nodes.specs.declared.Form.{Form}
use Rattle.nodes.specs.declared.Form.TheVariants.{Leaf, Loop, Joined}
use Rattle.labels.specs.declared.Spot.{Spot}
use Rattle.labels.specs.declared.SearchNode.{SearchNode}
use Rattle.labels.specs.declared.Search.{Search}
use Rattle.labels.specs.Values.{values, push}
use Rattle.labels.specs.SearchNodes.{search_node}
use Rattle.labels.specs.Weights.{weigh}

-- The node after a node; none is like a leaf with no events.
abbrev pub next : List SearchNode → SearchNode
next [] = record { form = Leaf; depth = 0; place = 0; weight = 0 }
next (r ∷ rs) = r

-- Into a node of this depth: its parts are one deeper.
abbrev pub into : ℕ → Search → Search
into depth s = record { above = depth; rest = s.rest; values = s.values }

-- Into a replicator: the copies for the values stand side by side, each with the events of its member.
unfoldable pub into_copy : ℕ → ℕ → Search → Search
into_copy depth inner s =
    cond (eqb inner 0) (into depth s) (record { above = depth; rest = s.rest % inner; values = push s.values (s.rest / inner) })

abbrev pub found : Bool → ℕ → Search → ControlFlow Spot Search
found reset place s = Break (record { reset = reset; place = place; values = s.values })

-- The event is one of this node's, and q is the next node: a leaf's own, a loop's reset if it is past those of the member, or in one of the parts.
abbrev pub inside_by : Form → SearchNode → SearchNode → Search → ControlFlow Spot Search
inside_by Leaf r q s = found false r.place s
inside_by Loop r q s = cond (leb q.weight s.rest) (found true q.place s) (Continue (into r.depth s))
inside_by (Joined code None) r q s = Continue (into r.depth s)
inside_by (Joined code (Some size)) r q s = Continue (into_copy r.depth q.weight s)

unfoldable pub inside : SearchNode → SearchNode → Search → ControlFlow Spot Search
inside r q s = inside_by r.form r q s

-- One node further: a part of the node searched in is passed or entered, any other node is below a part that was passed.
unfoldable pub turn : SearchNode → SearchNode → Search → ControlFlow Spot Search
turn r q s =
    cond (eqb r.depth (suc s.above))
    (cond (leb r.weight s.rest) (Continue (record { above = s.above; rest = s.rest - r.weight; values = s.values })) (inside r q s))
    (Continue s)

abbrev pub onward : ControlFlow Spot Search → (Search → Option Spot) → Option Spot
onward (Break p) further = Some p
onward (Continue s) further = further s

-- None: there is no such event.
unfoldable pub seek : List SearchNode → Search → Option Spot
seek [] s = None
seek (r ∷ rs) s = onward (turn r (next rs) s) (λ t. seek rs t)

-- "The root has depth 1."
abbrev pub begin : ℕ → Search
begin e = record { above = 0; rest = e; values = values 0 0 0 0 }

-- What event e of a diagram by value stands for.
unfoldable pub spot_of : Diagram → ℕ → Option Spot
spot_of d e = seek (weigh (map search_node (take d.count d.nodes))) (begin e)
