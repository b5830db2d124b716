-- What an event number of an accepted text stands for is the event of that number: its mark, its values, and its name at its place in the text.
use mathlib.Core.Path.{◌≡◌, refl, ap, ◌∙◌}
use mathlib.Core.List.{List, [], ◌∷◌, map}
use Prim.Native.Nat.{ℕ, ◌-◌, ◌≤◌, ◌<◌}
use native.Mathlib.Omega.{arith}
use lib.ListN.{length, replicate, length-map}
use lib.Seq.{take_at}
use Rattle.diagram.specs.Tree.{Flow}
use Rattle.diagram.specs.Count.{flow_copies, flow_events}
use Rattle.diagram.specs.Stored.{blank_node}
use Rattle.diagram.specs.TreeNodes.{TextNode, own, nodes_by}
use Rattle.reading.specs.Nodes.{name_place, node_of, stored}
use Rattle.reading.specs.Answers.{read_of}
use Rattle.reading.specs.Accepted.{Accepted}
use Rattle.reading.proofs.Exact.{held, accepted_read, its_diagram}
use Rattle.std.specs.Prelude.{Ok, None}
use Rattle.diagram.specs.declared.Diagram.{Diagram}
use Rattle.process.specs.Process.{event_of}
use Rattle.process.specs.Expand.{expand}
use Rattle.process.proofs.Events.{event_in_order}
use Rattle.labels.specs.Stands.{Stands}
use Rattle.labels.specs.SearchNodes.{search_node}
use Rattle.labels.specs.declared.SearchNode.{SearchNode}
use Rattle.labels.specs.Weights.{weigh}
use Rattle.labels.specs.Seeks.{begin, seek, spot_of}
use Rattle.labels.proofs.TreeWeights.{searched}
use Rattle.labels.proofs.SearchByNode.{sought}
use Rattle.labels.proofs.SearchByTree.{Finds, nothing, event_found, none_found}
use Rattle.labels.proofs.KeyNodes.{text_known}

-- The nodes that the diagram by value holds.
stored_nodes : (text : List ℕ) (hs : List TextNode) → map search_node (map (node_of text) hs) ≡ map (searched (name_place text)) hs
unfolding node_of
stored_nodes text [] = refl
stored_nodes text (h ∷ hs) = ap (λ (rs : List SearchNode). searched (name_place text) h ∷ rs) (stored_nodes text hs)

stored_spot : (text : List ℕ) (hs : List TextNode) (x y e : ℕ) → spot_of (stored text hs x y) e ≡ sought (name_place text) hs (begin e)
unfolding spot_of stored
stored_spot text hs x y e =
    ap (λ (rs : List SearchNode). seek (weigh rs) (begin e))
    (ap (map search_node) (take_at (map (node_of text) hs) (replicate (256 - length hs) blank_node) (length hs) (length-map hs (node_of text)))
    ∙ stored_nodes text hs)

pub spot_labelled : (text : List ℕ) (d : Flow) {g : Diagram} → Accepted text d → read_of text ≡ Ok g → (e : ℕ) → e < flow_events d
    → Finds (Stands text) (event_of (expand d) e) (spot_of g e)
spot_labelled text d a q e l =
    let keeps = a.keeps in
    let few = a.events in
    let found = event_found (name_place text) (Stands text) d keeps.sizes keeps.parameters (omega arith) (text_known text d a.derived) e l in
    let same = ap (λ (g : Diagram). spot_of g e) (its_diagram text d a q) ∙ stored_spot text (nodes_by own d) (flow_copies d) (flow_events d) e in
    rw (same, event_in_order d keeps.sizes e nothing l) found

-- An accepted text is read, and each event of its diagram has its spot there.
pub labelled : (text : List ℕ) (d : Flow) → Accepted text d → (e : ℕ) → e < flow_events d
    → (g : Diagram) × (read_of text ≡ Ok g) × Finds (Stands text) (event_of (expand d) e) (spot_of g e)
labelled text d a e l =
    let q = accepted_read text d a in
    (held text d, q, spot_labelled text d a q e l)

-- Past the last event there is none.
pub unlabelled : (text : List ℕ) (d : Flow) {g : Diagram} → Accepted text d → read_of text ≡ Ok g → (e : ℕ) → flow_events d ≤ e → spot_of g e ≡ None
unlabelled text d a q e l =
    let keeps = a.keeps in
    let few = a.events in
    ap (λ (g : Diagram). spot_of g e) (its_diagram text d a q)
    ∙ (stored_spot text (nodes_by own d) (flow_copies d) (flow_events d) e
    ∙ none_found (name_place text) (Stands text) d keeps.sizes keeps.parameters (omega arith) e l)
