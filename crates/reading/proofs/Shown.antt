-- The diagram of an accepted text is the one derived.
use mathlib.Core.Path.{◌≡◌, refl, sym, ◌∙◌, ap, ap₂}
use mathlib.Core.List.{List, [], ◌∷◌, map}
use Prim.Native.Nat.{ℕ, suc, ◌-◌}
use lib.ListN.{length, take, replicate, length-map}
use lib.Seq.{take_at}
use Rattle.std.specs.Prelude.{Ok}
use Rattle.diagram.specs.Tree.{Flow}
use Rattle.diagram.specs.Count.{flow_copies, flow_events}
use Rattle.diagram.specs.Stored.{blank_node}
use Rattle.diagram.specs.TreeNodes.{TextNode, ShownNode, shown_as, own, shown, nodes_by}
use Rattle.diagram.proofs.Mapped.{mapped, nodes_counted}
use Rattle.diagram.proofs.OneTree.{one_tree}
use Rattle.walked.specs.Rows.{Tells, Rowed}
use Rattle.walked.specs.declared.Row.{Row}
use Rattle.reading.specs.Nodes.{name_place, node_of, stored}
use Rattle.reading.specs.Answers.{read_of}
use Rattle.reading.specs.Accepted.{Accepted}
use Rattle.reading.specs.Shows.{Shows, ShowsOnly, shown_node, shown_nodes}
use Rattle.diagram.specs.declared.Diagram.{Diagram}
use Rattle.reading.proofs.Derived.{derived_rows}
use Rattle.reading.proofs.Exact.{held, accepted_derived, accepted_read, its_diagram}

-- What a diagram shows of a node, by its own tokens.
abbrev text_shown : TextNode → ShownNode
text_shown h = shown_as h.kind h.solid h.strong h.depth h.name

pub tree_shown : (d : Flow) → map text_shown (nodes_by own d) ≡ nodes_by shown d
tree_shown d = mapped text_shown own d

-- A node shows the name that stands at its place, which its row tells.
row_shown : (text : List ℕ) (rows : List Row) (i : ℕ) (h : TextNode) → Tells text rows i h → shown_node text (node_of text h) ≡ text_shown h
unfolding shown_node node_of name_place
row_shown text rows i h r = ap (shown_as h.kind h.solid h.strong h.depth) (rw (r.number, ← r.name) (sym r.word))

rows_shown : (text : List ℕ) (rows : List Row) (i : ℕ) (hs : List TextNode) → Rowed text rows i hs → map (shown_node text) (map (node_of text) hs) ≡ map text_shown hs
rows_shown text rows i [] r = refl
rows_shown text rows i (h ∷ hs) r =
    ap₂ (λ (v : ShownNode) (vs : List ShownNode). v ∷ vs) (row_shown text rows i h r.0) (rows_shown text rows (suc i) hs r.1)

-- The nodes of a diagram that count are those it was made of.
pub nodes_kept : (text : List ℕ) (hs : List TextNode) (x y : ℕ) → take (stored text hs x y).count (stored text hs x y).nodes ≡ map (node_of text) hs
unfolding stored
nodes_kept text hs x y = take_at (map (node_of text) hs) (replicate (256 - length hs) blank_node) (length hs) (length-map hs (node_of text))

held_shown : (text : List ℕ) (d : Flow) → Accepted text d → Shows text d (held text d)
unfolding stored shown_nodes
held_shown text d a =
    let hs = nodes_by own d in
    let r = derived_rows text d (accepted_derived text d a) in
    record {
      nodes = ap (map (shown_node text)) (nodes_kept text hs (flow_copies d) (flow_events d)) ∙ (rows_shown text r.0 0 hs r.1 ∙ tree_shown d);
      count = nodes_counted own d;
      copies = refl;
      events = refl;
    }

pub accepted_shown : (text : List ℕ) (d : Flow) → Accepted text d → {g : Diagram} → read_of text ≡ Ok g → Shows text d g
accepted_shown text d a e = rw (its_diagram text d a e) (held_shown text d a)

pub shows_only : (text : List ℕ) (d : Flow) → Accepted text d → {g : Diagram} → read_of text ≡ Ok g → ShowsOnly text d g
shows_only text d a q =
    let h = accepted_shown text d a q in
    record { this = h; no_other = λ e p k. one_tree e d p a.keeps.parameters (sym k.nodes ∙ h.nodes) }

-- "its diagram is the one derived": what reading answers for an accepted text is a diagram that shows the tree that derives it, and no other.
pub accepted_shows_only : (text : List ℕ) (d : Flow) → Accepted text d → (g : Diagram) × (read_of text ≡ Ok g) × ShowsOnly text d g
accepted_shows_only text d a = let e = accepted_read text d a in (held text d, e, shows_only text d a e)
