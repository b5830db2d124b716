-- The nodes of an accepted text's diagram stand in the text where those of its tree do.
use mathlib.Core.Path.{◌≡◌, refl, sym, ◌∙◌, ap, ap₂}
use mathlib.Core.Bool.{Bool}
use mathlib.Core.List.{List, [], ◌∷◌, ◌++◌, map, cons≢nil, nil≢cons, head-eq_of_cons-eq, tail-eq_of_cons-eq}
use Prim.Native.Nat.{ℕ, ◌-◌}
use lib.ListN.{length, take, drop, replicate, length-map, take-append-drop}
use lib.Seq.{drop_at}
use Rattle.std.specs.Prelude.{Ok}
use Rattle.diagram.specs.Tree.{Flow}
use Rattle.diagram.specs.Count.{flow_copies, flow_events}
use Rattle.diagram.specs.Stored.{blank_node}
use Rattle.diagram.specs.TreeNodes.{TreeNode, ShownNode, own, nodes_by}
use Rattle.diagram.specs.declared.Kind.{Kind}
use Rattle.diagram.specs.declared.Node.{Node}
use Rattle.diagram.specs.declared.Diagram.{Diagram}
use Rattle.diagram.proofs.Mapped.{mapped}
use Rattle.reading.specs.Nodes.{node_of, stored}
use Rattle.reading.specs.Answers.{read_of}
use Rattle.reading.specs.Accepted.{Accepted}
use Rattle.reading.specs.Shows.{Shows, shown_node, shown_nodes}
use Rattle.reading.specs.Places.{Placed}
use Rattle.reading.proofs.Exact.{held, accepted_read, its_diagram}
use Rattle.reading.proofs.Shown.{nodes_kept}

abbrev ats : List Node → List ℕ
ats ns = map (λ (n : Node). n.at) ns

abbrev names : List Node → List ℕ
names ns = map (λ (n : Node). n.name) ns

held_placed : (text : List ℕ) (d : Flow) → Placed text d (held text d)
unfolding stored node_of
held_placed text d =
    let hs = nodes_by own d in
    let its : TreeNode → Node = λ h. node_of text h.own in
    let kept = nodes_kept text hs (flow_copies d) (flow_events d) ∙ mapped (node_of text) own d in
    record {
      keywords = ap ats kept ∙ mapped (λ (n : Node). n.at) its d;
      names = ap names kept ∙ mapped (λ (n : Node). n.name) its d;
      blank = drop_at (map (node_of text) hs) (replicate (256 - length hs) blank_node) (length hs) (length-map hs (node_of text));
    }

pub read_placed : (text : List ℕ) (d : Flow) → Accepted text d → {g : Diagram} → read_of text ≡ Ok g → Placed text d g
read_placed text d a e = rw (its_diagram text d a e) (held_placed text d)

-- An accepted text is read, and its diagram has the places.
pub accepted_placed : (text : List ℕ) (d : Flow) → Accepted text d → (g : Diagram) × (read_of text ≡ Ok g) × Placed text d g
accepted_placed text d a = (held text d, accepted_read text d a, held_placed text d)

-- Nodes that are shown alike and have the same places are the same.
same_node : (text : List ℕ) (m n : Node) → shown_node text m ≡ shown_node text n → m.at ≡ n.at → m.name ≡ n.name → m ≡ n
unfolding shown_node
same_node text m n e p q =
    let k : m.kind ≡ n.kind = ap (λ (v : ShownNode). v.kind) e in
    let b : m.solid ≡ n.solid = ap (λ (v : ShownNode). v.solid) e in
    let s : m.strong ≡ n.strong = ap (λ (v : ShownNode). v.strong) e in
    let d : m.depth ≡ n.depth = ap (λ (v : ShownNode). v.depth) e in
    ap₂ (λ (k : Kind) (b : Bool). record { kind = k; solid = b; strong = m.strong; depth = m.depth; at = m.at; name = m.name }) k b
    ∙ (ap₂ (λ (s : Bool) (d : ℕ). record { kind = n.kind; solid = n.solid; strong = s; depth = d; at = m.at; name = m.name }) s d
    ∙ ap₂ (λ (a x : ℕ). record { kind = n.kind; solid = n.solid; strong = n.strong; depth = n.depth; at = a; name = x }) p q)

same_nodes : (text : List ℕ) (ms ns : List Node) → map (shown_node text) ms ≡ map (shown_node text) ns → ats ms ≡ ats ns → names ms ≡ names ns → ms ≡ ns
same_nodes text [] [] e p q = refl
same_nodes text [] (n ∷ ns) e p q = absurd (nil≢cons p)
same_nodes text (m ∷ ms) [] e p q = absurd (cons≢nil p)
same_nodes text (m ∷ ms) (n ∷ ns) e p q =
    ap₂ (λ (x : Node) (l : List Node). x ∷ l) (same_node text m n (head-eq_of_cons-eq e) (head-eq_of_cons-eq p) (head-eq_of_cons-eq q))
    (same_nodes text ms ns (tail-eq_of_cons-eq e) (tail-eq_of_cons-eq p) (tail-eq_of_cons-eq q))

same_diagram : (g h : Diagram) → g.nodes ≡ h.nodes → g.count ≡ h.count → g.copies ≡ h.copies → g.events ≡ h.events → g ≡ h
same_diagram g h l n x y =
    ap₂ (λ (ns : List Node) (n : ℕ). record { nodes = ns; count = n; copies = g.copies; events = g.events }) l n
    ∙ ap₂ (λ (x y : ℕ). record { nodes = h.nodes; count = h.count; copies = x; events = y }) x y

-- One diagram at most shows a tree at its places in a text.
pub one_diagram : (text : List ℕ) (d : Flow) (g h : Diagram) → Shows text d g → Placed text d g → Shows text d h → Placed text d h → g ≡ h
unfolding shown_nodes
one_diagram text d g h s p t q = same_diagram g h all c (s.copies ∙ sym t.copies) (s.events ∙ sym t.events)
  where
    c : g.count ≡ h.count
    c = s.count ∙ sym t.count

    front : take g.count g.nodes ≡ take h.count h.nodes
    front =
        same_nodes text (take g.count g.nodes) (take h.count h.nodes) (s.nodes ∙ sym t.nodes) (p.keywords ∙ sym q.keywords)
        (p.names ∙ sym q.names)

    back : drop g.count g.nodes ≡ drop h.count h.nodes
    back = p.blank ∙ (ap (λ (n : ℕ). replicate (256 - n) blank_node) c ∙ sym q.blank)

    all : g.nodes ≡ h.nodes
    all = sym (take-append-drop g.count g.nodes) ∙ (ap₂ (λ (x y : List Node). x ++ y) front back ∙ take-append-drop h.count h.nodes)
