-- Property 2 on the lent bytes: what was printed, read again; and which texts print alike.
use mathlib.Core.Path.{◌≡◌, refl, sym, ◌∙◌, ap, ap₂, subst}
use mathlib.Core.List.{List, [], ◌∷◌, map, map-append}
use Prim.Native.Nat.{ℕ, ◌-◌, ◌≤◌}
use native.Mathlib.Omega.{arith}
use lib.ListN.{length, get_or, drop, replicate}
use Rattle.std.specs.Prelude.{Ok}
use Rattle.base.specs.Reports.{Written, result}
use Rattle.base.proofs.Filled.{fill_front}
use Rattle.diagram.specs.Tree.{Flow}
use Rattle.diagram.specs.TreeNodes.{TextNode}
use Rattle.diagram.specs.Stored.{blank_node}
use Rattle.diagram.specs.declared.Node.{Node}
use Rattle.diagram.specs.declared.Diagram.{Diagram}
use Rattle.grammar.specs.Printed.{printed}
use Rattle.reading.specs.Nodes.{node_of, stored}
use Rattle.reading.specs.Answers.{read_of}
use Rattle.reading.specs.Accepted.{Accepted}
use Rattle.reading.proofs.Exact.{held, accepted_read, its_diagram, accepted_exactly}
use Rattle.reading.proofs.Shown.{accepted_shown}
use Rattle.printer.specs.Prints.{left_by}
use Rattle.printer.specs.Reports.{report}
use Rattle.printer.specs.Same.{unplaced_node, unplaced, Same, written, wrote, Again, Alike}
use Rattle.printer.proofs.Alike.{printed_shorter, printed_accepted, print_alike}
use Rattle.printer.proofs.Bounds.{accepted_prints}

-- "Places aside": but for its places a node does not depend on the text in which it stands.
nodes_unplaced : (s t : List ℕ) (hs : List TextNode) → map unplaced_node (map (node_of s) hs) ≡ map unplaced_node (map (node_of t) hs)
unfolding node_of
nodes_unplaced s t [] = refl
nodes_unplaced s t (h ∷ hs) = ap (λ (ns : List Node). unplaced_node (node_of s h) ∷ ns) (nodes_unplaced s t hs)

stored_unplaced : (s t : List ℕ) (hs : List TextNode) (x y : ℕ) → unplaced (stored s hs x y) ≡ unplaced (stored t hs x y)
unfolding unplaced stored
stored_unplaced s t hs x y =
    rw (
      map-append unplaced_node (map (node_of s) hs) (replicate (256 - length hs) blank_node),
      map-append unplaced_node (map (node_of t) hs) (replicate (256 - length hs) blank_node),
      nodes_unplaced s t hs,
    )

-- It forgets nothing else: diagrams that are equal without their places, and have the same places, are equal.
placed_node : Node → ℕ → ℕ → Node
placed_node n at name = record { kind = n.kind; solid = n.solid; strong = n.strong; depth = n.depth; at = at; name = name }

node_placed : (n m : Node) → unplaced_node n ≡ unplaced_node m → n.at ≡ m.at → n.name ≡ m.name → n ≡ m
unfolding placed_node
node_placed n m e p q = ap (λ (x : Node). placed_node x n.at n.name) e ∙ ap₂ (placed_node m) p q

nodes_placed : (ns ms : List Node) → map unplaced_node ns ≡ map unplaced_node ms → map (λ n. n.at) ns ≡ map (λ n. n.at) ms
    → map (λ n. n.name) ns ≡ map (λ n. n.name) ms → ns ≡ ms
nodes_placed [] [] e p q = refl
nodes_placed [] (m ∷ ms) e p q = let z : ⊥ = omega (arith, ap length p) in absurd z
nodes_placed (n ∷ ns) [] e p q = let z : ⊥ = omega (arith, ap length p) in absurd z
nodes_placed (n ∷ ns) (m ∷ ms) e p q =
    let x : n.at ≡ m.at = cc in
    let y : n.name ≡ m.name = cc in
    let h : unplaced_node n ≡ unplaced_node m = ap (λ (l : List Node). get_or l 0 n) e in
    ap₂ (λ (a : Node) (l : List Node). a ∷ l) (node_placed n m h x y) (nodes_placed ns ms (ap (drop 1) e) (ap (drop 1) p) (ap (drop 1) q))

pub only_places : (g h : Diagram) → unplaced g ≡ unplaced h → map (λ n. n.at) g.nodes ≡ map (λ n. n.at) h.nodes
    → map (λ n. n.name) g.nodes ≡ map (λ n. n.name) h.nodes → g ≡ h
unfolding unplaced
only_places g h e p q =
    let ns = nodes_placed g.nodes h.nodes (ap (λ (d : Diagram). d.nodes) e) p q in
    ap (λ (d : Diagram). record { nodes = g.nodes; count = d.count; copies = d.copies; events = d.events }) e
    ∙ ap (λ (l : List Node). record { nodes = l; count = h.count; copies = h.copies; events = h.events }) ns

-- Two texts of one tree have the same diagram, places aside.
pub same_diagram : (s t : List ℕ) (d : Flow) → Accepted s d → Accepted t d → {g h : Diagram} → read_of s ≡ Ok g → read_of t ≡ Ok h → Same s g t h
same_diagram s t d a b q r = record {
  nodes = rw (its_diagram s d a q, its_diagram t d b r) (stored_unplaced s t _ _ _);
  names = (accepted_shown s d a q).nodes ∙ sym (accepted_shown t d b r).nodes;
}

-- What was written is the text without its blanks.
pub wrote_printed : (text lent : List ℕ) (d : Flow) → 16384 ≤ length lent → Accepted text d → wrote text lent ≡ printed text
wrote_printed text lent d h a =
    ap (λ (p : Written). written p (left_by text lent p)) (accepted_prints text lent d h a)
    ∙ fill_front lent (printed text) (omega (arith, printed_shorter text, a.short))

-- "printing and reading again yields that diagram"
pub print_then_read : (text lent : List ℕ) (d : Flow) → 16384 ≤ length lent → Accepted text d → Again text lent d
print_then_read text lent d long a =
    let w = wrote_printed text lent d long a in
    let b : Accepted (wrote text lent) d = subst (λ (l : List ℕ). Accepted l d) (sym w) (printed_accepted text d a) in
    let (g, q) = (accepted_exactly text).1 (d, a) in
    let (h, r) = (accepted_exactly (wrote text lent)).1 (d, b) in
    record {
      reported = ap report (accepted_prints text lent d long a) ∙ ap (λ (l : List ℕ). result (length l ∷ [])) (sym w);
      accepted = b;
      first = g;
      second = h;
      read = q;
      done = r;
      same = same_diagram (wrote text lent) text d b a r q;
      shows = accepted_shown text d a q;
      shows_again = accepted_shown (wrote text lent) d b r;
    }

-- "two accepted texts print alike exactly if their diagrams are equal"
pub left_alike : (s lent : List ℕ) (d : Flow) (t owed : List ℕ) (e : Flow) → 16384 ≤ length lent → 16384 ≤ length owed → Accepted s d → Accepted t e
    → Alike s lent d t owed e
left_alike s lent d t owed e h k a b =
    let w = wrote_printed s lent d h a in
    let v = wrote_printed t owed e k b in
    let i = print_alike s t d e a b in
    let trees : wrote s lent ≡ wrote t owed → d ≡ e = λ q. i.0 (sym w ∙ (q ∙ v)) in
    record {
      exactly = (trees, λ q. w ∙ (i.1 q ∙ sym v));
      same = λ q.
          let b' = subst (Accepted t) (sym (trees q)) b in
          let x = accepted_read s d a in
          let y = accepted_read t d b' in
          (held s d, held t d, x, y, same_diagram s t d a b' x y);
    }
