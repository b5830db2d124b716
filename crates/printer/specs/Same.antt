-- Property 2, "printing and reading again yields that diagram; two accepted texts print alike exactly if their diagrams are equal", of what the calls answer and
-- leave.
use Rattle.std.specs.Prelude.{◌≡◌, ◌↔◌, List, [], ◌∷◌, map, ℕ, length, take, Ok, Err}
use Rattle.base.specs.Reports.{Written, result}
use Rattle.diagram.specs.Tree.{Flow}
use Rattle.diagram.specs.declared.Node.{Node}
use Rattle.diagram.specs.declared.Diagram.{Diagram}
use Rattle.reading.specs.Answers.{read_of}
use Rattle.reading.specs.Accepted.{Accepted}
use Rattle.reading.specs.Shows.{shown_nodes, Shows}
use Rattle.printer.specs.Prints.{print_of, left_by}
use Rattle.printer.specs.Reports.{report}

-- A diagram by value without its places: a node tells where its keyword and its name stand in the text, and without the blanks they stand elsewhere. Nothing
-- else is left out: `printer.proofs.Same.only_places`.
abbrev pub unplaced_node : Node → Node
unplaced_node n = record { kind = n.kind; solid = n.solid; strong = n.strong; depth = n.depth; at = 0; name = 0 }

unfoldable pub unplaced : Diagram → Diagram
unplaced g = record { nodes = map unplaced_node g.nodes; count = g.count; copies = g.copies; events = g.events }

-- Two texts have the same diagram, places aside: nodes and counts are equal but for the places, and so are the names that stand at those places.
pub record Same (s : List ℕ) (g : Diagram) (t : List ℕ) (h : Diagram) : Type 0 where
  pub nodes : unplaced g ≡ unplaced h
  pub names : shown_nodes s g ≡ shown_nodes t h

-- The bytes that an answer says were written: the front of those that the call left.
abbrev pub written : Written → List ℕ → List ℕ
written (Ok n) left = take n left
written (Err r) left = []

abbrev pub wrote : List ℕ → List ℕ → List ℕ
wrote text lent = written (print_of text lent) (left_by text lent (print_of text lent))

-- "printing and reading again yields that diagram": what was written, read, is a drawing with the same diagram; both show the one tree.
pub record Again (text lent : List ℕ) (d : Flow) : Type 0 where
  pub reported : report (print_of text lent) ≡ result (length (wrote text lent) ∷ [])
  pub accepted : Accepted (wrote text lent) d
  pub first : Diagram
  pub second : Diagram
  pub read : read_of text ≡ Ok first
  pub done : read_of (wrote text lent) ≡ Ok second
  pub same : Same (wrote text lent) second text first
  pub shows : Shows text d first
  pub shows_again : Shows (wrote text lent) d second

-- "two accepted texts print alike exactly if their diagrams are equal", over any two buffers; and then the diagrams that were read are the same.
pub record Alike (s lent : List ℕ) (d : Flow) (t owed : List ℕ) (e : Flow) : Type 0 where
  pub exactly : (wrote s lent ≡ wrote t owed) ↔ (d ≡ e)
  pub same : wrote s lent ≡ wrote t owed → (g : Diagram) × (h : Diagram) × (read_of s ≡ Ok g) × (read_of t ≡ Ok h) × Same s g t h
