-- The walk over a text that a diagram derives ends whole, and the rows tell the diagram's nodes.
use mathlib.Core.Path.{◌≡◌, refl, ap, ◌∙◌}
use mathlib.Core.Bool.{false}
use mathlib.Core.List.{List, [], ◌∷◌}
use Prim.Native.Nat.{ℕ, ◌≤◌}
use native.Mathlib.Nat.{zero-add}
use native.Mathlib.Omega.{arith}
use lib.ListN.{length, replicate, length-replicate}
use Rattle.diagram.specs.Tree.{Flow}
use Rattle.diagram.specs.Count.{flow_nodes}
use Rattle.diagram.specs.Depth.{flow_depth}
use Rattle.diagram.specs.TreeNodes.{TextNode, own, flow_tree_nodes, nodes_by}
use Rattle.tokens.specs.Words.{keywords}
use Rattle.tokens.specs.Spans.{spans_of, places}
use Rattle.tokens.specs.Token.{text_tokens}
use Rattle.grammar.specs.Tokens.{flow_tokens}
use Rattle.grammar.specs.Machine.{node, root, depths}
use Rattle.grammar.specs.Derives.{Derives}
use Rattle.grammar.proofs.Fit.{grammatical_fit}
use Rattle.walked.specs.Walk.{State, state, blank_row, whole, ending}
use Rattle.walked.specs.declared.Row.{Row}
use Rattle.walked.specs.Rows.{Rowed}
use Rattle.walked.proofs.Located.{rest_start}
use Rattle.walked.proofs.Filled.{part_plain}
use Rattle.walked.proofs.Past.{at_start}
use Rattle.walked.proofs.Track.{track, walk_track}
use Rattle.walked.proofs.Nodes.{Walked}
use Rattle.walked.proofs.Tree.{flow_all}

-- What the walk leaves of rows where nothing is written.
pub record TellsAll (text : List ℕ) (hs : List TextNode) (n : ℕ) (rows : List Row) : Type 0 where
  pub count : n ≡ length hs
  pub sized : length rows ≡ 257
  pub nodes : Rowed text rows 0 hs

module _ (text : List ℕ) (d : Flow) (g : Derives keywords (text_tokens keywords text) d) (N : flow_nodes d ≤ 256) (H : flow_depth d ≤ 12)
    (rows : List Row) (z : length rows ≡ 257) where
  walked : Walked text (node root depths) (λ s. s) (flow_tokens d []) [] (λ b hs. flow_tree_nodes own d [] b 1 0 hs) 0 (flow_nodes d) 0 rows
  walked =
      flow_all text d [] root [] depths 1 0 (flow_nodes d) refl (omega arith) ((grammatical_fit keywords d).0 g.proper) 0 rows z
      (rw (← g.tokens) (at_start text))

  ends_whole : ending text rows ≡ whole (flow_nodes d) (state walked.after [])
  unfolding ending track text_tokens places
  ends_whole =
      rw (rest_start text)
      (walk_track text (node root depths ∷ []) 0 (state rows []) 0 (spans_of text) (λ i. rw (zero-add i))
      ∙ (ap (track text (node root depths ∷ []) 0 (state rows []) 0) g.tokens ∙ walked.goes [] []))

  tells : TellsAll text (nodes_by own d) (flow_nodes d) walked.after
  tells =
      let f = walked.first in
      record {
        count = let c = f.counted false [] in omega arith;
        sized = f.kept.sized;
        nodes = (part_plain text f).told walked.after [] (λ j a b. refl) tt;
      }

  read_from : (st : State) × (ending text rows ≡ whole (flow_nodes d) st)
  read_from = (state walked.after [], ends_whole)

  told_from : (n : ℕ) (st : State) → ending text rows ≡ whole n st → TellsAll text (nodes_by own d) n st.rows
  told_from n st e =
      let a : n ≡ flow_nodes d = cc ends_whole in
      let b : st ≡ state walked.after [] = cc ends_whole in
      rw (a, b) tells

-- Rows that are not used yet.
pub all_blank : length (replicate 257 blank_row) ≡ 257
all_blank = length-replicate 257 blank_row

module _ (text : List ℕ) (d : Flow) (g : Derives keywords (text_tokens keywords text) d) (N : flow_nodes d ≤ 256) (H : flow_depth d ≤ 12) where
  pub read : (st : State) × (ending text (replicate 257 blank_row) ≡ whole (flow_nodes d) st)
  read = read_from text d g N H (replicate 257 blank_row) all_blank

  pub told : (n : ℕ) (st : State) → ending text (replicate 257 blank_row) ≡ whole n st → TellsAll text (nodes_by own d) n st.rows
  told n st e = told_from text d g N H (replicate 257 blank_row) all_blank n st e
