-- A text that a diagram of at most 256 nodes and 12 depths derives is refused for none of its tokens, and the rows that the walk leaves tell the
-- diagram's nodes.
use mathlib.Core.Path.{◌≡◌, ap, ◌∙◌}
use mathlib.Core.List.{List, []}
use Prim.Native.Nat.{ℕ, ◌≤◌}
use lib.ListN.{length, get_or}
use borrow.Author.Tests.{leb-true}
use Rattle.diagram.specs.Tree.{Flow}
use Rattle.diagram.specs.Count.{flow_nodes}
use Rattle.diagram.specs.TreeNodes.{own, nodes_by}
use Rattle.tokens.specs.Words.{keywords}
use Rattle.tokens.specs.Spans.{tokens}
use Rattle.tokens.specs.Token.{text_tokens}
use Rattle.tokens.proofs.Tokens.{text_proper, keywords_sound}
use Rattle.grammar.specs.Machine.{whole, outcome}
use Rattle.grammar.proofs.Printing.{derived_usual, derived_short}
use Rattle.grammar.proofs.Grammar.{read_derives}
use Rattle.grammar.proofs.Limited.{whole_none_big}
use Rattle.grammar.proofs.LimitedTrees.{none_big_fits}
use Rattle.walked.specs.Rows.{Rowed, row_nodes}
use Rattle.walked.specs.declared.Row.{Row}
use Rattle.walked.proofs.Told.{read, told}
use Rattle.walked.proofs.Rebuilt.{rebuilt}
use Rattle.reading.specs.Answers.{judged, read_of}
use Rattle.reading.specs.Refused.{Clean, Derived}
use Rattle.reading.proofs.Scans.{none_usual, clean_scan}
use Rattle.reading.proofs.Verdicts.{tree_verdict, tree_judged}

-- A text that is read is derived by a diagram within the limits.
pub whole_derived : (text : List ℕ) (n : ℕ) → length text ≤ 16384 → outcome (text_tokens keywords text) ≡ whole n → (d : Flow) × Derived text d
whole_derived text n l e =
    let ts = text_tokens keywords text in
    let r = read_derives keywords keywords_sound ts (text_proper keywords text) n e in
    let fits = none_big_fits r.0 (λ j. rw r.1.tokens at ((whole_none_big ts n e).1 j)) in
    (r.0, record { size = l; derives = r.1; nodes = fits.0; depth = fits.1 })

module _ (text : List ℕ) (d : Flow) (g : Derived text d) where
  pub derived_clean : Clean text
  derived_clean = record {
    size = g.size;
    usual = none_usual text (derived_usual text d g.derives);
    words = λ j l. leb-true (length (get_or (tokens text) j [])) 24 (derived_short text d g.derives j l);
  }

  -- The rows of its nodes.
  pub derived_rows : (rows : List Row) × Rowed text rows 0 (nodes_by own d)
  derived_rows =
      let r = read text d g.derives g.nodes g.depth in
      (r.0.rows, (told text d g.derives g.nodes g.depth (flow_nodes d) r.0 r.1).nodes)

  -- What reading answers.
  pub derived_answer : read_of text ≡ judged text (nodes_by own d) (tree_verdict text d)
  unfolding read_of
  derived_answer =
      let r = read text d g.derives g.nodes g.depth in
      let rows = r.0.rows in
      let t = told text d g.derives g.nodes g.depth (flow_nodes d) r.0 r.1 in
      let e : row_nodes text rows 0 (flow_nodes d) ≡ nodes_by own d =
      ap (row_nodes text rows 0) t.count ∙ rebuilt text rows 0 (nodes_by own d) t.nodes in
      rw (clean_scan text derived_clean, r.1, e, tree_judged text d)
