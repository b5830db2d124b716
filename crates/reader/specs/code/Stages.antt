-- What the functions between the stages are held to.
use Rattle.std.specs.Prelude.{◌≡◌, cond, List, ℕ, ◌≤◌, ltb, length}
use Rattle.base.specs.Refusals.{refusal}
use Rattle.base.specs.declared.Reason.TheVariants.{Byte, Word}
use Rattle.base.specs.declared.Refusal.{Refusal}
use Rattle.diagram.specs.TreeNodes.{TextNode}
use Rattle.tokens.specs.Spans.{spans_of}
use Rattle.tokens.specs.Scanned.{first_foreign, first_long}
use Rattle.walked.specs.Rows.{Rowed, Nested}
use Rattle.walked.specs.declared.Row.{Row}
use Rattle.reading.specs.Answers.{judged_nodes, read_of}

-- The refusal of a text that the walk refuses.
unfoldable pub turned_away : List ℕ → Refusal → Refusal
turned_away text r =
    cond (ltb (first_foreign text) (length text)) (refusal Byte (first_foreign text))
    (cond (ltb (first_long (spans_of text) (length text)) (length text)) (refusal Word (first_long (spans_of text) (length text))) r)

-- A text that is walked along to its end: its nodes, and what its rows tell.
pub record Walked (text : List ℕ) (n : ℕ) (rows : List Row) : Type 0 where
  pub nodes : List TextNode
  pub count : length nodes ≡ n
  pub few : n ≤ 256
  pub told : Rowed text rows 0 nodes
  pub deep : Nested 0 nodes
  pub answer : read_of text ≡ judged_nodes text nodes
