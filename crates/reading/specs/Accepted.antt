-- Property 2: "A text is accepted exactly if the grammar with its rules and limits derives it."
use Rattle.std.specs.Prelude.{ℕ, ◌≤◌, List, length}
use Rattle.diagram.specs.Tree.{Flow}
use Rattle.diagram.specs.Count.{flow_nodes, flow_copies, flow_events}
use Rattle.diagram.specs.Depth.{flow_depth}
use Rattle.diagram.specs.Rules.{Keeps}
use Rattle.tokens.specs.Words.{keywords}
use Rattle.tokens.specs.Token.{text_tokens}
use Rattle.grammar.specs.Derives.{Derives}

-- The text is no longer than 16,384 bytes, the diagram derives its tokens, keeps the rules beyond grammar and has at most 256 nodes, 12 depths,
-- 768 node copies and 512 events.
pub record Accepted (text : List ℕ) (d : Flow) : Type 0 where
  pub short : length text ≤ 16384
  pub derived : Derives keywords (text_tokens keywords text) d
  pub keeps : Keeps d
  pub nodes : flow_nodes d ≤ 256
  pub depth : flow_depth d ≤ 12
  pub copies : flow_copies d ≤ 768
  pub events : flow_events d ≤ 512
