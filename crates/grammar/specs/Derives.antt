-- What a text derives, and which beginnings some grammatical text has. The nine words that are keywords are given.
use Rattle.std.specs.Prelude.{◌≡◌, true, List, [], ◌++◌}
use Rattle.diagram.specs.Tree.{Name, Flow}
use Rattle.diagram.specs.Sizes.{flow_sized}
use Rattle.tokens.specs.Token.{Token}
use Rattle.grammar.specs.Named.{flow_named}
use Rattle.grammar.specs.Tokens.{flow_tokens}

-- A diagram of the grammar: its names are names, and its sizes are 1 to 16.
pub record Grammatical (words : List Name) (d : Flow) : Type 0 where
  pub names : flow_named words d ≡ true
  pub sizes : flow_sized d ≡ true

-- The diagram derives these tokens.
pub record Derives (words : List Name) (ts : List Token) (d : Flow) : Type 0 where
  pub proper : Grammatical words d
  pub tokens : ts ≡ flow_tokens d []

-- Some grammatical text starts with these tokens.
abbrev pub Viable : List Name → List Token → Type 0
Viable words ts = (d : Flow) × (rest : List Token) × Derives words (ts ++ rest) d
