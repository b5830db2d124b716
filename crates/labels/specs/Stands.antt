-- Where the name of a leaf or flow stands in a text: "`leaf(name)`", "`flow(name,par,..,sw)`".
use Rattle.std.specs.Prelude.{◌≡◌, Bool, true, false, List, ℕ, ◌+◌, get_or}
use Rattle.diagram.specs.Tree.{Name}
use Rattle.tokens.specs.Words.{keywords, word_at}
use Rattle.tokens.specs.Spans.{places}
use Rattle.tokens.specs.Token.{Token, sign, key, name, numeral, other, text_tokens}
use Rattle.grammar.specs.Machine.{is_member}

-- The keyword of a leaf or flow.
abbrev pub titling : Token → Bool
titling (sign s) = false
titling (key k) = is_member k
titling (name w) = false
titling (numeral n) = false
titling other = false

-- The token two after a keyword `leaf` or `flow`, the `(` being between them, begins at this place, and is this name.
pub record Stands (text : List ℕ) (name : Name) (place : ℕ) : Type 0 where
  pub keyword : ℕ
  pub its_kind : titling (get_or (text_tokens keywords text) keyword other) ≡ true
  pub its_place : place ≡ get_or (places text) (keyword + 2) 0
  pub its_name : word_at text place ≡ name
