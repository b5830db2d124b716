-- The rows that tell the nodes of a text: what the walk leaves, and what the sweeps are asked of.
use Rattle.std.specs.Prelude.{◌≡◌, Bool, true, false, cond, List, [], ◌∷◌, map, ℕ, zero, suc, ◌+◌, ◌≤◌, ◌<◌, length}
use Rattle.diagram.specs.Tree.{Name}
use Rattle.diagram.specs.TreeNodes.{TextNode, flowing, has_name, size_of}
use Rattle.walked.specs.declared.Row.{Row}
use Rattle.walked.specs.Walk.{row_at}
use Rattle.tokens.specs.Words.{keywords, word_at}
use Rattle.tokens.specs.Spans.{Span}
use Rattle.tokens.specs.Token.{closing, comma, Token, sign, key, name, numeral, other, token_of}
use Rattle.tokens.specs.Rest.{rest}
use Rattle.grammar.specs.Tokens.{pars_tokens, bit}
use Rattle.grammar.specs.Named.{all_named}
use Rattle.grammar.specs.Keys.{keyword_at, name_at}

-- The tokens from a position of a text on.
abbrev pub tokens_from : List ℕ → ℕ → List Token
tokens_from text at = map (λ (s : Span). token_of keywords s.bytes) (rest text at)

-- The position after the word that starts at a place.
abbrev pub past_word : List ℕ → ℕ → ℕ
past_word text place = place + length (word_at text place)

-- After a flow's name, which starts at a place, stand its pars and its sw.
pub record Listed (text : List ℕ) (place : ℕ) (pars : List Name) : Type 0 where
  pub sw : Bool
  pub others : List Token
  pub names : all_named keywords pars ≡ true
  pub tokens : tokens_from text (past_word text place) ≡ pars_tokens pars (sign comma ∷ bit sw ∷ sign closing ∷ others)

-- The row of the node i tells it.
abbrev pub row_of : List Row → ℕ → Row
row_of rows i = row_at rows (suc i)

pub record Tells (text : List ℕ) (rows : List Row) (i : ℕ) (h : TextNode) : Type 0 where
  pub number : h.number ≡ i
  pub at : (row_of rows i).node.at ≡ keyword_at text i
  pub solid : (row_of rows i).node.solid ≡ h.solid
  pub name : (row_of rows i).node.name ≡ cond (has_name h.kind) (name_at text i) 0
  pub kind : (row_of rows i).node.kind ≡ h.kind
  pub depth : (row_of rows i).node.depth ≡ h.depth
  pub strong : (row_of rows i).node.strong ≡ h.strong
  pub word : h.name ≡ cond (has_name h.kind) (word_at text (row_of rows i).node.name) []
  pub past : has_name h.kind ≡ true → (row_of rows i).past ≡ past_word text (row_of rows i).node.name
  pub listed : flowing h.kind ≡ true → Listed text (row_of rows i).node.name h.pars
  pub unlisted : flowing h.kind ≡ false → h.pars ≡ []

-- Those of all nodes, the first of which is the node i.
abbrev pub Rowed : List ℕ → List Row → ℕ → List TextNode → Type 0
Rowed text rows i [] = Unit {0}
Rowed text rows i (h ∷ hs) = Tells text rows i h × Rowed text rows (suc i) hs

-- Each node has a depth of 1 to 12, and is at most one deeper than the node before it, the first of which is at depth d.
abbrev pub Nested : ℕ → List TextNode → Type 0
Nested d [] = Unit {0}
Nested d (h ∷ hs) = (0 < h.depth) × (h.depth ≤ suc d) × (h.depth ≤ 12) × Nested h.depth hs

-- No size is over 16.
abbrev pub Sized : List TextNode → Type 0
Sized [] = Unit {0}
Sized (h ∷ hs) = (size_of h.kind ≤ 16) × Sized hs

-- The other way: the nodes that rows tell. The pars of a flow are the names after its own, each after a comma.
abbrev pub one_more : Token → List Name → List Name
one_more (sign s) ns = []
one_more (key k) ns = []
one_more (name w) ns = w ∷ ns
one_more (numeral n) ns = []
one_more other ns = []

unfoldable pub pars_in : List Token → List Name
pars_in [] = []
pars_in (s ∷ []) = []
pars_in (s ∷ t ∷ ts) = one_more t (pars_in ts)

unfoldable pub row_node : List ℕ → Row → ℕ → TextNode
row_node text r i = record {
  number = i;
  kind = r.node.kind;
  solid = r.node.solid;
  strong = r.node.strong;
  depth = r.node.depth;
  name = cond (has_name r.node.kind) (word_at text r.node.name) [];
  pars = cond (flowing r.node.kind) (pars_in (tokens_from text (past_word text r.node.name))) [];
}

-- n of them, from the node i on.
unfoldable pub row_nodes : List ℕ → List Row → ℕ → ℕ → List TextNode
row_nodes text rows i zero = []
row_nodes text rows i (suc n) = row_node text (row_of rows i) i ∷ row_nodes text rows (suc i) n
