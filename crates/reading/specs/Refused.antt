-- Document 01, "Numbers for what is turned away", numbers 2 to 11: the condition of each, with its place, where none before it holds.
use Rattle.std.specs.Prelude.{◌≡◌, ◌⊎◌, Bool, true, false, List, [], ◌++◌, ℕ, suc, ◌≤◌, ◌<◌, length, get_or, take, Some}
use Rattle.diagram.specs.Tree.{Flow}
use Rattle.diagram.specs.Count.{flow_nodes, flow_copies, flow_events}
use Rattle.diagram.specs.Depth.{flow_depth}
use Rattle.diagram.specs.Names.{flow_names, differ}
use Rattle.diagram.specs.Parameters.{flow_parameters}
use Rattle.diagram.specs.Flows.{each_flow, solid, strong}
use Rattle.tokens.specs.Remarks.{foreign_at}
use Rattle.diagram.specs.TreeNodes.{TreeNode, nodes_by}
use Rattle.tokens.specs.Words.{keywords}
use Rattle.tokens.specs.Spans.{tokens, places}
use Rattle.tokens.specs.Token.{Token, text_tokens}
use Rattle.grammar.specs.Derives.{Derives, Viable}
use Rattle.grammar.specs.Keys.{keyword_at, name_at}
use Rattle.rules.specs.Broken.{too_big, first_twice, parameters_fit, solids_fit, strongs_fit, first_broken}

-- The place of a token, or the text's length where the text ends.
abbrev pub place_of : List ℕ → ℕ → ℕ
place_of text k = get_or (places text) k (length text)

-- 2: "text over 16,384 bytes", at 16,384.
pub record Long (text : List ℕ) (at : ℕ) : Type 0 where
  pub over : 16384 < length text
  pub place : at ≡ 16384

-- 3: a foreign byte, outside remarks or in one, at the "first such byte".
pub record Foreign (text : List ℕ) (at : ℕ) : Type 0 where
  pub size : length text ≤ 16384
  pub inside : at < length text
  pub here : foreign_at text at ≡ true
  pub first : (j : ℕ) → j < at → foreign_at text j ≡ false

-- The text has no foreign byte.
abbrev pub Usual : List ℕ → Type 0
Usual text = (j : ℕ) → j < length text → foreign_at text j ≡ false

-- 4: a word "over 24 bytes", at the "first byte of the first such word". Only a word has more than one byte.
pub record Wordy (text : List ℕ) (at : ℕ) : Type 0 where
  pub size : length text ≤ 16384
  pub usual : Usual text
  pub token : ℕ
  pub inside : token < length (tokens text)
  pub over : 24 < length (get_or (tokens text) token [])
  pub first : (j : ℕ) → j < token → length (get_or (tokens text) j []) ≤ 24
  pub place : at ≡ get_or (places text) token 0

-- The text is not refused for any of these.
pub record Clean (text : List ℕ) : Type 0 where
  pub size : length text ≤ 16384
  pub usual : Usual text
  pub words : (j : ℕ) → j < length (tokens text) → length (get_or (tokens text) j []) ≤ 24

-- 5: "no grammatical text starts with the tokens up to here, or the text ends early", at "that token, or text length". A tree derives the
-- tokens before it, with some rest, and has no node that is refused with 6 there.
pub record Off (text : List ℕ) (at : ℕ) : Type 0 where
  pub clean : Clean text
  pub token : ℕ
  pub inside : token ≤ length (tokens text)
  pub tree : Flow
  pub rest : List Token
  pub before : Derives keywords (take token (text_tokens keywords text) ++ rest) tree
  pub here : token < length (tokens text) → Viable keywords (take (suc token) (text_tokens keywords text)) → ⊥
  pub early : token ≡ length (tokens text) → (d : Flow) → Derives keywords (text_tokens keywords text) d → ⊥
  pub small : (j : ℕ) → j < token → too_big tree j ≡ false
  pub place : at ≡ place_of text token

-- 6: "node 257, or a node at depth 13", at "its keyword": that of a node of a tree which derives the tokens up to here, with some rest. They
-- are not off grammar, then, and it is the first such token.
pub record Big (text : List ℕ) (at : ℕ) : Type 0 where
  pub clean : Clean text
  pub token : ℕ
  pub inside : token < length (tokens text)
  pub tree : Flow
  pub rest : List Token
  pub viable : Derives keywords (take (suc token) (text_tokens keywords text) ++ rest) tree
  pub here : too_big tree token ≡ true
  pub first : (j : ℕ) → j < token → too_big tree j ≡ false
  pub place : at ≡ place_of text token

-- The text is not refused for its tokens: a diagram of at most 256 nodes and 12 depths derives it.
pub record Derived (text : List ℕ) (d : Flow) : Type 0 where
  pub size : length text ≤ 16384
  pub derives : Derives keywords (text_tokens keywords text) d
  pub nodes : flow_nodes d ≤ 256
  pub depth : flow_depth d ≤ 12

-- 7: a name that "equals an earlier leaf or flow name", at "the first such name".
pub record Twice (text : List ℕ) (at : ℕ) (d : Flow) : Type 0 where
  pub derived : Derived text d
  pub node : ℕ
  pub here : first_twice [] (nodes_by (λ h. h) d) ≡ Some node
  pub place : at ≡ name_at text node

-- The first node that does not pass stands at this place, that of its keyword.
pub record Breaks (text : List ℕ) (at : ℕ) (d : Flow) (fit : TreeNode → Bool) : Type 0 where
  pub derived : Derived text d
  pub node : ℕ
  pub here : first_broken fit (nodes_by (λ h. h) d) ≡ Some node
  pub place : at ≡ keyword_at text node

-- 8: "a parameter rule broken", at the "keyword of the first such node".
pub record Misplaced (text : List ℕ) (at : ℕ) (d : Flow) : Type 0 where
  pub names : differ (flow_names d []) ≡ true
  pub broken : Breaks text at d parameters_fit

-- 9: "solid child rule broken", at the "keyword of the first such flow".
pub record Unsolid (text : List ℕ) (at : ℕ) (d : Flow) : Type 0 where
  pub names : differ (flow_names d []) ≡ true
  pub parameters : flow_parameters d [] ≡ true
  pub broken : Breaks text at d solids_fit

-- 10: "sw 0", at the "keyword of the first such flow".
pub record Weak (text : List ℕ) (at : ℕ) (d : Flow) : Type 0 where
  pub names : differ (flow_names d []) ≡ true
  pub parameters : flow_parameters d [] ≡ true
  pub solids : each_flow d solid ≡ true
  pub broken : Breaks text at d strongs_fit

-- 11: "over 768 node copies or 512 events", at 0.
pub record Many (text : List ℕ) (at : ℕ) (d : Flow) : Type 0 where
  pub derived : Derived text d
  pub names : differ (flow_names d []) ≡ true
  pub parameters : flow_parameters d [] ≡ true
  pub solids : each_flow d solid ≡ true
  pub strongs : each_flow d strong ≡ true
  pub over : (768 < flow_copies d) ⊎ (512 < flow_events d)
  pub place : at ≡ 0

-- A text is turned away with this number at this place.
pub data RefusedAt (text : List ℕ) (number at : ℕ) : Type 0 where
  by_size : number ≡ 2 → Long text at → RefusedAt text number at
  by_byte : number ≡ 3 → Foreign text at → RefusedAt text number at
  by_word : number ≡ 4 → Wordy text at → RefusedAt text number at
  by_token : number ≡ 5 → Off text at → RefusedAt text number at
  by_limit : number ≡ 6 → Big text at → RefusedAt text number at
  by_name : number ≡ 7 → (d : Flow) → Twice text at d → RefusedAt text number at
  by_parameter : number ≡ 8 → (d : Flow) → Misplaced text at d → RefusedAt text number at
  by_solid : number ≡ 9 → (d : Flow) → Unsolid text at d → RefusedAt text number at
  by_strong : number ≡ 10 → (d : Flow) → Weak text at d → RefusedAt text number at
  by_count : number ≡ 11 → (d : Flow) → Many text at d → RefusedAt text number at
