-- The reader as a machine: what it still wants is a list, of which each token replaces the first entry.
use Rattle.std.specs.Prelude.{Bool, true, false, ◌||◌, cond, List, [], ◌∷◌, ◌++◌, ℕ, suc, ◌+◌, ◌-◌, eqb, leb}
use Rattle.base.specs.declared.Reason.{Reason}
use Rattle.tokens.specs.Classes.{between}
use Rattle.tokens.specs.Token.{Sign, opening, closing, comma, colon, Keyword, flow, leaf, group, replicator, loop, Token, key, name, numeral, other}
pub use Rattle.tokens.specs.Token.{is_sign, is_name}

-- What is asked of a token: is it this sign, a name, a keyword, a number from a to b.
-- "Leaves, flows and constructors are nodes": each keyword begins one.
abbrev pub is_key : Token → Bool
is_key (Token.sign r) = false
is_key (key k) = true
is_key (name w) = false
is_key (numeral n) = false
is_key other = false

abbrev pub counts : ℕ → ℕ → Token → Bool
counts a b (Token.sign r) = false
counts a b (key k) = false
counts a b (name w) = false
counts a b (numeral n) = between a b n
counts a b other = false

-- Where a node stands: "The text is one flow, the root. Child: leaf, constructor or flow. Member: leaf or flow."
pub data Place : Type 0 where
  root : Place
  member : Place
  child : Place

abbrev pub is_flow : Keyword → Bool
is_flow flow = true
is_flow leaf = false
is_flow (group y) = false
is_flow (replicator y) = false
is_flow loop = false

abbrev pub is_member : Keyword → Bool
is_member flow = true
is_member leaf = true
is_member (group y) = false
is_member (replicator y) = false
is_member loop = false

abbrev pub allows : Place → Keyword → Bool
allows root k = is_flow k
allows member k = is_member k
allows child k = true

pub data Want : Type 0 where
  -- this sign; a name; a number from the first to the second
  sign : Sign → Want
  named : Want
  number : ℕ → ℕ → Want
  -- the pars and sw of a flow up to its first `)`: before a comma, and after one
  params : Want
  param : Want
  -- a node that may stand here, with so many depths left
  node : Place → ℕ → Want
  -- the `)` of a flow, or another child with its ref before it; the `)` of a group, or another member before it
  more : ℕ → Want
  others : ℕ → Want

-- A token is off grammar, or stands for a node that is too many or too deep, or is taken: it adds so many nodes, and the list is wanted
-- instead of the first entry.
pub data Move : Type 0 where
  off : Move
  big : Move
  push : ℕ → List Want → Move

-- What stands at the end: a text read, with its number of nodes; or a refusal at a token.
pub data Outcome : Type 0 where
  whole : ℕ → Outcome
  stop : Reason → ℕ → Outcome

abbrev pub ref : List Want
ref = sign opening ∷ number 0 1 ∷ sign closing ∷ []

-- What follows the keyword of a node, whose parts have d depths left.
abbrev pub flow_parts : ℕ → List Want
flow_parts d = sign opening ∷ named ∷ params ∷ sign opening ∷ node child d ∷ ref ++ (more d ∷ [])

abbrev pub leaf_parts : List Want
leaf_parts = sign opening ∷ named ∷ sign closing ∷ []

abbrev pub group_parts : ℕ → List Want
group_parts d = sign opening ∷ node member d ∷ node member d ∷ others d ∷ []

abbrev pub replicator_parts : ℕ → List Want
replicator_parts d =
    sign opening ∷ named ∷ sign colon ∷ number 1 16 ∷ sign closing ∷ sign opening ∷ node member d ∷ sign closing ∷ []

abbrev pub loop_parts : ℕ → List Want
loop_parts d = sign opening ∷ node member d ∷ sign closing ∷ []

abbrev pub parts : Keyword → ℕ → List Want
parts flow d = flow_parts d
parts leaf d = leaf_parts
parts (group y) d = group_parts d
parts (replicator y) d = replicator_parts d
parts loop d = loop_parts d

-- Number 6: "node 257, or a node at depth 13": n nodes stand before it, and d depths are left.
abbrev pub full : ℕ → ℕ → Bool
full d n = eqb d 0 || leb 256 n

-- A node's keyword, where n nodes stand before it, and what is wanted after the node.
abbrev pub begin : Place → ℕ → ℕ → Token → List Want → Move
begin p d n (Token.sign s) after = off
begin p d n (key k) after = cond (allows p k) (cond (full d n) big (push 1 (parts k (d - 1) ++ after))) off
begin p d n (name w) after = off
begin p d n (numeral m) after = off
begin p d n other after = off

-- What becomes of the first entry at the token t, where n nodes stand before it.
unfoldable pub expand : Want → ℕ → Token → Move
expand (sign s) n t = cond (is_sign s t) (push 0 []) off
expand named n t = cond (is_name t) (push 0 []) off
expand (number a b) n t = cond (counts a b t) (push 0 []) off
expand params n t = cond (is_sign comma t) (push 0 (param ∷ [])) off
expand param n t = cond (is_name t) (push 0 (params ∷ [])) (cond (counts 0 1 t) (push 0 (sign closing ∷ [])) off)
expand (node p d) n t = begin p d n t []
expand (more d) n t = cond (is_sign closing t) (push 0 []) (begin child d n t (ref ++ (more d ∷ [])))
expand (others d) n t = cond (is_sign closing t) (push 0 []) (begin member d n t (others d ∷ []))

abbrev pub proceed : Move → ℕ → (ℕ → List Want → Outcome) → Outcome
proceed off k go = stop Reason.Token k
proceed big k go = stop Reason.Node k
proceed (push u ws) k go = go u ws

-- The outcome, from what is wanted, the nodes so far, the number of the next token, and the tokens left.
unfoldable pub run : List Want → ℕ → ℕ → List Token → Outcome
run [] n k [] = whole n
run [] n k (t ∷ ts) = stop Reason.Token k
run (w ∷ ws) n k [] = stop Reason.Token k
run (w ∷ ws) n k (t ∷ ts) = proceed (expand w n t) k (λ u vs. run (vs ++ ws) (n + u) (suc k) ts)

-- A node at depth 13 is too deep.
abbrev pub depths : ℕ
depths = 12

-- "The text is one flow, the root."
unfoldable pub outcome : List Token → Outcome
outcome ts = run (node root depths ∷ []) 0 0 ts
