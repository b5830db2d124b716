-- The tree of a text, so that what holds of a drawing can be computed. The tokens are read from the last to the first: a bracket that is open on that way waits for its
-- keyword with the names, the number and the nodes that were found in it. For a text that is off grammar this is some tree: whether it has the text's tokens is tested.
use mathlib.Core.Bool.{Bool, false}
use mathlib.Core.List.{List, [], ◌∷◌, foldr}
use Prim.Native.Nat.{ℕ}
use lib.Dec.{eqb}
use lib.ListN.{get_or, drop}
use Rattle.diagram.specs.Tree.{Name, Flow, flow, Children, none, next, Child, plain, loop, group, replicator, Member, leaf, inner, Members, end, also}
use Rattle.tokens.specs.Token.{opening, closing, comma, colon, Keyword, Token, sign, key, name, numeral, other}

pub record Open : Type 0 where
  pub names : List Name
  pub number : ℕ
  pub nodes : Children

abbrev empty : Open
empty = record { names = []; number = 0; nodes = none }

abbrev first : Children → Child
first none = plain (leaf [])
first (next c r cs) = c

abbrev solid : Children → Bool
solid none = false
solid (next c r cs) = r

abbrev rest : Children → Children
rest none = none
rest (next c r cs) = cs

abbrev member : Child → Member
member (plain m) = m
member (loop m) = m
member (group y a b ms) = a
member (replicator y par size m) = m

abbrev members : Children → Members
members none = end
members (next c r cs) = also (member c) (members cs)

-- The node of a keyword.
abbrev node : Keyword → List Name → ℕ → Children → Child
node Keyword.flow names number cs = plain (inner (flow (get_or names 0 []) (drop 1 names) (eqb number 1) (first cs) (solid cs) (rest cs)))
node Keyword.leaf names number cs = plain (leaf (get_or names 0 []))
node (Keyword.group y) names number cs = group y (member (first cs)) (member (first (rest cs))) (members (rest (rest cs)))
node (Keyword.replicator y) names number cs = replicator y (get_or names 0 []) number (member (first cs))
node Keyword.loop names number cs = loop (member (first cs))

-- One token. A node goes to the bracket around it, with the ref that was read before it; so does a number, whose own bracket is then done.
abbrev put : Token → Open → Open → List Open → List Open
put (sign opening) o p ps = o ∷ p ∷ ps
put (sign closing) o p ps = empty ∷ o ∷ p ∷ ps
put (sign comma) o p ps = o ∷ p ∷ ps
put (sign colon) o p ps = o ∷ p ∷ ps
put (key k) o p ps =
    record { names = p.names; number = p.number; nodes = next (node k o.names o.number o.nodes) (eqb p.number 1) p.nodes } ∷ ps
put (name w) o p ps = record { names = w ∷ o.names; number = o.number; nodes = o.nodes } ∷ p ∷ ps
put (numeral n) o p ps = record { names = p.names; number = n; nodes = p.nodes } ∷ ps
put other o p ps = o ∷ p ∷ ps

abbrev root : Member → Flow
root (leaf n) = flow n [] false (plain (leaf n)) false none
root (inner f) = f

abbrev pub tree : List Token → Flow
tree ts =
    let os = foldr (λ (t : Token) (os : List Open). put t (get_or os 0 empty) (get_or os 1 empty) (drop 2 os)) [] ts in
    root (member (first (get_or os 0 empty).nodes))
