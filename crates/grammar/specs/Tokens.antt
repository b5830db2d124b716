-- Document 01, "The text": the tokens of each part of the grammar, written before the tokens given.
use Rattle.std.specs.Prelude.{Bool, true, false, List, [], ◌∷◌}
use Rattle.diagram.specs.Tree.{Name, Flow, flow, Children, none, next, Child, plain, loop, group, replicator, Member, leaf, inner, Members, end, also}
use Rattle.tokens.specs.Token.{opening, closing, comma, colon, Keyword, Token, sign, key, name, numeral}

-- "sw and ref are 0 or 1"
abbrev pub bit : Bool → Token
bit false = numeral 0
bit true = numeral 1

-- The pars of a flow, each after a comma.
abbrev pub pars_tokens : List Name → List Token → List Token
pars_tokens [] ts = ts
pars_tokens (p ∷ ps) ts = sign comma ∷ name p ∷ pars_tokens ps ts

-- A child's `(ref)`.
abbrev pub ref_tokens : Bool → List Token → List Token
ref_tokens r ts = sign opening ∷ bit r ∷ sign closing ∷ ts

unfoldable mutual
  pub flow_tokens : Flow → List Token → List Token
  flow_tokens (flow n ps sw c r cs) ts =
      key Keyword.flow ∷ sign opening ∷ name n
      ∷ pars_tokens ps (sign comma ∷ bit sw ∷ sign closing ∷ sign opening ∷ child_tokens c (ref_tokens r (children_tokens cs (sign closing ∷ ts))))

  pub children_tokens : Children → List Token → List Token
  children_tokens none ts = ts
  children_tokens (next c r cs) ts = child_tokens c (ref_tokens r (children_tokens cs ts))

  pub child_tokens : Child → List Token → List Token
  child_tokens (plain m) ts = member_tokens m ts
  child_tokens (loop m) ts = key Keyword.loop ∷ sign opening ∷ member_tokens m (sign closing ∷ ts)
  child_tokens (group y a b ms) ts = key (Keyword.group y) ∷ sign opening ∷ member_tokens a (member_tokens b (members_tokens ms (sign closing ∷ ts)))
  child_tokens (replicator y par size m) ts =
      key (Keyword.replicator y) ∷ sign opening ∷ name par ∷ sign colon ∷ numeral size ∷ sign closing ∷ sign opening ∷ member_tokens m (sign closing ∷ ts)

  pub member_tokens : Member → List Token → List Token
  member_tokens (leaf n) ts = key Keyword.leaf ∷ sign opening ∷ name n ∷ sign closing ∷ ts
  member_tokens (inner f) ts = flow_tokens f ts

  pub members_tokens : Members → List Token → List Token
  members_tokens end ts = ts
  members_tokens (also m ms) ts = member_tokens m (members_tokens ms ts)
