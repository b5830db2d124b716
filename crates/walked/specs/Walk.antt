-- The machine of the grammar along a text: it stops at places of bytes, and each token that it takes may write into the rows of the nodes.
use Rattle.std.specs.Prelude.{Bool, false, cond, List, [], ◌∷◌, ◌++◌, ℕ, suc, ◌+◌, ◌-◌, eqb, length, drop, get_or, set}
use Rattle.base.specs.declared.Reason.{Reason}
use Rattle.diagram.specs.Tree.{Name}
use Rattle.diagram.specs.TreeNodes.{group_kind, replicator_kind}
use Rattle.diagram.specs.declared.Kind.{Kind}
use Rattle.diagram.specs.declared.Kind.TheVariants.{Flow, Leaf, And, Or, Xor, All, Some as SomeOf, One, Loop}
use Rattle.walked.specs.declared.Row.{Row}
use Rattle.tokens.specs.Words.{keywords}
use Rattle.tokens.specs.Spans.{Span}
use Rattle.tokens.specs.Token.{closing, Keyword, Token, key, name, numeral, other, token_of}
use Rattle.tokens.specs.Rest.{rest}
use Rattle.grammar.specs.Machine.{is_sign, is_name, Place, root, member, child, Want, sign, named, number, params, param, node, more, others, Move, off, big, push, depths, Outcome, expand}
use Rattle.grammar.specs.Machine as Machine

-- The rows of the nodes, from row 1 on, so that the last node read has the row of its count; and the children whose ref is still to come, by the numbers
-- of nodes before them.
pub record State : Type 0 where
  pub rows : List Row
  pub pending : List ℕ

abbrev pub state : List Row → List ℕ → State
state rows pending = record { rows = rows; pending = pending }

-- A row that is not used: each byte is 0.
abbrev pub blank_row : Row
blank_row = record { node = record { kind = Flow; solid = false; strong = false; depth = 0; at = 0; name = 0 }; past = 0 }

-- The row i, and the rows with that one changed.
abbrev pub row_at : List Row → ℕ → Row
row_at rows i = get_or rows i blank_row

abbrev pub change : List Row → ℕ → (Row → Row) → List Row
change rows i f = set rows i (f (row_at rows i))

-- The kind of the node that a token begins; a replicator has no size yet.
abbrev pub begun_kind : Token → Kind
begun_kind (Token.sign s) = Leaf
begun_kind (key Keyword.flow) = Flow
begun_kind (key Keyword.leaf) = Leaf
begun_kind (key (Keyword.group y)) = group_kind y
begun_kind (key (Keyword.replicator y)) = replicator_kind y 0
begun_kind (key Keyword.loop) = Loop
begun_kind (name w) = Leaf
begun_kind (numeral n) = Leaf
begun_kind other = Leaf

-- The row after n nodes is begun: a node of this kind, whose keyword stands at the place p and for which d depths are left.
abbrev pub begun_row : Kind → ℕ → ℕ → Row
begun_row kind p depth = record { node = record { kind = kind; solid = false; strong = false; depth = depth; at = p; name = 0 }; past = 0 }

unfoldable pub begun : List Row → ℕ → Kind → ℕ → ℕ → List Row
begun rows n kind p d = set rows (suc n) (begun_row kind p (13 - d))

-- A child waits for its ref; a member and the root have none.
abbrev pub waiting : Place → ℕ → List ℕ → List ℕ
waiting root n pending = pending
waiting member n pending = pending
waiting child n pending = n ∷ pending

abbrev pub beginning : Place → ℕ → ℕ → Kind → ℕ → State → State
beginning place d n kind p st = state (begun st.rows n kind p d) (waiting place n st.pending)

-- A row with its solid mark, with the place of its name or par and the place past it, with its size, with its sw.
abbrev pub marked : Bool → Row → Row
marked b r = record {
  node = record { kind = r.node.kind; solid = b; strong = r.node.strong; depth = r.node.depth; at = r.node.at; name = r.node.name };
  past = r.past;
}

abbrev pub named_at : ℕ → ℕ → Row → Row
named_at p e r = record {
  node = record { kind = r.node.kind; solid = r.node.solid; strong = r.node.strong; depth = r.node.depth; at = r.node.at; name = p };
  past = e;
}

abbrev pub with_size : ℕ → Kind → Kind
with_size v Flow = Flow
with_size v Leaf = Leaf
with_size v And = And
with_size v Or = Or
with_size v Xor = Xor
with_size v (All z) = All v
with_size v (SomeOf z) = SomeOf v
with_size v (One z) = One v
with_size v Loop = Loop

abbrev pub sized : ℕ → Row → Row
sized v r = record {
  node = record { kind = with_size v r.node.kind; solid = r.node.solid; strong = r.node.strong; depth = r.node.depth; at = r.node.at; name = r.node.name };
  past = r.past;
}

abbrev pub switched : Bool → Row → Row
switched b r = record {
  node = record { kind = r.node.kind; solid = r.node.solid; strong = b; depth = r.node.depth; at = r.node.at; name = r.node.name };
  past = r.past;
}

-- A ref is that of the child that has waited least.
abbrev pub marking : ℕ → State → State
marking v st = state (change st.rows (suc (get_or st.pending 0 0)) (marked (eqb v 1))) (drop 1 st.pending)

-- The last node's name or par, its size, its sw.
abbrev pub naming : ℕ → ℕ → ℕ → State → State
naming n p e st = state (change st.rows n (named_at p e)) st.pending

abbrev pub sizing : ℕ → ℕ → State → State
sizing n v st = state (change st.rows n (sized v)) st.pending

abbrev pub switching : ℕ → ℕ → State → State
switching n v st = state (change st.rows n (switched (eqb v 1))) st.pending

-- The word that a name is, and the number that a numeral stands for.
abbrev pub spelled : Token → Name
spelled (Token.sign s) = []
spelled (key k) = []
spelled (name w) = w
spelled (numeral n) = []
spelled other = []

abbrev pub value : Token → ℕ
value (Token.sign s) = 0
value (key k) = 0
value (name w) = 0
value (numeral n) = n
value other = 0

-- What a token, at the place p, writes where it is taken for a want and n nodes stand before it.
unfoldable pub effect : Want → ℕ → Token → ℕ → State → State
effect (sign s) n t p st = st
effect named n t p st = naming n p (p + length (spelled t)) st
effect (number a b) n t p st = cond (eqb a 0) (marking (value t) st) (sizing n (value t) st)
effect params n t p st = st
effect param n t p st = cond (is_name t) st (switching n (value t) st)
effect (node place d) n t p st = beginning place d n (begun_kind t) p st
effect (more d) n t p st = cond (is_sign closing t) st (beginning child d n (begun_kind t) p st)
effect (others d) n t p st = cond (is_sign closing t) st (beginning member d n (begun_kind t) p st)

-- What stands at the end: a text read, with its number of nodes and their rows; or a refusal at a place.
pub data End : Type 0 where
  whole : ℕ → State → End
  stop : Reason → ℕ → End

abbrev pub proceed : Move → ℕ → (ℕ → List Want → End) → End
proceed off k go = stop Reason.Token k
proceed big k go = stop Reason.Node k
proceed (push u ws) k go = go u ws

-- `grammar.specs.Machine.run` with places for the tokens' numbers, and with what is written. e is the text's end.
unfoldable pub walk : List Want → ℕ → State → ℕ → List Span → End
walk [] n st e [] = whole n st
walk [] n st e (s ∷ ss) = stop Reason.Token s.place
walk (w ∷ ws) n st e [] = stop Reason.Token e
walk (w ∷ ws) n st e (s ∷ ss) =
    proceed (expand w n (token_of keywords s.bytes)) s.place
    (λ u vs. walk (vs ++ ws) (n + u) (effect w n (token_of keywords s.bytes) s.place st) e ss)

-- The machine from a position of a text on.
abbrev pub from : List ℕ → List Want → ℕ → State → ℕ → End
from text ws n st at = walk ws n st (length text) (rest text at)

-- "The text is one flow, the root": the end, where these rows are lent.
unfoldable pub ending : List ℕ → List Row → End
ending text rows = from text (node root depths ∷ []) 0 (state rows []) 0

-- The end without what was written, and an outcome by tokens with their places.
abbrev pub unwritten : End → Outcome
unwritten (whole n st) = Machine.whole n
unwritten (stop c k) = Machine.stop c k

abbrev pub placed_by : (ℕ → ℕ) → Outcome → Outcome
placed_by f (Machine.whole n) = Machine.whole n
placed_by f (Machine.stop c k) = Machine.stop c (f k)
