-- The rows of nodes tell these nodes and no others.
use mathlib.Core.Path.{◌≡◌, refl, sym, ap}
use mathlib.Core.Bool.{Bool, true, false, cond}
use mathlib.Core.List.{List, [], ◌∷◌}
use Prim.Native.Nat.{ℕ, suc}
use lib.ListN.{length}
use Rattle.base.proofs.Truth.{by_cases}
use Rattle.diagram.specs.Tree.{Name}
use Rattle.diagram.specs.TreeNodes.{TextNode, flowing}
use Rattle.tokens.specs.Token.{closing, comma, Token, sign}
use Rattle.grammar.specs.Tokens.{bit, pars_tokens}
use Rattle.walked.specs.Rows.{row_of, tokens_from, past_word, Tells, Rowed, pars_in, row_node, row_nodes}
use Rattle.walked.specs.declared.Row.{Row}

pars_back : (ps : List Name) (sw : Bool) (ts : List Token) → pars_in (pars_tokens ps (sign comma ∷ bit sw ∷ ts)) ≡ ps
unfolding pars_in
pars_back [] false ts = refl
pars_back [] true ts = refl
pars_back (p ∷ ps) sw ts = ap (λ (l : List Name). p ∷ l) (pars_back ps sw ts)

module _ (text : List ℕ) (rows : List Row) (i : ℕ) (h : TextNode) (r : Tells text rows i h) where
  pars_there : cond (flowing h.kind) (pars_in (tokens_from text (past_word text (row_of rows i).node.name))) [] ≡ h.pars
  pars_there =
      by_cases (flowing h.kind)
      (λ t. let l = r.listed t in rw (t, l.tokens) (pars_back h.pars l.sw (sign closing ∷ l.others)))
      (λ t. rw t (sym (r.unlisted t)))

  node_back : row_node text (row_of rows i) i ≡ h
  unfolding row_node
  node_back = rw (r.kind, r.solid, r.strong, r.depth, ← r.word, pars_there, ← r.number)

pub rebuilt : (text : List ℕ) (rows : List Row) (i : ℕ) (hs : List TextNode) → Rowed text rows i hs → row_nodes text rows i (length hs) ≡ hs
unfolding row_nodes
rebuilt text rows i [] r = refl
rebuilt text rows i (h ∷ hs) r = rw (node_back text rows i h r.0, rebuilt text rows (suc i) hs r.1)
