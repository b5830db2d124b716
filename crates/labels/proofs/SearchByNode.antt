-- The search, node by node: past a part with those below it, into a node, or found.
use mathlib.Core.Path.{◌≡◌, refl, ap, ◌∙◌}
use mathlib.Core.Bool.{true, false}
use mathlib.Core.List.{List, [], ◌∷◌, ◌++◌}
use Prim.Native.Nat.{ℕ, suc, ◌-◌, ◌/◌, ◌%◌, ◌≤◌, ◌<◌}
use native.Mathlib.Omega.{arith}
use lib.ListN.{length}
use borrow.Author.Tests.{ne_eqb}
use Rattle.diagram.specs.TreeNodes.{TextNode}
use Rattle.std.specs.Prelude.{Option, Some, None}
use Rattle.std.specs.declared.ops.ControlFlow.{ControlFlow}
use Rattle.std.specs.declared.ops.ControlFlow.TheVariants.{Continue}
use Rattle.nodes.specs.declared.Form.TheVariants.{Leaf, Loop}
use Rattle.nodes.specs.Nodes.{form_of}
use Rattle.labels.specs.declared.Spot.{Spot}
use Rattle.labels.specs.declared.Search.{Search}
use Rattle.labels.specs.Values.{packed}
use Rattle.labels.specs.declared.SearchNode.{SearchNode}
use Rattle.labels.specs.Weights.{weight, with_weight, weigh}
use Rattle.labels.specs.Seeks.{next, into, into_copy, inside, onward, seek}
use Rattle.labels.proofs.Steps.{turn_other, turn_past, turn_inside, inside_leaf, inside_reset, inside_body, inside_parts, inside_copies, seek_turn}
use Rattle.labels.proofs.NodeDepths.{Deep, done, deeper, Tree, tree}
use Rattle.labels.proofs.MoreValues.{packed_more}
use Rattle.labels.proofs.TreeWeights.{searched, weighed, first_weight, Joins}

-- A search in a node of depth a, for the event after `rest` others, with the values so far.
abbrev pub search : ℕ → ℕ → List ℕ → Search
search a rest vs = record { above = a; rest = rest; values = packed vs }

-- Into a copy of a replicator's member.
entered_copy : (q : SearchNode) (a b rest : ℕ) (vs : List ℕ) → 1 ≤ q.weight → length vs < 3
    → into_copy b q.weight (search a rest vs) ≡ search b (rest % q.weight) (vs ++ ((rest / q.weight) ∷ []))
unfolding into_copy
entered_copy q a b rest vs w h = rw (ne_eqb q.weight 0 (λ z. omega arith), packed_more vs (rest / q.weight) h)

module _ (at : TextNode → ℕ) where
  abbrev pub sought : List TextNode → Search → Option Spot
  sought hs s = seek (weighed at hs) s

  -- What is deeper than the parts of the node searched in is passed.
  seek_below : (a rest : ℕ) (vs : List ℕ) {hs more : List TextNode} → Deep (suc (suc a)) hs more
      → sought hs (search a rest vs) ≡ sought more (search a rest vs)
  unfolding weigh
  seek_below a rest vs done = refl
  seek_below a rest vs (deeper {h = h} {hs = hs} l p) =
      seek_turn _ (weighed at hs) (search a rest vs) _ (turn_other _ _ (search a rest vs) (λ e. omega arith)) ∙ seek_below a rest vs p

  -- Past a part, with those below it.
  pub seek_past : (a rest : ℕ) (vs : List ℕ) (w : ℕ) {hs more : List TextNode} → Tree (suc a) hs more → first_weight at hs ≡ w → w ≤ rest
      → sought hs (search a rest vs) ≡ sought more (search a (rest - w) vs)
  unfolding weigh
  seek_past a rest vs w (tree {h = h} {hs = hs} d p) e l =
      seek_turn _ (weighed at hs) (search a rest vs) _ (turn_past _ _ (search a rest vs) d (omega arith))
      ∙ (rw e (seek_below a (rest - w) vs p))

  -- The event is one of this node's.
  module _ (h : TextNode) (hs : List TextNode) (a rest : ℕ) (vs : List ℕ) (d : h.depth ≡ suc a) (l : rest < first_weight at (h ∷ hs)) where
    abbrev first : SearchNode
    first = with_weight (searched at h) (weight (searched at h) (weighed at hs))

    abbrev second : SearchNode
    second = next (weighed at hs)

    turned : (t : ControlFlow Spot Search) → inside first second (search a rest vs) ≡ t → sought (h ∷ hs) (search a rest vs) ≡ onward t (λ u. sought hs u)
    unfolding weigh
    turned t q = seek_turn first (weighed at hs) (search a rest vs) t (turn_inside first second (search a rest vs) d l ∙ q)

    pub seek_leaf : form_of h.kind ≡ Leaf → sought (h ∷ hs) (search a rest vs) ≡ Some (record { reset = false; place = at h; values = packed vs })
    seek_leaf k = turned _ (inside_leaf first second (search a rest vs) k)

    pub seek_reset : form_of h.kind ≡ Loop → second.weight ≤ rest
        → sought (h ∷ hs) (search a rest vs) ≡ Some (record { reset = true; place = second.place; values = packed vs })
    seek_reset k m = turned _ (inside_reset first second (search a rest vs) k m)

    -- Into a node of this depth.
    deeper_by : inside first second (search a rest vs) ≡ Continue (into h.depth (search a rest vs))
        → sought (h ∷ hs) (search a rest vs) ≡ sought hs (search (suc a) rest vs)
    deeper_by q = turned _ q ∙ ap (λ (x : ℕ). sought hs (search x rest vs)) d

    pub seek_body : form_of h.kind ≡ Loop → rest < second.weight → sought (h ∷ hs) (search a rest vs) ≡ sought hs (search (suc a) rest vs)
    seek_body k m = deeper_by (inside_body first second (search a rest vs) k m)

    -- Its parts are joined.
    pub seek_parts : Joins h.kind None → sought (h ∷ hs) (search a rest vs) ≡ sought hs (search (suc a) rest vs)
    seek_parts j = deeper_by (inside_parts first second (search a rest vs) j.form_is)

    pub seek_copy : {size : ℕ} → Joins h.kind (Some size) → 1 ≤ second.weight → length vs < 3
        → sought (h ∷ hs) (search a rest vs) ≡ sought hs (search (suc a) (rest % second.weight) (vs ++ ((rest / second.weight) ∷ [])))
    seek_copy j m n =
        turned _ (inside_copies first second (search a rest vs) j.form_is)
        ∙ (ap (sought hs) (entered_copy second a h.depth rest vs m n)
        ∙ ap (λ (x : ℕ). sought hs (search x (rest % second.weight) (vs ++ ((rest / second.weight) ∷ [])))) d)
