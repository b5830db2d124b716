-- Laws of the nodes by their numbers: those before one, those from it on. Assumes nothing.
use mathlib.Core.Path.{◌≡◌, refl}
use mathlib.Core.List.{List, [], ◌∷◌}
use Prim.Native.Nat.{ℕ, ◌+◌, ◌≤◌, ◌<◌}
use native.Mathlib.Numerals.{add-one}
use lib.ListN.{length, drop, drop_of_length-le}
use lib.Seq.{drop-cons}
use Rattle.diagram.specs.TreeNodes.{TextNode}
use Rattle.names.specs.code.Told.{no_node, node, earlier, last_depth}

module _ (hs : List TextNode) where
  pub earlier_none : earlier hs 0 ≡ []
  unfolding earlier
  earlier_none = refl

  pub last_none : last_depth hs 0 ≡ 0
  unfolding last_depth
  last_none = refl

  module _ (i : ℕ) where
    pub earlier_more : earlier hs (i + 1) ≡ node hs i ∷ earlier hs i
    unfolding earlier
    earlier_more = rw (add-one i)

    pub last_more : last_depth hs (i + 1) ≡ (node hs i).depth
    unfolding last_depth
    last_more = rw (add-one i)

    pub from_here : i < length hs → drop i hs ≡ node hs i ∷ drop (i + 1) hs
    from_here h = rw (add-one i) (drop-cons hs i no_node h)

    pub from_past : length hs ≤ i → drop i hs ≡ []
    from_past h = drop_of_length-le hs h
