-- The search for the first node that breaks a rule, from one node to the next. Assumes nothing.
use mathlib.Core.Path.{◌≡◌, sym, ◌∙◌}
use mathlib.Core.Bool.{Bool, true, false, not}
use mathlib.Core.List.{List, []}
use Prim.Native.Nat.{ℕ, ◌+◌, ◌≤◌, ◌<◌}
use lib.ListN.{length, drop}
use borrow.Author.Tests.{not-true, not-false}
use Rattle.diagram.specs.TreeNodes.{TextNode}
use Rattle.rules.specs.Kept.{fault}
use Rattle.std.specs.Prelude.{Some, None}
use Rattle.names.specs.code.Told.{node, earlier}
use Rattle.names.proofs.Numbered.{earlier_none, earlier_more, from_here, from_past}

-- The nodes before the number i keep the rule.
pub record Searched (kept : List TextNode → TextNode → List TextNode → Bool) (hs : List TextNode) (i : ℕ) : Type 0 where
  pub is : fault kept [] hs ≡ fault kept (earlier hs i) (drop i hs)

pub search_start : (kept : List TextNode → TextNode → List TextNode → Bool) (hs : List TextNode) → Searched kept hs 0
search_start kept hs = record { is = rw (earlier_none hs) }

module _ {kept : List TextNode → TextNode → List TextNode → Bool} {hs : List TextNode} {i : ℕ} (s : Searched kept hs i) where
  pub search_end : length hs ≤ i → fault kept [] hs ≡ None
  unfolding fault
  search_end h = s.is ∙ rw (from_past hs i h)

  module _ (h : i < length hs) where
    pub search_next : kept (earlier hs i) (node hs i) (drop (i + 1) hs) ≡ true → Searched kept hs (i + 1)
    unfolding fault
    search_next e = record { is = s.is ∙ rw (from_here hs i h, e, earlier_more hs i) }

    pub search_here : (node hs i).number ≡ i → kept (earlier hs i) (node hs i) (drop (i + 1) hs) ≡ false → fault kept [] hs ≡ Some i
    unfolding fault
    search_here n e = s.is ∙ rw (from_here hs i h, e, n)

    -- By a test b that said so, negated.
    module _ {b : Bool} (p : b ≡ kept (earlier hs i) (node hs i) (drop (i + 1) hs)) where
      pub search_broken : (node hs i).number ≡ i → not b ≡ true → fault kept [] hs ≡ Some i
      search_broken n e = search_here n (sym p ∙ not-true b e)

      pub search_kept : not b ≡ false → Searched kept hs (i + 1)
      search_kept e = search_next (sym p ∙ not-false b e)
