-- Node copies and events, counted along the nodes. Assumes nothing.
use mathlib.Core.Path.{◌≡◌, refl, sym, ◌∙◌}
use mathlib.Core.Bool.{Bool, true, false, cond}
use mathlib.Core.List.{List, [], ◌∷◌}
use Prim.Native.Nat.{ℕ, ◌+◌, ◌≤◌, ◌<◌}
use native.Mathlib.Nat.{zero-add, add-zero}
use lib.ListN.{length, drop}
use Rattle.diagram.specs.TreeNodes.{TextNode}
use Rattle.rules.specs.Counted.{times, total, capped}
use Rattle.names.specs.code.Told.{node, earlier}
use Rattle.names.proofs.Numbered.{earlier_none, earlier_more, from_here, from_past}
use Rattle.sweeps.proofs.Capped.{capped_self, sum_step}

-- Those of the nodes before the number i that count come to n.
pub record Summed (w : TextNode → List TextNode → Bool) (hs : List TextNode) (n i : ℕ) : Type 0 where
  pub is : capped (n + total w (earlier hs i) (drop i hs)) ≡ capped (total w [] hs)

pub sum_start : (w : TextNode → List TextNode → Bool) (hs : List TextNode) → Summed w hs 0 0
sum_start w hs = record { is = rw (earlier_none hs, zero-add) }

capped_if : (b : Bool) (t : ℕ) → cond b (capped t) 0 ≡ capped (cond b t 0)
capped_if true t = refl
capped_if false t = refl

module _ {w : TextNode → List TextNode → Bool} {hs : List TextNode} {n i : ℕ} (s : Summed w hs n i) where
  pub sum_end : n ≤ 769 → length hs ≤ i → n ≡ capped (total w [] hs)
  unfolding total
  sum_end l h = sym (capped_self n l) ∙ rw (from_past hs i h, add-zero n) at s.is

  -- One more node, which has x copies, of which y count.
  pub sum_next : {x y m : ℕ} → i < length hs → x ≡ capped (times (node hs i).depth (earlier hs i)) → y ≡ cond (w (node hs i) (drop (i + 1) hs)) x 0
      → m ≡ capped (n + y)
      → Summed w hs m (i + 1)
  unfolding total
  sum_next {x} {y} {m} h p q g =
      let b = w (node hs i) (drop (i + 1) hs) in
      let t = times (node hs i).depth (earlier hs i) in
      let r = total w (node hs i ∷ earlier hs i) (drop (i + 1) hs) in
      let e : y ≡ capped (cond b t 0) = q ∙ rw p (capped_if b t) in
      record { is = rw (earlier_more hs i) (sum_step n (cond b t 0) r m (rw e at g) ∙ (rw (from_here hs i h) at s.is)) }
