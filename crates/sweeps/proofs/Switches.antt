-- Number 10 of a node, by its row. Assumes nothing.
use mathlib.Core.Path.{◌≡◌, refl, ◌∙◌}
use mathlib.Core.Bool.{Bool, true, false, not, ◌&&◌, cond}
use mathlib.Core.List.{List, []}
use Prim.Native.Nat.{ℕ, ◌+◌, ◌<◌}
use lib.ListN.{drop}
use Rattle.diagram.specs.TreeNodes.{flowing}
use Rattle.rules.specs.Kept.{fault, strongs_kept}
use Rattle.walked.specs.Rows.{row_of}
use Rattle.walked.specs.declared.Row.{Row}
use Rattle.std.specs.Prelude.{Some}
use Rattle.names.specs.code.Told.{node, earlier, Told}
use Rattle.names.proofs.Searched.{Searched, search_next, search_here}

weak_or_kept : (flow strong : Bool) → cond flow strong true ≡ not (flow && not strong)
weak_or_kept true true = refl
weak_or_kept true false = refl
weak_or_kept false strong = refl

module _ {text : List ℕ} {rows : List Row} {count i : ℕ} (t : Told text rows count) (s : Searched strongs_kept t.hs i) (h : i < count)
    {b : Bool} (p : b ≡ (flowing (row_of rows i).node.kind && not (row_of rows i).node.strong)) where
  kept : strongs_kept (earlier t.hs i) (node t.hs i) (drop (i + 1) t.hs) ≡ not b
  kept =
      let n = node t.hs i in
      rw (p, (t.row i h).kind, (t.row i h).strong) (weak_or_kept (flowing n.kind) n.strong)

  pub strong_broken : b ≡ true → fault strongs_kept [] t.hs ≡ Some i
  strong_broken e = search_here s (rw t.many h) (t.row i h).number (kept ∙ rw e)

  pub strong_next : b ≡ false → Searched strongs_kept t.hs (i + 1)
  strong_next e = search_next s (rw t.many h) (kept ∙ rw e)
