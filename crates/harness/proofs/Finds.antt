-- Laws of a node that is looked up by its index.
use Rattle.std.proofs.Common.{◌≡◌, refl, sym, ◌∙◌, ℕ, zero, suc, ◌≤◌, ◌<◌, List, [], ◌∷◌, length, get_or, arith}
use Rattle.std.specs.Prelude.{Ok, Err, Some, None}
use borrow.Author.Tests.{lt-ltb, le-ltb}
use Rattle.base.specs.declared.Refusal.{Refusal}
use Rattle.diagram.specs.Stored.{blank_node}
use Rattle.diagram.specs.declared.Diagram.{Diagram}
use Rattle.diagram.specs.declared.Node.{Node}
use Rattle.reading.specs.Answers.{read_of}
use Rattle.reading.specs.Bounds.{Bounded, result, refusal}
use Rattle.reading.proofs.Bounds.{read_bounded}
use Rattle.reading.proofs.Exact.{done_refused}
use Rattle.harness.specs.Nodes.{found_at}

-- Inside a list it does not matter what stands for the elements past its end.
pub same_at : {A : Type 0} (l : List A) (i : ℕ) (x y : A) → i < length l → get_or l i x ≡ get_or l i y
same_at [] i x y h = let z : ⊥ = omega arith in absurd z
same_at (a ∷ l) zero x y h = refl
same_at (a ∷ l) (suc i) x y h = same_at l i x y (omega arith)

pub found_away : (text : List ℕ) (i : ℕ) (r : Refusal) → read_of text ≡ Err r → Err r ≡ found_at (read_of text) i
found_away text i r q = rw q

module _ (text : List ℕ) (i : ℕ) (g : Diagram) (q : read_of text ≡ Ok g) where
  -- A text that is read has at most 256 nodes.
  few_nodes : g.count ≤ 256
  few_nodes = go (read_bounded text)
    where
      go : Bounded text (read_of text) → g.count ≤ 256
      go (result r) = let e : r.diagram ≡ g = cc in rw (← e) (omega (arith, r.shown.count, r.limits.nodes))
      go (refusal r) = done_refused (sym q ∙ r.is)

  pub found_past : g.count ≤ i → Ok None ≡ found_at (read_of text) i
  found_past h = rw (q, le-ltb i g.count h)

  pub found_there : i < g.count → {n : Node} → n ≡ get_or g.nodes i blank_node → Ok (Some n) ≡ found_at (read_of text) i
  found_there h e = rw (q, lt-ltb i g.count h, e)

  pub below : i < g.count → i < 256
  below h = omega (arith, few_nodes)
