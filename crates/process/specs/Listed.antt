-- The events of T and U as document 01 lists them, and those of a drawing of our own, one replicator inside another: "values outermost
-- first".
use Rattle.std.specs.Prelude.{◌≡◌, true, List, [], ◌∷◌, map}
use Rattle.base.specs.Text.{bytes}
use Rattle.diagram.specs.Tree.{Flow}
use Rattle.diagram.specs.Drawings.{T, U, nested}
use Rattle.process.specs.Process.{Event, events}
use Rattle.process.specs.Expand.{expand, leaf_copy}

pub record Listing : Type 0 where
  pub drawing : Flow
  pub lines : List Event

-- Of U document 01 says "2 reset r".
abbrev pub listings : List Listing
listings =
    record {
      drawing = nested;
      lines =
          leaf_copy (bytes "a") (0 ∷ 0 ∷ []) ∷ leaf_copy (bytes "a") (0 ∷ 1 ∷ []) ∷ leaf_copy (bytes "b") (0 ∷ [])
          ∷ leaf_copy (bytes "a") (1 ∷ 0 ∷ []) ∷ leaf_copy (bytes "a") (1 ∷ 1 ∷ []) ∷ leaf_copy (bytes "b") (1 ∷ []) ∷ leaf_copy (bytes "c") [] ∷ [];
    }
    ∷ record {
      drawing = T;
      lines =
          leaf_copy (bytes "take") [] ∷ leaf_copy (bytes "fill") [] ∷ leaf_copy (bytes "send") []
          ∷ leaf_copy (bytes "drop") [] ∷ leaf_copy (bytes "free") [] ∷ [];
    }
    ∷ record {
      drawing = U;
      lines = leaf_copy (bytes "a") [] ∷ leaf_copy (bytes "b") [] ∷ record { reset = true; name = bytes "r"; values = [] } ∷ leaf_copy (bytes "c") [] ∷ [];
    }
    ∷ []

-- Each drawing's events are its lines.
abbrev pub Listed : List Listing → Type 0
Listed ls = map (λ (l : Listing). events (expand l.drawing)) ls ≡ map (λ (l : Listing). l.lines) ls
