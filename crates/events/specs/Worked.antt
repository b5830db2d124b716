-- The listing that document 01 shows for T, and those of U ("in U below, `2 reset r`") and of one replicator inside another, byte by byte.
use Rattle.std.specs.Prelude.{◌≡◌, List, [], ◌∷◌, map, ℕ}
use Rattle.base.specs.Text.{bytes}
use Rattle.diagram.specs.Tree.{Flow}
use Rattle.diagram.specs.Drawings.{T, U, nested}
use Rattle.events.specs.Listing.{drawing_listing}

pub record Worked : Type 0 where
  pub drawing : Flow
  pub listing : List ℕ

abbrev pub table : List Worked
table =
    record {
      drawing = T;
      listing = bytes "events 5 copies 8\n0 take\n1 fill\n2 send\n3 drop\n4 free\n";
    }
    ∷ record {
      drawing = U;
      listing = bytes "events 4 copies 6\n0 a\n1 b\n2 reset r\n3 c\n";
    }
    ∷ record {
      drawing = nested;
      listing = bytes "events 7 copies 13\n0 a 0 0\n1 a 0 1\n2 b 0\n3 a 1 0\n4 a 1 1\n5 b 1\n6 c\n";
    }
    ∷ []

-- Each drawing's listing is these bytes.
abbrev pub Shown : List Worked → Type 0
Shown ws = map (λ (w : Worked). drawing_listing w.drawing) ws ≡ map (λ (w : Worked). w.listing) ws
