-- A text has one listing.
use mathlib.Core.Path.{◌≡◌, refl}
use mathlib.Core.List.{List}
use Prim.Native.Nat.{ℕ}
use Rattle.reading.specs.Reading.{Reading}
use Rattle.reading.proofs.Reading.{Same, same_drawing, same_no_drawing, one_reading}
use Rattle.events.specs.Listing.{listing}

same_listing : {text : List ℕ} {v w : Reading text} → Same v w → listing v ≡ listing w
unfolding listing
same_listing (same_drawing d a b) = refl
same_listing (same_no_drawing n p r s) = refl

pub one_listing : {text : List ℕ} (v w : Reading text) → listing v ≡ listing w
one_listing v w = same_listing (one_reading v w)
