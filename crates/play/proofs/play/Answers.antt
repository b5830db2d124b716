-- The bytes of the listing fit their buffer.
use Rattle.std.proofs.Common.{ℕ, replicate, ◌≡◌, length}
use Rattle.std.proofs.lemmas.List.{length-replicate}
use Rattle.events.proofs.Bounds.{list_room}
use Rattle.play.proofs.play.Goals as goal

long : length (replicate {A = ℕ} 32768 0) ≡ 32768
long = length-replicate {A = ℕ} 32768 0

pub slice_bounds-listing-end : goal.slice_bounds-listing-end
slice_bounds-listing-end g c = (list_room _ (replicate 32768 0) c.list-count.result _ c.list-count.ensures long).0

pub slice_bounds-run-end : goal.slice_bounds-run-end
slice_bounds-run-end g c = (list_room _ (replicate 32768 0) c.list-count.result _ c.list-count.ensures long).1

pub slice_bounds-listing-end-in-Err : goal.slice_bounds-listing-end-in-Err
slice_bounds-listing-end-in-Err g c = (list_room _ (replicate 32768 0) c.list-count.result _ c.list-count.ensures long).0

pub slice_bounds-write_there-end : goal.slice_bounds-write_there-end
slice_bounds-write_there-end g c = (list_room _ (replicate 32768 0) c.list-count.result _ c.list-count.ensures long).1
