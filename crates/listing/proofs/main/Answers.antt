-- `listing::main` is safe and ends: the listing fits the buffer. What it reads and writes no contract can say. Assumes nothing.
use lib.ListN.{replicate, length-replicate}
use Prim.Native.Nat.{ℕ}
use Rattle.events.proofs.Bounds.{list_room}
use Rattle.listing.proofs.main.Goals as goal

pub slice_bounds-out-end : goal.slice_bounds-out-end
slice_bounds-out-end c = (list_room _ (replicate 32768 0) c.list-count.result _ c.list-count.ensures (length-replicate {A = ℕ} 32768 0)).0

pub slice_bounds-write_there-end : goal.slice_bounds-write_there-end
slice_bounds-write_there-end c = (list_room _ (replicate 32768 0) c.list-count.result _ c.list-count.ensures (length-replicate {A = ℕ} 32768 0)).1
