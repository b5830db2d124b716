-- What stands before the first event fits its buffer.
use Rattle.std.proofs.Common.{refl}
use Rattle.modelling.proofs.Bounds.{opening_room}
use Rattle.eventb.proofs.machine.Goals as goal

pub slice_bounds-out-end : goal.slice_bounds-out-end
slice_bounds-out-end g c = (opening_room _ _ _ _ c.in-Ok.ensures _ refl).0

pub slice_bounds-write_there-end : goal.slice_bounds-write_there-end
slice_bounds-write_there-end g c = (opening_room _ _ _ _ c.in-Ok.ensures _ refl).1
