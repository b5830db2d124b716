-- `translate::main` is safe and ends: the table fits its buffer. What it reads and writes no contract can say.
use Rattle.std.proofs.Common.{refl}
use Rattle.translator.proofs.Bounds.{translate_room}
use Rattle.translate.proofs.main.Goals as goal

pub slice_bounds-table-end : goal.slice_bounds-table-end
slice_bounds-table-end c = (translate_room _ _ _ _ c.in-Ok.ensures _ refl).0

pub slice_bounds-write_there-end : goal.slice_bounds-write_there-end
slice_bounds-write_there-end c = (translate_room _ _ _ _ c.in-Ok.ensures _ refl).1
