-- What the contract of each public call says, as the checker reads it off the source, is what its definition says: the theorems above cite the calls by these
-- laws alone, so a contract that says less is refused here.
use mathlib.Core.Path.{◌≡◌}
use Rattle.printer.specs.Prints.{print_of, left_by}
use Rattle.printer.proofs.print.Reads as print_reads

pub print_promised : (κs : _) (a : _) (r : _) (s : _) → print_reads.Post κs a r s
    → (r ≡ print_of a.0.now a.1.0.now) × (s.1.0.now ≡ left_by a.0.now a.1.0.now (print_of a.0.now a.1.0.now))
print_promised κs a r s p = p
