-- What the contract of each public call says, as the checker reads it off the source, is what its definition says: the theorems above cite the calls by these
-- laws alone, so a contract that says less is refused here.
use mathlib.Core.Path.{◌≡◌}
use Rattle.table.specs.Steps.{check_of, step_of, finished_of, offer_of, offer_left}
use Rattle.table.proofs.check.Reads as check_reads
use Rattle.table.proofs.step.Reads as step_reads
use Rattle.table.proofs.finished.Reads as finished_reads
use Rattle.table.proofs.offer.Reads as offer_reads

pub check_promised : (κs : _) (a : _) (r : _) (s : _) → check_reads.Post κs a r s → r ≡ check_of a.0.now
check_promised κs a r s p = p

pub step_promised : (κs : _) (a : _) (r : _) (s : _) → step_reads.Post κs a r s → r ≡ step_of a.0.now a.1.0 a.1.1.0
step_promised κs a r s p = p

pub finished_promised : (κs : _) (a : _) (r : _) (s : _) → finished_reads.Post κs a r s → r ≡ finished_of a.0.now a.1.0
finished_promised κs a r s p = p

pub offer_promised : (κs : _) (a : _) (r : _) (s : _) → offer_reads.Post κs a r s
    → (r ≡ offer_of a.0.now a.1.0 a.1.1.0.now)
    × (s.1.1.0.now ≡ offer_left a.0.now a.1.0 a.1.1.0.now (offer_of a.0.now a.1.0 a.1.1.0.now))
offer_promised κs a r s p = p
