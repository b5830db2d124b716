-- What the contract of each public call says, as the checker reads it off the source, is what its definition says: the theorems above cite the calls by these
-- laws alone, so a contract that says less is refused here.
use mathlib.Core.Path.{◌≡◌}
use Rattle.firmware.specs.Calls.{check_number, step_number, step_bytes, finished_number, offer_number, offer_bytes}
use Rattle.firmware.proofs.adl_check.Reads as check_reads
use Rattle.firmware.proofs.adl_step.Reads as step_reads
use Rattle.firmware.proofs.adl_finished.Reads as finished_reads
use Rattle.firmware.proofs.adl_offer.Reads as offer_reads

pub check_promised : (κs : _) (a : _) (r : _) (s : _) → check_reads.Post κs a r s → r ≡ check_number a.0.now
check_promised κs a r s p = p

pub step_promised : (κs : _) (a : _) (r : _) (s : _) → step_reads.Post κs a r s
    → (r ≡ step_number a.0.now a.1.0.now a.1.1.0) × (s.1.0.now ≡ step_bytes a.0.now a.1.0.now a.1.1.0)
step_promised κs a r s p = p

pub finished_promised : (κs : _) (a : _) (r : _) (s : _) → finished_reads.Post κs a r s → r ≡ finished_number a.0.now a.1.0.now
finished_promised κs a r s p = p

pub offer_promised : (κs : _) (a : _) (r : _) (s : _) → offer_reads.Post κs a r s
    → (r ≡ offer_number a.0.now a.1.0.now a.1.1.0.now) × (s.1.1.0.now ≡ offer_bytes a.0.now a.1.0.now a.1.1.0.now)
offer_promised κs a r s p = p
