-- What each exported call asks and promises, as the checker reads it off the source, is what `firmware`'s function of the same name asks and promises: the
-- theorems cite those functions, so an export that asks more or says less is refused here.
use Rattle.firmware.proofs.adl_check.Reads as check_reads
use Rattle.firmware.proofs.adl_step.Reads as step_reads
use Rattle.firmware.proofs.adl_finished.Reads as finished_reads
use Rattle.firmware.proofs.adl_offer.Reads as offer_reads
use Rattle.firmware_c.proofs.adl_check.Reads as exported_check
use Rattle.firmware_c.proofs.adl_step.Reads as exported_step
use Rattle.firmware_c.proofs.adl_finished.Reads as exported_finished
use Rattle.firmware_c.proofs.adl_offer.Reads as exported_offer

pub check_asks : (κs : _) (a : _) → check_reads.Asked κs a → exported_check.Asked κs a
check_asks κs a p = p

pub step_asks : (κs : _) (a : _) → step_reads.Asked κs a → exported_step.Asked κs a
step_asks κs a p = p

pub finished_asks : (κs : _) (a : _) → finished_reads.Asked κs a → exported_finished.Asked κs a
finished_asks κs a p = p

pub offer_asks : (κs : _) (a : _) → offer_reads.Asked κs a → exported_offer.Asked κs a
offer_asks κs a p = p

pub check_promised : (κs : _) (a : _) (r : _) (s : _) → exported_check.Post κs a r s → check_reads.Post κs a r s
check_promised κs a r s p = p

pub step_promised : (κs : _) (a : _) (r : _) (s : _) → exported_step.Post κs a r s → step_reads.Post κs a r s
step_promised κs a r s p = p

pub finished_promised : (κs : _) (a : _) (r : _) (s : _) → exported_finished.Post κs a r s → finished_reads.Post κs a r s
finished_promised κs a r s p = p

pub offer_promised : (κs : _) (a : _) (r : _) (s : _) → exported_offer.Post κs a r s → offer_reads.Post κs a r s
offer_promised κs a r s p = p
