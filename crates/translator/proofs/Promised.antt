-- What the contract of each public call says, as the checker reads it off the source, is what its definition says: the theorems above cite the calls by these
-- laws alone, so a contract that says less is refused here.
use Rattle.translator.specs.Translates.{Translation}
use Rattle.translator.proofs.translate.Reads as translate_reads

pub translate_promised : (κs : _) (a : _) (r : _) (s : _) → translate_reads.Post κs a r s → Translation a.0.now a.1.0.now r s.1.0.now
translate_promised κs a r s p = p
