-- What the contract of each public call says, as the checker reads it off the source, is what its definition says: the theorems above cite the calls by these
-- laws alone, so a contract that says less is refused here.
use mathlib.Core.Path.{◌≡◌}
use Rattle.inplace.specs.Updates.{answer_of, left_of}
use Rattle.inplace.proofs.step.Reads as step_reads

pub step_promised : (κs : _) (a : _) (r : _) (s : _) → step_reads.Post κs a r s
    → (r ≡ answer_of a.0.now a.1.0.now a.1.1.0) × (s.1.0.now ≡ left_of a.0.now a.1.0.now a.1.1.0)
step_promised κs a r s p = p
