-- What the contract of each public call says, as the checker reads it off the source, is what its definition says: the theorems above cite the calls by these
-- laws alone, so a contract that says less is refused here.
use mathlib.Core.Path.{◌≡◌}
use Rattle.reading.specs.Answers.{read_of}
use Rattle.reader.proofs.read.Reads as read_reads

pub read_promised : (κs : _) (a : _) (r : _) (s : _) → read_reads.Post κs a r s → r ≡ read_of a.0.now
read_promised κs a r s p = p
