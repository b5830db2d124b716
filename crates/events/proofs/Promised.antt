-- What the contract of each public call says, as the checker reads it off the source, is what its definition says: the theorems above cite the calls by these
-- laws alone, so a contract that says less is refused here.
use Rattle.events.specs.Names.{Named}
use Rattle.events.specs.Labels.{Valued}
use Rattle.events.specs.Listing.{Listed}
use Rattle.events.proofs.name.Reads as name_reads
use Rattle.events.proofs.values.Reads as values_reads
use Rattle.events.proofs.list.Reads as list_reads

pub name_promised : (κs : _) (a : _) (r : _) (s : _) → name_reads.Post κs a r s → Named a.0 a.1.0 r
name_promised κs a r s p = p

pub values_promised : (κs : _) (a : _) (r : _) (s : _) → values_reads.Post κs a r s → Valued a.0.now a.1.0 r
values_promised κs a r s p = p

pub list_promised : (κs : _) (a : _) (r : _) (s : _) → list_reads.Post κs a r s → Listed a.0.now a.1.0.now r s.1.0.now
list_promised κs a r s p = p
