-- What the contract of each public call says, as the checker reads it off the source, is what its definition says: the theorems above cite the calls by these
-- laws alone, so a contract that says less is refused here.
use Rattle.modelling.specs.Answers.{EventAnswer, OpeningAnswer}
use Rattle.machines.proofs.eventb.event.Reads as event_reads
use Rattle.machines.proofs.eventb.opening.Reads as opening_reads

pub event_promised : (κs : _) (a : _) (r : _) (s : _) → event_reads.Post κs a r s → EventAnswer a.0.now a.1.0 a.1.1.0.now r s.1.1.0.now
event_promised κs a r s p = p

pub opening_promised : (κs : _) (a : _) (r : _) (s : _) → opening_reads.Post κs a r s → OpeningAnswer a.0.now a.1.0.now r s.1.0.now
opening_promised κs a r s p = p
