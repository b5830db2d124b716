-- Property 1, over every public call: "Every answer, to any text, table, record or event number, is a result within the limits or one numbered refusal with its
-- place, which leaves lent memory untouched. The caller checks nothing beforehand: a public call has no `requires`."
use Rattle.std.specs.Prelude.{Bool, List, ℕ, Result, ⊤}
use Rattle.std.specs.Borrow.{Bor}
use Rattle.base.specs.Reports.{Written}
use Rattle.base.specs.declared.Refusal.{Refusal}
use Rattle.record.specs.declared.Record.{Record}
use Rattle.table.specs.Bounds.{CheckAnswer, StepAnswer, FinishAnswer, OfferAnswer}
use Rattle.table.specs.declared.Stepped.{Stepped}
use Rattle.firmware.specs.Bounds.{CheckBounded, StepBounded, FinishBounded, OfferBounded}
use Rattle.reading.specs.Bounds as reader
use Rattle.reading.specs.Answers.{Read}
use Rattle.printer.specs.Bounds as printer
use Rattle.translator.specs.Bounds as translator
use Rattle.events.specs.Names.{Named}
use Rattle.events.specs.Listing.{Listed}
use Rattle.events.specs.Bounds.{NameBounded, ValuesBounded, ListBounded}
use Rattle.events.specs.declared.Label.{Label}
use Rattle.modelling.specs.Answers.{EventAnswer, OpeningAnswer}
use Rattle.modelling.specs.Bounds as machines
use Rattle.reader.proofs.read.Reads as read_reads
use Rattle.printer.proofs.print.Reads as print_reads
use Rattle.translator.proofs.translate.Reads as translate_reads
use Rattle.events.proofs.name.Reads as name_reads
use Rattle.events.proofs.values.Reads as values_reads
use Rattle.events.proofs.list.Reads as list_reads
use Rattle.machines.proofs.eventb.event.Reads as event_reads
use Rattle.machines.proofs.eventb.opening.Reads as opening_reads
use Rattle.table.proofs.check.Reads as check_reads
use Rattle.table.proofs.step.Reads as step_reads
use Rattle.table.proofs.finished.Reads as finished_reads
use Rattle.table.proofs.offer.Reads as offer_reads
use Rattle.inplace.proofs.step.Reads as thin_reads
use Rattle.firmware.proofs.adl_check.Reads as adl_check_reads
use Rattle.firmware.proofs.adl_step.Reads as adl_step_reads
use Rattle.firmware.proofs.adl_finished.Reads as adl_finished_reads
use Rattle.firmware.proofs.adl_offer.Reads as adl_offer_reads
use Rattle.properties.specs.Calls.{Reads, Prints, Translates, Names, Values, Lists, WritesEvent, WritesOpening, Checks, Steps, Finishes, Offers, Updates, CChecks, CSteps, CFinishes, COffers}

-- Whatever is handed to a call, what it asks of its caller holds.
abbrev pub Free : {Lifetimes : Type 0} {Args : Lifetimes → Type 0} → ((κs : Lifetimes) → Args κs → Type 0) → Type 0
Free {Lifetimes} {Args} asked = (κs : Lifetimes) (args : Args κs) → asked κs args

-- "a public call has no `requires`"
pub record NothingAsked : Type 0 where
  pub read : Free read_reads.Asked
  pub print : Free print_reads.Asked
  pub translate : Free translate_reads.Asked
  pub name : Free name_reads.Asked
  pub values : Free values_reads.Asked
  pub list : Free list_reads.Asked
  pub event : Free event_reads.Asked
  pub opening : Free opening_reads.Asked
  pub check : Free check_reads.Asked
  pub step : Free step_reads.Asked
  pub finished : Free finished_reads.Asked
  pub offer : Free offer_reads.Asked
  pub update : Free thin_reads.Asked
  pub c_check : Free adl_check_reads.Asked
  pub c_step : Free adl_step_reads.Asked
  pub c_finished : Free adl_finished_reads.Asked
  pub c_offer : Free adl_offer_reads.Asked

-- Each relation on the right gives the result, or the refusal by its own condition with every lent byte as it was, and admits one answer only.
pub record Property1 : Type 0 where
  pub nothing_asked : NothingAsked
  pub read : (text : List ℕ) (o : Read) → Reads text o → reader.Bounded text o
  pub print : (text lent : List ℕ) (p : Written) (left : List ℕ) → Prints text lent p left → printer.Bounded text lent p left
  pub translate : (text lent : List ℕ) (r : Written) (left : List ℕ) → Translates text lent r left → translator.Bounded text lent r left
  pub name : (text : Bor (List ℕ)) (e : ℕ) (part : Bor (List ℕ)) → Names text e part → Named text e part × NameBounded text part
  pub values : (text : List ℕ) (e : ℕ) (l : Result Label Refusal) → Values text e l → ValuesBounded text e l
  pub list : (text lent : List ℕ) (n : ℕ) (left : List ℕ) → Lists text lent n left → Listed text lent n left × ListBounded lent n left
  pub event : (text : List ℕ) (e : ℕ) (lent : List ℕ) (w : Written) (left : List ℕ) → WritesEvent text e lent w left
      → EventAnswer text e lent w left × machines.Bounded lent w left
  pub opening : (text lent : List ℕ) (w : Written) (left : List ℕ) → WritesOpening text lent w left → OpeningAnswer text lent w left × machines.Bounded lent w left
  pub check : (t : List ℕ) (a : Result ⊤ Refusal) → Checks t a → CheckAnswer t a
  pub step : (t : List ℕ) (before : Record) (e : ℕ) (s : Stepped) → Steps t before e s → StepAnswer t before e s
  pub finished : (t : List ℕ) (before : Record) (f : Result Bool Refusal) → Finishes t before f → FinishAnswer t before f
  pub offer : (t : List ℕ) (before : Record) (lent : List ℕ) (a : Result ⊤ Refusal) (left : List ℕ) → Offers t before lent a left → OfferAnswer t before lent a left
  -- the record that is lent to the thin call is then what the step by value would have returned
  pub update : (t : List ℕ) (lent : Record) (e : ℕ) (a : Result ⊤ Refusal) (left : Record) → Updates t lent e a left → StepAnswer t lent e (record { answer = a; after = left })
  pub c_check : (t : List ℕ) (n : ℕ) → CChecks t n → CheckBounded t n
  pub c_step : (t bytes : List ℕ) (e n : ℕ) (left : List ℕ) → CSteps t bytes e n left → StepBounded t bytes e n left
  pub c_finished : (t bytes : List ℕ) (n : ℕ) → CFinishes t bytes n → FinishBounded t bytes n
  pub c_offer : (t bytes lent : List ℕ) (n : ℕ) (left : List ℕ) → COffers t bytes lent n left → OfferBounded t bytes lent n left
