-- What the calls that were made answered and left, by the definitions of their contracts. Each law goes from a call's own `Post` to its definition by the law of its
-- crate's file `Promised`.
use mathlib.Core.Path.{◌≡◌}
use mathlib.Core.List.{List}
use Prim.Native.Nat.{ℕ}
use denote.Ref.{Bor}
use Rattle.std.specs.Prelude.{Bool, Result as Answer, ⊤}
use Rattle.base.specs.Reports.{Written}
use Rattle.base.specs.declared.Refusal.{Refusal}
use Rattle.record.specs.declared.Record.{Record}
use Rattle.table.specs.Steps.{check_of, step_of, finished_of, offer_of, offer_left}
use Rattle.table.specs.declared.Stepped.{Stepped}
use Rattle.table.proofs.Promised as table
use Rattle.inplace.specs.Updates.{answer_of, left_of}
use Rattle.inplace.proofs.Promised as thin
use Rattle.firmware.specs.Calls.{check_number, step_number, step_bytes, finished_number, offer_number, offer_bytes}
use Rattle.firmware.proofs.Promised as c
use Rattle.translator.specs.Translates.{Translation}
use Rattle.translator.proofs.Promised as translator
use Rattle.reading.specs.Answers.{Read, read_of}
use Rattle.reader.proofs.Promised as reader
use Rattle.printer.specs.Prints.{print_of, left_by}
use Rattle.printer.proofs.Promised as printer
use Rattle.events.specs.Names.{Named}
use Rattle.events.specs.Labels.{Valued}
use Rattle.events.specs.Listing.{Listed}
use Rattle.events.specs.declared.Label.{Label}
use Rattle.events.proofs.Promised as events
use Rattle.modelling.specs.Answers.{EventAnswer, OpeningAnswer}
use Rattle.machines.proofs.Promised as machines
use Rattle.properties.specs.Calls.{Made, Reads, Prints, Translates, Names, Values, Lists, WritesEvent, WritesOpening, Checks, Steps, Finishes, Offers, Updates, CChecks, CSteps, CFinishes, COffers}

-- What a law makes of a contract holds of a call that was made.
kept : {Lifetimes : Type 0} {Args Result Exit : Lifetimes → Type 0} {contract these law : (κs : Lifetimes) → Args κs → Result κs → Exit κs → Type 0}
    → ((κs : Lifetimes) (a : Args κs) (r : Result κs) (s : Exit κs) → contract κs a r s → law κs a r s)
    → (m : Made contract these) → law m.lifetimes m.args m.result m.exit
kept f m = f m.lifetimes m.args m.result m.exit m.promised

pub steps_met : (t : List ℕ) (before : Record) (e : ℕ) (r : Stepped) → Steps t before e r → r ≡ step_of t before e
steps_met t before e r m = cc (kept table.step_promised m)

pub finishes_met : (t : List ℕ) (before : Record) (f : Answer Bool Refusal) → Finishes t before f → f ≡ finished_of t before
finishes_met t before f m = cc (kept table.finished_promised m)

pub updates_met : (t : List ℕ) (lent : Record) (e : ℕ) (a : Answer ⊤ Refusal) (left : Record) → Updates t lent e a left → (a ≡ answer_of t lent e) × (left ≡ left_of t lent e)
updates_met t lent e a left m = let both = kept thin.step_promised m in ((cc), (cc))

pub c_steps_met : (t bytes : List ℕ) (e n : ℕ) (left : List ℕ) → CSteps t bytes e n left → (n ≡ step_number t bytes e) × (left ≡ step_bytes t bytes e)
c_steps_met t bytes e n left m = let both = kept c.step_promised m in ((cc), (cc))

pub c_finishes_met : (t bytes : List ℕ) (n : ℕ) → CFinishes t bytes n → n ≡ finished_number t bytes
c_finishes_met t bytes n m = cc (kept c.finished_promised m)

pub translates_met : (text lent : List ℕ) (r : Written) (left : List ℕ) → Translates text lent r left → Translation text lent r left
translates_met text lent r left m = let (x, y, q, k) = m.said in rw (← x, ← y, ← q, ← k) (kept translator.translate_promised m)

pub reads_met : (text : List ℕ) (o : Read) → Reads text o → o ≡ read_of text
reads_met text o m = cc (kept reader.read_promised m)

pub prints_met : (text lent : List ℕ) (p : Written) (left : List ℕ) → Prints text lent p left
    → (p ≡ print_of text lent) × (left ≡ left_by text lent (print_of text lent))
prints_met text lent p left m = let both = kept printer.print_promised m in ((cc), (cc))

pub names_met : (text : Bor (List ℕ)) (e : ℕ) (part : Bor (List ℕ)) → Names text e part → Named text e part
names_met text e part m = let (x, y, q) = m.said in rw (← x, ← y, ← q) (kept events.name_promised m)

pub values_met : (text : List ℕ) (e : ℕ) (l : Answer Label Refusal) → Values text e l → Valued text e l
values_met text e l m = let (x, y, q) = m.said in rw (← x, ← y, ← q) (kept events.values_promised m)

pub lists_met : (text lent : List ℕ) (n : ℕ) (left : List ℕ) → Lists text lent n left → Listed text lent n left
lists_met text lent n left m = let (x, y, q, k) = m.said in rw (← x, ← y, ← q, ← k) (kept events.list_promised m)

pub writes_event_met : (text : List ℕ) (e : ℕ) (lent : List ℕ) (w : Written) (left : List ℕ) → WritesEvent text e lent w left → EventAnswer text e lent w left
writes_event_met text e lent w left m = let (x, y, z, q, k) = m.said in rw (← x, ← y, ← z, ← q, ← k) (kept machines.event_promised m)

pub writes_opening_met : (text lent : List ℕ) (w : Written) (left : List ℕ) → WritesOpening text lent w left → OpeningAnswer text lent w left
writes_opening_met text lent w left m = let (x, y, q, k) = m.said in rw (← x, ← y, ← q, ← k) (kept machines.opening_promised m)

pub checks_met : (t : List ℕ) (a : Answer ⊤ Refusal) → Checks t a → a ≡ check_of t
checks_met t a m = cc (kept table.check_promised m)

pub offers_met : (t : List ℕ) (before : Record) (lent : List ℕ) (a : Answer ⊤ Refusal) (left : List ℕ) → Offers t before lent a left
    → (a ≡ offer_of t before lent) × (left ≡ offer_left t before lent (offer_of t before lent))
offers_met t before lent a left m = let both = kept table.offer_promised m in ((cc), (cc))

pub c_checks_met : (t : List ℕ) (n : ℕ) → CChecks t n → n ≡ check_number t
c_checks_met t n m = cc (kept c.check_promised m)

pub c_offers_met : (t bytes lent : List ℕ) (n : ℕ) (left : List ℕ) → COffers t bytes lent n left
    → (n ≡ offer_number t bytes lent) × (left ≡ offer_bytes t bytes lent)
c_offers_met t bytes lent n left m = let both = kept c.offer_promised m in ((cc), (cc))
