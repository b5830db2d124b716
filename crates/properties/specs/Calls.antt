-- The calls that the properties speak of, each by the contract that the code is proved to meet: no definition stands here in a contract's place. `Post` of a
-- function's `Reads` is what its `ensures` says, made from the source by the checker.
use Rattle.std.specs.Prelude.{◌≡◌, Bool, List, ℕ, Result as Answer, ⊤}
use Rattle.std.specs.Borrow.{Bor}
use Rattle.base.specs.Reports.{Written}
use Rattle.base.specs.declared.Refusal.{Refusal}
use Rattle.record.specs.declared.Record.{Record}
use Rattle.table.specs.declared.Stepped.{Stepped}
use Rattle.reading.specs.Answers.{Read}
use Rattle.events.specs.declared.Label.{Label}
use Rattle.reader.proofs.read.Reads as read_reads
use Rattle.printer.proofs.print.Reads as print_reads
use Rattle.translator.proofs.translate.Reads as translate_reads
use Rattle.events.proofs.name.Reads as name_reads
use Rattle.events.proofs.values.Reads as values_reads
use Rattle.events.proofs.list.Reads as list_reads
use Rattle.machines.proofs.eventb.event.Reads as event_reads
use Rattle.machines.proofs.eventb.opening.Reads as opening_reads
use Rattle.table.proofs.check.Reads as check_reads
use Rattle.table.proofs.step.Reads as step_reads
use Rattle.table.proofs.finished.Reads as finished_reads
use Rattle.table.proofs.offer.Reads as offer_reads
use Rattle.inplace.proofs.step.Reads as thin_reads
use Rattle.firmware.proofs.adl_check.Reads as adl_check_reads
use Rattle.firmware.proofs.adl_step.Reads as adl_step_reads
use Rattle.firmware.proofs.adl_finished.Reads as adl_finished_reads
use Rattle.firmware.proofs.adl_offer.Reads as adl_offer_reads

-- A call that was made: for some lifetimes the contract holds of its arguments, of what it answered and of what it left, and these are the ones that
-- `these` says.
pub record Made {Lifetimes : Type 0} {Args Result Exit : Lifetimes → Type 0}
    (contract these : (κs : Lifetimes) → Args κs → Result κs → Exit κs → Type 0) : Type 0 where
  pub lifetimes : Lifetimes
  pub args : Args lifetimes
  pub result : Result lifetimes
  pub exit : Exit lifetimes
  pub said : these lifetimes args result exit
  pub promised : contract lifetimes args result exit

-- `reader::read`, of a text: what it answers.
abbrev pub Reads : List ℕ → Read → Type 0
Reads text o = Made read_reads.Post (λ κs a r s. (a.0.now ≡ text) × (r ≡ o))

-- `printer::print`, of a text and a lent buffer: what it answers, and the buffer after it. So with `translator::translate`.
abbrev pub Prints : List ℕ → List ℕ → Written → List ℕ → Type 0
Prints text lent p left =
    Made print_reads.Post (λ κs a r s. (a.0.now ≡ text) × (a.1.0.now ≡ lent) × (r ≡ p) × (s.1.0.now ≡ left))

abbrev pub Translates : List ℕ → List ℕ → Written → List ℕ → Type 0
Translates text lent t left =
    Made translate_reads.Post (λ κs a r s. (a.0.now ≡ text) × (a.1.0.now ≡ lent) × (r ≡ t) × (s.1.0.now ≡ left))

-- `events::name`, of a text as it is lent, by its address, and an event number: the part of the text that it hands back.
abbrev pub Names : Bor (List ℕ) → ℕ → Bor (List ℕ) → Type 0
Names text e part = Made name_reads.Post (λ κs a r s. (a.0 ≡ text) × (a.1.0 ≡ e) × (r ≡ part))

-- `events::values`, of a text and an event number.
abbrev pub Values : List ℕ → ℕ → Answer Label Refusal → Type 0
Values text e l = Made values_reads.Post (λ κs a r s. (a.0.now ≡ text) × (a.1.0 ≡ e) × (r ≡ l))

-- `events::list`, of a text and a lent buffer: how many bytes it wrote, and the buffer after it.
abbrev pub Lists : List ℕ → List ℕ → ℕ → List ℕ → Type 0
Lists text lent n left = Made list_reads.Post (λ κs a r s. (a.0.now ≡ text) × (a.1.0.now ≡ lent) × (r ≡ n) × (s.1.0.now ≡ left))

-- `eventb::event` of `machines`, of a text, an event number and a lent buffer: what it answers, and the buffer after it. `eventb::opening` is asked for no event.
abbrev pub WritesEvent : List ℕ → ℕ → List ℕ → Written → List ℕ → Type 0
WritesEvent text e lent w left =
    Made event_reads.Post (λ κs a r s. (a.0.now ≡ text) × (a.1.0 ≡ e) × (a.1.1.0.now ≡ lent) × (r ≡ w) × (s.1.1.0.now ≡ left))

abbrev pub WritesOpening : List ℕ → List ℕ → Written → List ℕ → Type 0
WritesOpening text lent w left =
    Made opening_reads.Post (λ κs a r s. (a.0.now ≡ text) × (a.1.0.now ≡ lent) × (r ≡ w) × (s.1.0.now ≡ left))

-- `table::check`, `table::step`, `table::finished` and `table::offer`: a table, a record by value, an event number, a lent buffer.
abbrev pub Checks : List ℕ → Answer ⊤ Refusal → Type 0
Checks t answer = Made check_reads.Post (λ κs a r s. (a.0.now ≡ t) × (r ≡ answer))

abbrev pub Steps : List ℕ → Record → ℕ → Stepped → Type 0
Steps t before e stepped = Made step_reads.Post (λ κs a r s. (a.0.now ≡ t) × (a.1.0 ≡ before) × (a.1.1.0 ≡ e) × (r ≡ stepped))

abbrev pub Finishes : List ℕ → Record → Answer Bool Refusal → Type 0
Finishes t before f = Made finished_reads.Post (λ κs a r s. (a.0.now ≡ t) × (a.1.0 ≡ before) × (r ≡ f))

abbrev pub Offers : List ℕ → Record → List ℕ → Answer ⊤ Refusal → List ℕ → Type 0
Offers t before lent answer left =
    Made offer_reads.Post
    (λ κs a r s. (a.0.now ≡ t) × (a.1.0 ≡ before) × (a.1.1.0.now ≡ lent) × (r ≡ answer) × (s.1.1.0.now ≡ left))

-- `inplace::step`, the thin call: a table, a lent record and an event number; what it answers, and the record after it.
abbrev pub Updates : List ℕ → Record → ℕ → Answer ⊤ Refusal → Record → Type 0
Updates t lent e answer left =
    Made thin_reads.Post (λ κs a r s. (a.0.now ≡ t) × (a.1.0.now ≡ lent) × (a.1.1.0 ≡ e) × (r ≡ answer) × (s.1.0.now ≡ left))

-- The C calls: a number, and what is left of the lent bytes.
abbrev pub CChecks : List ℕ → ℕ → Type 0
CChecks t n = Made adl_check_reads.Post (λ κs a r s. (a.0.now ≡ t) × (r ≡ n))

abbrev pub CSteps : List ℕ → List ℕ → ℕ → ℕ → List ℕ → Type 0
CSteps t bytes e n left =
    Made adl_step_reads.Post (λ κs a r s. (a.0.now ≡ t) × (a.1.0.now ≡ bytes) × (a.1.1.0 ≡ e) × (r ≡ n) × (s.1.0.now ≡ left))

abbrev pub CFinishes : List ℕ → List ℕ → ℕ → Type 0
CFinishes t bytes n = Made adl_finished_reads.Post (λ κs a r s. (a.0.now ≡ t) × (a.1.0.now ≡ bytes) × (r ≡ n))

abbrev pub COffers : List ℕ → List ℕ → List ℕ → ℕ → List ℕ → Type 0
COffers t bytes lent n left =
    Made adl_offer_reads.Post
    (λ κs a r s. (a.0.now ≡ t) × (a.1.0.now ≡ bytes) × (a.1.1.0.now ≡ lent) × (r ≡ n) × (s.1.1.0.now ≡ left))
