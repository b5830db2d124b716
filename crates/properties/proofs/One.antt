-- Property 1, from the contracts of the calls.
use mathlib.Core.List.{List, []}
use Prim.Native.Nat.{ℕ}
use Rattle.std.specs.Prelude.{Result, ⊤}
use Rattle.base.specs.declared.Refusal.{Refusal}
use Rattle.record.specs.declared.Record.{Record}
use Rattle.table.specs.Bounds.{StepAnswer}
use Rattle.table.proofs.Bounds.{check_answered, step_answered, finished_answered, offer_answered}
use Rattle.firmware.proofs.Bounds.{calls_bounded}
use Rattle.reading.proofs.Bounds.{read_bounded}
use Rattle.printer.proofs.Bounds.{print_bounded}
use Rattle.translator.proofs.Bounds.{translate_bounded}
use Rattle.events.proofs.Bounds.{name_bounded, values_bounded, list_bounded}
use Rattle.modelling.proofs.Bounds.{event_bounded, opening_bounded}
use Rattle.properties.specs.Calls.{Updates}
use Rattle.properties.specs.One.{NothingAsked, Property1}
use Rattle.properties.proofs.Kept.{reads_met, prints_met, translates_met, names_met, values_met, lists_met, writes_event_met, writes_opening_met, checks_met, steps_met, finishes_met, offers_met, updates_met, c_checks_met, c_steps_met, c_finishes_met, c_offers_met}

nothing_asked : NothingAsked
nothing_asked = record {
  read = λ κs a. tt;
  print = λ κs a. tt;
  translate = λ κs a. tt;
  name = λ κs a. tt;
  values = λ κs a. tt;
  list = λ κs a. tt;
  event = λ κs a. tt;
  opening = λ κs a. tt;
  check = λ κs a. tt;
  step = λ κs a. tt;
  finished = λ κs a. tt;
  offer = λ κs a. tt;
  update = λ κs a. tt;
  c_check = λ κs a. tt;
  c_step = λ κs a. tt;
  c_finished = λ κs a. tt;
  c_offer = λ κs a. tt;
}

updated : (t : List ℕ) (lent : Record) (e : ℕ) (a : Result ⊤ Refusal) (left : Record) → Updates t lent e a left → StepAnswer t lent e (record { answer = a; after = left })
updated t lent e a left m = let (x, y) = updates_met t lent e a left m in rw (x, y) (step_answered t lent e)

pub property_1 : Property1
property_1 = record {
  nothing_asked = nothing_asked;
  read = λ text o m. rw (reads_met text o m) (read_bounded text);
  print = λ text lent p left m. let (x, y) = prints_met text lent p left m in rw (x, y) (print_bounded text lent);
  translate = λ text lent r left m. translate_bounded text lent r left (translates_met text lent r left m);
  name = λ text e part m. let n = names_met text e part m in (n, name_bounded text e part n);
  values = λ text e l m. values_bounded text e l (values_met text e l m);
  list = λ text lent n left m. let l = lists_met text lent n left m in (l, list_bounded text lent n left l);
  event = λ text e lent w left m. let k = writes_event_met text e lent w left m in (k, event_bounded lent w left text e k);
  opening = λ text lent w left m. let k = writes_opening_met text lent w left m in (k, opening_bounded lent w left text k);
  check = λ t a m. rw (checks_met t a m) (check_answered t);
  step = λ t before e s m. rw (steps_met t before e s m) (step_answered t before e);
  finished = λ t before f m. rw (finishes_met t before f m) (finished_answered t before);
  offer = λ t before lent a left m. let (x, y) = offers_met t before lent a left m in rw (x, y) (offer_answered t before lent);
  update = updated;
  c_check = λ t n m. rw (c_checks_met t n m) (calls_bounded t [] [] 0).check;
  c_step = λ t bytes e n left m. let (x, y) = c_steps_met t bytes e n left m in rw (x, y) (calls_bounded t bytes [] e).step;
  c_finished = λ t bytes n m. rw (c_finishes_met t bytes n m) (calls_bounded t bytes [] 0).finished;
  c_offer = λ t bytes lent n left m. let (x, y) = c_offers_met t bytes lent n left m in rw (x, y) (calls_bounded t bytes lent 0).offer;
}
