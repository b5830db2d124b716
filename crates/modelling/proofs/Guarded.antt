-- The guards of every event of an accepted text's diagram say what they have to.
use mathlib.Core.Path.{◌≡◌, sym, ◌∙◌}
use mathlib.Core.List.{List}
use Prim.Native.Nat.{ℕ, ◌<◌}
use native.Mathlib.Omega.{arith}
use Rattle.diagram.specs.Tree.{Flow}
use Rattle.diagram.specs.Count.{flow_events}
use Rattle.reading.specs.Accepted.{Accepted}
use Rattle.process.specs.Expand.{expand}
use Rattle.process.specs.Bits.{after}
use Rattle.process.specs.Guards.{enabled}
use Rattle.process.proofs.Local.{enabled_local}
use Rattle.process.proofs.Events.{expand_events}
use Rattle.record.specs.Bits.{bit_at}
use Rattle.book.specs.Marked.{record_after}
use Rattle.book.proofs.Marks.{record_bit}
use Rattle.book.proofs.Played.{done_iff_enabled}
use Rattle.translator.specs.Translates.{table_of}
use Rattle.translator.proofs.Tables.{its_numbers, its_size, its_agreement}
use Rattle.formulas.specs.Formulas.{all_hold}
use Rattle.formulas.proofs.True.{guards_true}
use Rattle.formulas.proofs.Some.{some_guard}
use Rattle.formulas.proofs.Spoken.{conditions_speak}
use Rattle.modelling.specs.Texts.{guards_of}
use Rattle.modelling.specs.Guards.{Guards}

module _ (text : List ℕ) (d : Flow) (a : Accepted text d) where
  -- On the record after the events of a book they say whether the event is enabled.
  guards_say : (book : List ℕ) (e : ℕ) → all_hold (guards_of d e) (bit_at (record_after d book).bits) ≡ enabled (expand d) (after (expand d) book) e
  unfolding guards_of
  guards_say book e =
      guards_true (expand d) 0 (its_numbers text d a) (bit_at (record_after d book).bits) e
      ∙ enabled_local (expand d) e (λ i o. record_bit d a.keeps book i (omega (arith, (expand_events d a.keeps.sizes i).0 o, a.events)))

  pub guards_right : (e : ℕ) → e < flow_events d → Guards d e (guards_of d e)
  unfolding guards_of
  guards_right e l = record {
    some = some_guard d a.keeps e;
    speak = conditions_speak (expand d) 0 (flow_events d) (its_numbers text d a) (omega (arith, its_size text d a)) e;
    hold = λ book h.
        let done = done_iff_enabled d a.keeps a.events (table_of d) (its_agreement text d a) book h e in
        (λ y. done.1 (l, sym (guards_say book e) ∙ y), λ y. guards_say book e ∙ (done.0 y).1);
  }
