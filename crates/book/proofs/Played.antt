-- Property 3, of a table that says of the control bits what the process of a diagram says: calls played from the blank record go by the book.
use mathlib.Core.Path.{◌≡◌, refl, sym, ap, ◌∙◌}
use mathlib.Core.Logic.{◌↔◌}
use mathlib.Core.Bool.{true, not}
use mathlib.Core.List.{List, [], ◌∷◌, ◌++◌}
use Prim.Native.Nat.{ℕ, ◌≤◌, ◌<◌}
use native.Mathlib.Omega.{arith}
use Rattle.std.specs.Prelude.{Ok}
use Rattle.base.specs.declared.Refusal.{Refusal}
use Rattle.base.proofs.Truth.{clash}
use Rattle.diagram.specs.Tree.{Flow}
use Rattle.diagram.specs.Count.{flow_events}
use Rattle.diagram.specs.Rules.{Keeps}
use Rattle.process.specs.Process.{owns}
use Rattle.process.specs.Expand.{expand}
use Rattle.process.specs.Runs.{Begins}
use Rattle.process.specs.Bits.{after}
use Rattle.process.specs.Guards.{complete, enabled}
use Rattle.process.proofs.Local.{Agree, complete_local, enabled_local}
use Rattle.process.proofs.Events.{expand_events}
use Rattle.process.proofs.Theorem.{whole_iff_complete, next_iff_enabled}
use Rattle.plays.proofs.Played.{by_book}
use Rattle.record.specs.Bits.{bit_at}
use Rattle.record.specs.Blank.{blank_record}
use Rattle.record.proofs.RoundTrip.{same_bits}
use Rattle.record.proofs.PastEvents.{clear_each}
use Rattle.layout.specs.Fields.{events}
use Rattle.layout.specs.Values.{values_of, allows, ended}
use Rattle.table.specs.Steps.{step_of, finished_of}
use Rattle.table.specs.Bounds.{Ready, NotReady, unsound, bit_past, StepAnswer, event_taken, step_not_ready, past_events, guard_says_no, FinishAnswer, run_finished, run_open, finished_not_ready}
use Rattle.table.specs.declared.Stepped.{Stepped}
use Rattle.table.proofs.Bounds.{step_answered, finished_answered}
use Rattle.table.proofs.Laws.{done_exactly, step_bit, step_words}
use Rattle.book.specs.Calls.{Call, step, finished, stepped, reported, call}
use Rattle.book.specs.Marked.{marked, marked_all, record_after}
use Rattle.book.specs.Book.{StepEntry, begins, past, below, FinishEntry, whole, part, Entry}
use Rattle.book.specs.Plays.{PlaysByBook}
use Rattle.agreement.specs.Agrees.{Agrees}
use Rattle.book.proofs.Once.{blank_begins, book_begins}
use Rattle.book.proofs.Marks.{marked_words, marked_bit, marked_more, record_words, record_bit, record_past}

module _ (d : Flow) (k : Keeps d) (few : flow_events d ≤ 512) (t : List ℕ) (T : Agrees (expand d) (flow_events d) t) where
  -- ---- the record after a book that begins a whole run
  -- Neither 12 nor 13: the table is sound, and no bit at or past E is set.
  module _ (book : List ℕ) (h : Begins (expand d) book) where
    record_ready : Ready t (record_after d book).bits
    record_ready = record {
      its_table = T.its_sound;
      its_bits =
          ap not (clear_each (record_after d book).bits (events t) 512 (λ i l p. record_past d k book h i (rw T.its_events at p)));
    }

    neither_12_nor_13 : (r : Refusal) → NotReady t (record_after d book).bits r → ⊥
    neither_12_nor_13 r (unsound q s) = clash T.its_sound s
    neither_12_nor_13 r (bit_past q s y) = clash y record_ready.its_bits

  -- Its bits are those after the events of the book, so what the rows say of it is what the process says of them.
  record_agrees : (book : List ℕ) → Agree (owns (expand d)) (bit_at (record_after d book).bits) (after (expand d) book)
  record_agrees book i o = record_bit d k book i (omega (arith, (expand_events d k.sizes i).0 o))

  guard_says : (book : List ℕ) (e : ℕ) → e < flow_events d
      → allows t (values_of t (record_after d book).bits) e ≡ enabled (expand d) (after (expand d) book) e
  guard_says book e l = T.its_guards (record_after d book).bits e l ∙ enabled_local (expand d) e (record_agrees book)

  end_says : (book : List ℕ) → ended t (values_of t (record_after d book).bits) ≡ complete (expand d) (after (expand d) book)
  end_says book = T.its_end (record_after d book).bits ∙ complete_local (expand d) (record_agrees book)

  -- A step is done exactly where the bits after the events of the book say that the event may be taken.
  pub done_iff_enabled : (book : List ℕ) → Begins (expand d) book → (e : ℕ)
      → ((step_of t (record_after d book) e).answer ≡ Ok tt) ↔ ((e < flow_events d) × (enabled (expand d) (after (expand d) book) e ≡ true))
  done_iff_enabled book h e = (
    λ y.
        let k = (done_exactly t (record_after d book) e).0 y in
        let l = rw T.its_events at k.below in
        (l, sym (guard_says book e l) ∙ k.allowed),
    λ (l, y).
        (done_exactly t (record_after d book) e).1 record { ready = record_ready book h; below = rw T.its_events l; allowed = guard_says book e l ∙ y },
  )

  -- The record after a step that is done is the one after the book with the event at its end.
  step_marks : (book : List ℕ) (e : ℕ) → (step_of t (record_after d book) e).answer ≡ Ok tt
      → (step_of t (record_after d book) e).after.bits ≡ marked (expand d) (record_after d book).bits e
  step_marks book e y =
      let w = record_words d book in
      let below = ((done_exactly t (record_after d book) e).0 y).below in
      same_bits (step_of t (record_after d book) e).after.bits (marked (expand d) (record_after d book).bits e)
      (step_words t (record_after d book) e w) (marked_words (expand d) (record_after d book).bits e w)
      (λ i l. step_bit t (record_after d book) e y w.0 i l
      ∙ rw (T.its_clears e i (rw T.its_events at below), marked_bit (expand d) (record_after d book).bits e i w l))

  step_next : (book : List ℕ) (e : ℕ) → (step_of t (record_after d book) e).answer ≡ Ok tt
      → (step_of t (record_after d book) e).after ≡ record_after d (book ++ (e ∷ []))
  step_next book e y =
      ap (λ (ws : List ℕ). record { bits = ws }) (step_marks book e y ∙ rw (marked_more (expand d) blank_record.bits book e))

  -- ---- one call
  -- The answer to a step is the book's, and the record after it the one that the book after it leads to.
  abbrev StepByBook : List ℕ → ℕ → Stepped → Type 0
  StepByBook book e s =
      (after : List ℕ) × StepEntry d book e (record { reply = stepped s.answer; after = after }) × (s.after ≡ record_after d after)

  step_by_book : (book : List ℕ) → Begins (expand d) book → (e : ℕ) → StepAnswer t (record_after d book) e (step_of t (record_after d book) e)
      → StepByBook book e (step_of t (record_after d book) e)
  step_by_book book h e (event_taken q y) =
      let l = rw T.its_events at y.below in
      let done = ap (λ (s : Stepped). s.answer) q in (
        book ++ (e ∷ []),
        begins ((next_iff_enabled d k book e h).1 (l, rw (guard_says book e l) at y.allowed)) (rw done),
        step_next book e done,
      )
  step_by_book book h e (step_not_ready r q not_ready) = absurd (neither_12_nor_13 book h r not_ready)
  step_by_book book h e (past_events q r l) =
      let l' = rw T.its_events at l in (book, past (λ b. let m = ((next_iff_enabled d k book e h).0 b).0 in omega arith) l' (rw q), rw q)
  step_by_book book h e (guard_says_no q r l y) =
      let l' = rw T.its_events at l in (book, below (λ b. clash (guard_says book e l' ∙ ((next_iff_enabled d k book e h).0 b).1) y) l' (rw q), rw q)

  -- So is what finished reports.
  finished_by_book : (book : List ℕ) → Begins (expand d) book → FinishAnswer t (record_after d book) (finished_of t (record_after d book))
      → FinishEntry d book (record { reply = reported (finished_of t (record_after d book)); after = book })
  finished_by_book book h (run_finished q y) = whole ((whole_iff_complete d k book h).1 (rw (end_says book) at y.says_so)) (rw q)
  finished_by_book book h (run_open q r y) = part (λ w. clash (end_says book ∙ (whole_iff_complete d k book h).0 w) y) (rw q)
  finished_by_book book h (finished_not_ready r q not_ready) = absurd (neither_12_nor_13 book h r not_ready)

  call_by_book : (book : List ℕ) → Begins (expand d) book → (c : Call)
      → (after : List ℕ) × Entry d book c (record { reply = (call t (record_after d book) c).reply; after = after }) × Begins (expand d) after
      × ((call t (record_after d book) c).after ≡ record_after d after)
  call_by_book book h (step e) =
      let (after, E, q) = step_by_book book h e (step_answered t (record_after d book) e) in
      (after, E, book_begins d book (step e) _ h E, q)
  call_by_book book h finished = (book, finished_by_book book h (finished_answered t (record_after d book)), h, refl)

-- A table that agrees with the process of a diagram is played by the book of the diagram.
pub agreeing_plays : (d : Flow) → Keeps d → flow_events d ≤ 512 → (t : List ℕ) → Agrees (expand d) (flow_events d) t → PlaysByBook d t
unfolding marked_all
agreeing_plays d k few t T calls =
    by_book (Entry d) (record_after d) (call t) (λ (book : List ℕ). Begins (expand d) book) (call_by_book d k few t T) [] (blank_begins d) calls
