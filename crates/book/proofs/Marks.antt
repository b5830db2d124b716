-- Laws of the record that a list of events leads to: bit by bit it is what the process says of its control bits.
use mathlib.Core.Path.{◌≡◌, refl, sym, ap, ◌∙◌}
use mathlib.Core.Logic.{⊎_elim}
use mathlib.Core.Bool.{Bool, true, false, cond, not, ◌&&◌, ◌||◌, and-false}
use mathlib.Core.List.{List, [], ◌∷◌, ◌++◌}
use Prim.Native.Nat.{ℕ, zero, suc, ◌/◌, ◌≤◌, ◌<◌}
use native.Mathlib.Nat.{add-zero, zero-div}
use native.Mathlib.Omega.{arith}
use lib.Dec.{eqb, ltb, lit<}
use lib.ListN.{get_or-replicate}
use borrow.Author.Tests.{eqb-true, eqb-false, eq-eqb, ne_eqb, ltb-true, ltb-false, lt-ltb, le-ltb}
use Rattle.base.proofs.Truth.{by_cases, is_false, clash, agree}
use Rattle.diagram.specs.Tree.{Flow}
use Rattle.diagram.specs.Count.{flow_events}
use Rattle.diagram.specs.Rules.{Keeps}
use Rattle.process.specs.Process.{Process, owns}
use Rattle.process.specs.Expand.{expand}
use Rattle.process.specs.Runs.{All, Begins}
use Rattle.process.specs.Bits.{Bits, blank, clears, taking, run, after}
use Rattle.process.proofs.Local.{closed, begins_inside}
use Rattle.process.proofs.Events.{expand_events, event_effect}
use Rattle.record.specs.Bits.{Words, bit_at, set_bit, clear_bit, clear_bits}
use Rattle.record.specs.Blank.{blank_record}
use Rattle.record.proofs.Bits.{bit_out, bit_set_same, bit_set_other, bit_clear_same, bit_clear_other, set_words, clear_words}
use Rattle.book.specs.Marked.{cleared, marked, marked_all, record_after}

-- ---- one event
clear_one_words : (ws : List ℕ) (n : ℕ) → Words ws → Words (clear_bit ws n)
unfolding clear_bits
clear_one_words ws n w = rw (add-zero n) at (clear_words ws n 1 w)

cleared_words : (p : Process) (x : ℕ) (ws : List ℕ) (n : ℕ) → Words ws → Words (cleared p x ws n)
unfolding cleared
cleared_words p x ws zero w = w
cleared_words p x ws (suc n) w =
    by_cases (clears p x n)
    (λ c. rw c (clear_one_words (cleared p x ws n) n (cleared_words p x ws n w)))
    (λ c. rw c (cleared_words p x ws n w))

-- Of the bits below n, those that x clears are cleared.
cleared_bit : (p : Process) (x : ℕ) (ws : List ℕ) (n i : ℕ) → Words ws → n ≤ 512
    → bit_at (cleared p x ws n) i ≡ cond (ltb i n && clears p x i) false (bit_at ws i)
unfolding cleared
cleared_bit p x ws zero i w h = rw (le-ltb i 0 (omega arith))
cleared_bit p x ws (suc n) i w h =
    by_cases (eqb i n)
    (λ q. rw (eqb-true i n q, lt-ltb n (suc n) (omega arith))
    (by_cases (clears p x n)
    (λ c. rw c (bit_clear_same (cleared p x ws n) n (cleared_words p x ws n w).0 (omega arith)))
    (λ c. rw c (cleared_bit p x ws n n w (omega arith) ∙ rw (le-ltb n n (omega arith))))))
    (λ q. let o = eqb-false i n q in
    let r : ltb i (suc n) ≡ ltb i n = agree (ltb i (suc n)) (ltb i n)
    (λ l. lt-ltb i n (omega (arith, ltb-true i (suc n) l, o))) (λ l. lt-ltb i (suc n) (omega (arith, ltb-true i n l))) in
    rw r
    (by_cases (clears p x n) (λ c. rw c (bit_clear_other (cleared p x ws n) n i o)) (λ c. rw c) ∙ cleared_bit p x ws n i w (omega arith)))

set_at : (ws : List ℕ) (x i : ℕ) → Words ws → i < 512 → bit_at (set_bit ws x) i ≡ cond (eqb i x) true (bit_at ws i)
set_at ws x i w h =
    by_cases (eqb i x)
    (λ q. rw (q, ← (eqb-true i x q)) (bit_set_same ws i w.0 h))
    (λ q. rw q (bit_set_other ws x i (eqb-false i x q)))

-- A bit that the event clears is clear, its own bit is set, and every other bit is what it was.
pub marked_bit : (p : Process) (ws : List ℕ) (x i : ℕ) → Words ws → i < 512
    → bit_at (marked p ws x) i ≡ cond (clears p x i) false (cond (eqb i x) true (bit_at ws i))
marked_bit p ws x i w h =
    cleared_bit p x (set_bit ws x) 512 i (set_words ws x w) (omega arith) ∙ rw (lt-ltb i 512 h, set_at ws x i w h)

-- Eight words of 64 bits stay so.
pub marked_words : (p : Process) (ws : List ℕ) (x : ℕ) → Words ws → Words (marked p ws x)
marked_words p ws x w = cleared_words p x (set_bit ws x) 512 (set_words ws x w)

-- Three forms of taking an event meet here. `process.specs.Bits.taking` clears what the event clears and has its own bit set whatever is
-- cleared; `marked`, and `table.specs.Steps.taken` by the table's event record, set its bit and then clear. The last two are one
-- (`Played.step_marks`); the first agrees with them where the event does not clear its own bit, and no event does: `own_kept` below.
own_or_not : (own cl b : Bool) → (own ≡ true → cl ≡ false) → cond cl false (cond own true b) ≡ (own || (not cl && b))
own_or_not true cl b f = rw (f refl)
own_or_not false true b f = refl
own_or_not false false b f = refl

eqb_swap : (x y : ℕ) → eqb x y ≡ eqb y x
eqb_swap x y = agree (eqb x y) (eqb y x) (λ q. eq-eqb y x (sym (eqb-true x y q))) (λ q. eq-eqb x y (sym (eqb-true y x q)))

marked_taking : (p : Process) (ws : List ℕ) (x i : ℕ) → clears p x x ≡ false → Words ws → i < 512
    → bit_at (marked p ws x) i ≡ taking (clears p) (bit_at ws) x i
marked_taking p ws x i c w h =
    marked_bit p ws x i w h
    ∙ rw (eqb_swap i x) (own_or_not (eqb x i) (clears p x i) (bit_at ws i) (λ q. rw (← (eqb-true x i q)) c))

-- ---- a list of events
pub marked_all_words : (p : Process) (ws book : List ℕ) → Words ws → Words (marked_all p ws book)
unfolding marked_all
marked_all_words p ws [] w = w
marked_all_words p ws (x ∷ book) w = marked_all_words p (marked p ws x) book (marked_words p ws x w)

-- One more event at the end.
pub marked_more : (p : Process) (ws book : List ℕ) (e : ℕ) → marked_all p ws (book ++ (e ∷ [])) ≡ marked p (marked_all p ws book) e
unfolding marked_all
marked_more p ws [] e = refl
marked_more p ws (x ∷ book) e = marked_more p (marked p ws x) book e

-- What taking events makes of a bit depends on that bit only.
run_at : (cl : ℕ → ℕ → Bool) (w : List ℕ) (s t : Bits) (i : ℕ) → s i ≡ t i → run cl s w i ≡ run cl t w i
run_at cl [] s t i h = h
run_at cl (x ∷ w) s t i h = run_at cl w (taking cl s x) (taking cl t x) i (rw h)

-- The bits after the events, where none of them clears its own bit, are what the process says.
pub marked_all_bit : (p : Process) → ((x : ℕ) → clears p x x ≡ false) → (ws book : List ℕ) (i : ℕ) → Words ws → i < 512
    → bit_at (marked_all p ws book) i ≡ run (clears p) (bit_at ws) book i
unfolding marked_all
marked_all_bit p own ws [] i w h = refl
marked_all_bit p own ws (x ∷ book) i w h =
    marked_all_bit p own (marked p ws x) book i (marked_words p ws x w) h
    ∙ run_at (clears p) book (bit_at (marked p ws x)) (taking (clears p) (bit_at ws) x) i (marked_taking p ws x i (own x) w h)

-- A bit whose event is not among those taken stays clear.
untaken : (I : ℕ → Bool) (cl : ℕ → ℕ → Bool) (w : List ℕ) (s : Bits) (i : ℕ) → All I w → I i ≡ false → s i ≡ false → run cl s w i ≡ false
untaken I cl [] s i a n c = c
untaken I cl (x ∷ w) s i a n c =
    untaken I cl w (taking cl s x) i a.1 n (rw (ne_eqb x i (λ q. clash a.0 (ap I q ∙ n)), c) (and-false (not (cl x i))))

-- ---- from the blank record, for a diagram
blank_words : Words blank_record.bits
unfolding blank_record
blank_words = (refl, λ i h. rw (get_or-replicate {A = ℕ} 8 i 0 0 h) (lit< tt))

-- The record after a book has eight words of 64 bits.
pub record_words : (d : Flow) (book : List ℕ) → Words (record_after d book).bits
record_words d book = marked_all_words (expand d) blank_record.bits book blank_words

-- "Blank is all zero."
pub blank_bit : (i : ℕ) → bit_at blank_record.bits i ≡ false
unfolding blank_record bit_at
blank_bit i = by_cases (ltb i 512) (λ l. rw (get_or-replicate {A = ℕ} 8 (i / 64) 0 0 (omega (arith, ltb-true i 512 l)), zero-div, l)) (λ l. rw l)

module _ (d : Flow) (k : Keeps d) where
  -- No event clears its own bit: what a reset clears ends right before it.
  pub own_kept : (x : ℕ) → clears (expand d) x x ≡ false
  own_kept x =
      is_false (clears (expand d) x x)
      (λ c. ⊎_elim (λ (r, none). clash c (none x)) (λ (r, b, B, a, o, f). let z = (f x).0 c in omega arith)
      (event_effect d k.sizes x ((expand_events d k.sizes x).0 (closed (expand d) x x c).0)))

  -- The record after a book: its bits are those after the events of the book.
  pub record_bit : (book : List ℕ) (i : ℕ) → i < 512 → bit_at (record_after d book).bits i ≡ after (expand d) book i
  record_bit book i h =
      marked_all_bit (expand d) own_kept blank_record.bits book i blank_words h
      ∙ run_at (clears (expand d)) book (bit_at blank_record.bits) blank i (blank_bit i)

  -- The bits at or past the number of events are clear.
  pub record_past : (book : List ℕ) → Begins (expand d) book → (i : ℕ) → flow_events d ≤ i → bit_at (record_after d book).bits i ≡ false
  record_past book h i l =
      by_cases (ltb i 512)
      (λ y. record_bit book i (ltb-true i 512 y)
      ∙ untaken (owns (expand d)) (clears (expand d)) book blank i (begins_inside (expand d) book h)
      (is_false (owns (expand d) i) (λ o. let z = (expand_events d k.sizes i).0 o in omega arith)) refl)
      (λ y. bit_out (record_after d book).bits i (ltb-false i 512 y))
