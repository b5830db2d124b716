-- The ways out of printing.
use Rattle.std.proofs.Common.{◌≡◌, refl, sym, ap, ℕ, ◌≤◌, ◌<◌, List, length, arith}
use Rattle.std.specs.Prelude.{Ok, Err}
use borrow.Author.Tests.{lt-ltb, le-ltb}
use Rattle.base.specs.Refusals.{refusal}
use Rattle.base.specs.Reports.{Written}
use Rattle.base.specs.declared.Reason.{Reason}
use Rattle.base.specs.declared.Refusal.{Refusal}
use Rattle.diagram.specs.declared.Diagram.{Diagram}
use Rattle.grammar.specs.Printed.{printed}
use Rattle.output.specs.Buffer.{buffer, put_all}
use Rattle.output.proofs.Buffers.{whole}
use Rattle.reading.specs.Answers.{Read, read_of}
use Rattle.reading.proofs.Exact.{accepted_exactly}
use Rattle.printer.specs.Prints.{print_answer, print_of, left_by}
use Rattle.printer.proofs.Alike.{printed_shorter}

-- An answer, and what the lent bytes hold after it.
abbrev pub Answers : List ℕ → List ℕ → Written → List ℕ → Written → Type 0
Answers text lent p out q = (q ≡ p) × (out ≡ left_by text lent p)

pub short_answers : (text lent : List ℕ) → length lent < 16384 → Answers text lent (print_of text lent) lent (Err (refusal Reason.Buffer 0))
unfolding print_of
short_answers text lent h = rw (lt-ltb (length lent) 16384 h) (refl, refl)

module _ (text lent : List ℕ) (long : 16384 ≤ length lent) where
  -- Where the buffer is long enough, the answer goes by reading's.
  pub long_enough : (a : Read) → read_of text ≡ a → print_of text lent ≡ print_answer text a
  unfolding print_of
  long_enough a e = rw (le-ltb (length lent) 16384 long, e)

  pub refused_answers : (x : Refusal) → Err x ≡ read_of text → (r : Written) → r ≡ Err x → Answers text lent (print_of text lent) lent r
  refused_answers x e r q = rw (q, long_enough (Err x) (sym e)) (refl, refl)

  -- A text that is read has room in the buffer.
  pub done_answers : (g : Diagram) → Ok g ≡ read_of text → (n : ℕ) (out : List ℕ) → buffer n out ≡ put_all (printed text) (buffer 0 lent)
      → Answers text lent (print_of text lent) out (Ok n)
  done_answers g e n out q =
      let a = (accepted_exactly text).0 (g, sym e) in
      let w = whole (printed text) lent out n q (omega (arith, long, a.1.short, printed_shorter text)) in
      rw (long_enough (Ok g) (sym e)) (ap Ok w.0, w.1)
