-- Property 1, for printing.
use mathlib.Core.Path.{◌≡◌, refl, sym, ◌∙◌, ap}
use mathlib.Core.Logic.{⊎_elim}
use mathlib.Core.Bool.{true, false}
use mathlib.Core.List.{List, [], ◌∷◌}
use Prim.Native.Nat.{ℕ, ◌≤◌}
use native.Mathlib.Omega.{arith}
use lib.Dec.{ltb}
use lib.ListN.{length}
use lib.Seq.{length-take-le}
use borrow.Author.Tests.{ltb-true, ltb-false, lt-ltb}
use Rattle.base.specs.Fill.{fill}
use Rattle.std.specs.Prelude.{Ok, Err}
use Rattle.base.specs.Refusals.{number, refusal as refusal_at}
use Rattle.base.specs.Reports.{Written, refusal as refusal_report}
use Rattle.base.specs.declared.Reason.{Reason as Why}
use Rattle.diagram.specs.Tree.{Flow}
use Rattle.base.proofs.Truth.{cases}
use Rattle.base.proofs.Filled.{fill_length, fill_front, fill_past, fill_taken}
use Rattle.base.proofs.Reports.{written_told, refusal_told}
use Rattle.grammar.specs.Printed.{printed}
use Rattle.reading.specs.Answers.{read_of}
use Rattle.reading.specs.Accepted.{Accepted}
use Rattle.reading.specs.Bounds.{Bounded as Answered, result as read_result, refusal as read_refusal}
use Rattle.reading.proofs.Bounds.{read_bounded}
use Rattle.reading.proofs.Exact.{accepted_exactly, refused_at_read}
use Rattle.printer.specs.Prints.{print_of, left_by}
use Rattle.printer.specs.Reports.{report}
use Rattle.printer.specs.Bounds.{Result, Reason, short_sheet, unread, Bounded, result, refusal}
use Rattle.printer.proofs.Alike.{printed_shorter}
use Rattle.printer.proofs.Answered.{Answers, long_enough}

-- An accepted text is printed.
pub accepted_prints : (text lent : List ℕ) (d : Flow) → 16384 ≤ length lent → Accepted text d → print_of text lent ≡ Ok (length (printed text))
accepted_prints text lent d h a = let r = (accepted_exactly text).1 (d, a) in long_enough text lent h (Ok r.0) r.1

too_short : (text lent : List ℕ) → ltb (length lent) 16384 ≡ true → print_of text lent ≡ Err (refusal_at Why.Buffer 0)
unfolding print_of
too_short text lent e = rw e

module _ (text lent : List ℕ) where
  -- "Every answer is a result within the limits or one numbered refusal with its place, which leaves lent memory untouched."
  written_result : (d : Flow) → 16384 ≤ length lent → Accepted text d → Bounded text lent (print_of text lent) (left_by text lent (print_of text lent))
  written_result d h a =
      let few : length (printed text) ≤ 16384 = omega (arith, printed_shorter text, a.short) in
      rw (accepted_prints text lent d h a)
      (result
      record {
        enough = h;
        tree = d;
        limits = a;
        count = length (printed text);
        reported = refl;
        few = few;
        length_stays = fill_length lent (printed text);
        front = fill_front lent (printed text) (omega arith);
        past = fill_past lent (printed text);
      })

  refused_refusal : (c : Why) (k : ℕ) → Reason text lent (number c) k → 1 ≤ number c → number c ≤ 11 → k ≤ 16384 → print_of text lent ≡ Err (refusal_at c k)
      → Bounded text lent (print_of text lent) (left_by text lent (print_of text lent))
  refused_refusal c k y l u n e =
      rw e (refusal record { number = number c; place = k; why = y; reported = refl; low = l; high = u; near = n; untouched = refl })

  pub print_bounded : Bounded text lent (print_of text lent) (left_by text lent (print_of text lent))
  print_bounded = ⊎_elim short enough (cases (ltb (length lent) 16384))
    where
      short : ltb (length lent) 16384 ≡ true → Bounded text lent (print_of text lent) (left_by text lent (print_of text lent))
      short q =
          refused_refusal Why.Buffer 0 (short_sheet (ltb-true (length lent) 16384 q) refl refl) (omega arith) (omega arith) (omega arith) (too_short text lent q)

      by_reading : 16384 ≤ length lent → Answered text (read_of text) → Bounded text lent (print_of text lent) (left_by text lent (print_of text lent))
      by_reading h (read_result r) = written_result r.tree h r.limits
      by_reading h (read_refusal r) =
          refused_refusal r.reason r.place (unread h r.why) (omega (arith, r.low)) r.high r.near
          (long_enough text lent h (Err (refusal_at r.reason r.place)) r.is)

      enough : ltb (length lent) 16384 ≡ false → Bounded text lent (print_of text lent) (left_by text lent (print_of text lent))
      enough q = by_reading (ltb-false (length lent) 16384 q) (read_bounded text)

  -- And there is no other: text and buffer alone say the answer and every byte that is left.
  one_result : (p : Written) (left : List ℕ) → Result text lent p left → Answers text lent (print_of text lent) left p
  one_result p left r =
      let room : r.count ≤ length left = omega (arith, r.enough, r.few, r.length_stays) in
      let n : r.count ≡ length (printed text) = sym (length-take-le r.count left room) ∙ ap length r.front in
      let e = accepted_prints text lent r.tree r.enough r.limits in (
        written_told p (Ok r.count) r.reported ∙ (ap Ok n ∙ sym e),
        sym (fill_taken lent left r.count r.length_stays r.past) ∙ (ap (fill lent) r.front ∙ sym (ap (left_by text lent) e)),
      )

  -- A refusal is answered by its reason.
  refusal_prints : (c k : ℕ) → Reason text lent c k → (r : Why) × (number r ≡ c) × (print_of text lent ≡ Err (refusal_at r k))
  refusal_prints c k (short_sheet h a b) = (Why.Buffer, sym a, rw b (too_short text lent (lt-ltb (length lent) 16384 h)))
  refusal_prints c k (unread h t) =
      let w = refused_at_read text c k t in (w.reason, w.its_number, long_enough text lent h (Err (refusal_at w.reason k)) w.answer)

  one_refusal : (p : Written) (left : List ℕ) (c k : ℕ) → report p ≡ refusal_report c k → Reason text lent c k → left ≡ lent → Answers text lent (print_of text lent) left p
  one_refusal p left c k q y u =
      let (r, n, e) = refusal_prints c k y in
      (refusal_told (λ m. m ∷ []) p r k (rw n q) ∙ sym e, u ∙ sym (ap (left_by text lent) e))

  -- So the relation says all that the contract of `printer::print` says.
  pub one_print : (p : Written) (left : List ℕ) → Bounded text lent p left → Answers text lent (print_of text lent) left p
  one_print p left (result r) = one_result p left r
  one_print p left (refusal r) = one_refusal p left r.number r.place r.reported r.why r.untouched
