-- What the two passes write for a process is its plan, over the front of whatever was lent.
use Rattle.std.proofs.Common.{◌≡◌, refl, sym, ap, ◌∙◌, List, [], ◌∷◌, ◌++◌, ℕ, ◌+◌, ◌*◌, ◌≤◌, length, arith}
use Rattle.base.specs.Fill.{fill}
use Rattle.base.specs.Packed.{put_word, packed}
use Rattle.process.specs.Process.{Process}
use Rattle.process.proofs.Numbered.{size, Numbered}
use Rattle.postfix.specs.Postfix.{postfix}
use Rattle.postfix.specs.Fold.{state}
use Rattle.layout.specs.Fields.{both_row}
use Rattle.plan.specs.declared.PartRows.{PartRows}
use Rattle.plan.specs.Pieces.{constants}
use Rattle.plan.specs.Plan.{plan_of, guards_of, middle, rows_of, records_of, planned}
use Rattle.plan.proofs.Lengths.{length_three, records_length, planned_length}
use Rattle.guards.specs.code.Rows.{put_rows, base_of}
use Rattle.guards.proofs.RowsWritten.{put_rows_append, rows_below_rows}
use Rattle.guards.specs.code.Passes.{top, no_rows, FirstAt, first_start, done_row, SecondAt, second_start, first_of, second_of, finish, Passes}
use Rattle.guards.proofs.FirstPassed.{Stands, first_passed}
use Rattle.guards.proofs.SecondPassed.{Passed, second_passed}
use Rattle.guards.proofs.BytesFilled.{table_filled}

-- ---- all rows and records
-- Rows in four runs, with records below them between the second and the third.
four_runs : (base n : ℕ) (c a b t r o : List ℕ) → n ≡ length c → 4 + 4 * length r ≤ base
    → put_rows base (n + length a + length b) t (put_rows base (n + length a) b (put_rows 4 0 r (put_rows base n a (put_rows base 0 c o))))
    ≡ put_rows base 0 (c ++ (a ++ (b ++ t))) (put_rows 4 0 r o)
four_runs base n c a b t r o e h =
    let d : 0 + length c ≡ n = omega arith in
    ap (λ (l : List ℕ). put_rows base (n + length a + length b) t (put_rows base (n + length a) b l))
    (rows_below_rows 4 0 base n r a (put_rows base 0 c o) (omega arith) ∙ ap (put_rows base n a) (rows_below_rows 4 0 base 0 r c o (omega arith)))
    ∙ sym (put_rows_append base (n + length a) b t (put_rows base n a (put_rows base 0 c (put_rows 4 0 r o))))
    ∙ sym (put_rows_append base n a (b ++ t) (put_rows base 0 c (put_rows 4 0 r o)))
    ∙ ap (λ (k : ℕ). put_rows base k (a ++ (b ++ t)) (put_rows base 0 c (put_rows 4 0 r o))) (sym d)
    ∙ sym (put_rows_append base 0 c (a ++ (b ++ t)) (put_rows 4 0 r o))

module _ (p : Process) (events : ℕ) (lent : List ℕ) (numbered : Numbered p 0) (sized : size p ≡ events) where
  abbrev start : FirstAt
  start = first_start 3 (put_rows (base_of events) 0 constants lent)

  first : Stands (base_of events) start 0 (first_of (postfix p) events lent) (state (size p) (plan_of p ∷ []))
  unfolding first_of
  first = first_passed (base_of events) start p numbered refl

  second : (u : FirstAt) → Stands (base_of events) start 0 u (state (size p) (plan_of p ∷ []))
      → Passed (base_of events) (guards_of p 3 u.rows 2) [] [] (second_start u.rows u.event u.needs u.out) (second_of (postfix p) events u)
  unfolding second_of
  second u f =
      second_passed p (base_of events) 3 0 2 [] [] (second_start u.rows u.event u.needs u.out)
      (record {
        numbered = numbered;
        its_event = omega (arith, f.its_event);
        low = omega (arith, f.its_event, sized);
        its_gates = refl;
        its_needs = f.its_needs;
      })

  -- What the passes leave.
  module _ (u : FirstAt) (d : SecondAt) (f : Stands (base_of events) start 0 u (state (size p) (plan_of p ∷ [])))
      (g : Passed (base_of events) (guards_of p 3 u.rows 2) [] [] (second_start u.rows u.event u.needs u.out) d) where
    last : d.rows ≡ middle p + length (guards_of p 3 (middle p) 2).words
    last = rw f.its_rows at g.wrote.its_rows

    none_left : d.event ≡ 0
    none_left = omega (arith, g.wrote.its_event, records_length p 3 u.rows 2, f.its_event)

    rows_length : d.rows + 1 ≡ length (rows_of p)
    rows_length =
        omega (
          arith,
          last,
          length_three (plan_of p 3).words (guards_of p 3 (middle p) 2).words (both_row (plan_of p 3).part.done (plan_of p 3).part.done),
        )

    its_out : d.out
        ≡ put_rows (base_of events) (middle p) (guards_of p 3 (middle p) 2).words
        (put_rows 4 0 (records_of p) (put_rows (base_of events) 3 (plan_of p 3).words (put_rows (base_of events) 0 constants lent)))
    its_out = rw (f.its_rows, none_left, f.its_out) at g.wrote.its_out

    its_done : done_row u ≡ (plan_of p 3).part.done
    its_done = ap (λ (s : List PartRows). (top no_rows s).done) f.its_parts

    its_bytes : finish events u d ≡ fill lent (planned p)
    unfolding planned
    its_bytes =
        let n = records_length p 3 (middle p) 2 ∙ sized in
        rw (its_done, rows_length, its_out, last)
        (ap (λ (l : List ℕ). put_word l 0 (events * 65536 + length (rows_of p)))
        (four_runs (base_of events) 3 constants (plan_of p 3).words (guards_of p 3 (middle p) 2).words
        (both_row (plan_of p 3).part.done (plan_of p 3).part.done ∷ []) (records_of p) lent refl (omega (arith, n)))
        ∙ table_filled events (rows_of p) (records_of p) lent n
        ∙ ap (λ (k : ℕ). fill lent (packed ((k * 65536 + length (rows_of p)) ∷ (records_of p ++ rows_of p)))) (sym n))

  -- The passes over a process write its plan.
  pub plan_written : (made : ℕ) (left : List ℕ) → Passes (postfix p) events lent made left → (made ≡ length (planned p)) × (left ≡ fill lent (planned p))
  plan_written made left h =
      let u = first_of (postfix p) events lent in
      let d = second_of (postfix p) events u in
      let g = second u first in (
        h.its_size ∙ (ap (λ (r : ℕ). base_of events + 4 * r) (rows_length u d first g) ∙ sym (planned_length p events sized)),
        h.its_bytes ∙ its_bytes u d first g,
      )
