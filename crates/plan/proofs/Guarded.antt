-- The table that the plan of a process makes says what the process says.
use mathlib.Core.Path.{◌≡◌, sym, ap, subst, ◌∙◌}
use mathlib.Core.Bool.{Bool, true, ◌&&◌, ◌||◌, or-not_self}
use mathlib.Core.List.{[], ◌∷◌, ◌++◌}
use Prim.Native.Nat.{ℕ, ◌+◌, ◌-◌, ◌*◌, ◌≤◌, ◌<◌}
use native.Mathlib.Nat.{zero-add}
use native.Mathlib.Omega.{arith}
use Rattle.std.proofs.Math.Bool.{and_self}
use lib.ListN.{length, get_or, length-append}
use Rattle.process.specs.Process.{Process}
use Rattle.process.specs.Bits.{Bits, clears}
use Rattle.process.specs.Guards.{complete, enabled}
use Rattle.process.proofs.Numbered.{size, Numbered, interval}
use Rattle.process.proofs.Cleared.{size_positive}
use Rattle.base.specs.Packed.{packed}
use Rattle.layout.specs.Fields.{rows, guard_of, both_row}
use Rattle.agreement.specs.Agrees.{Agrees}
use Rattle.plan.specs.Pieces.{constants}
use Rattle.plan.specs.Plan.{plan_of, guards_of, middle, rows_of, records_of, planned}
use Rattle.plan.proofs.Says.{Obeys, Lower}
use Rattle.layout.proofs.Decoded.{not_says, both_says, either_says}
use Rattle.plan.proofs.Within.{obeys_split, lower_join, plan_below}
use Rattle.plan.proofs.Lengths.{records_length}
use Rattle.plan.proofs.RowsLower.{bit_first, not_first, both_first, either_first, no_rows, plan_lower, guards_lower}
use Rattle.plan.proofs.RecordsKept.{Kept as KeptRecord, records_kept}
use Rattle.plan.proofs.PlanTrue.{plan_true}
use Rattle.plan.proofs.GuardsTrue.{guards_true}
use Rattle.plan.proofs.Tabled.{Kept, agrees, head}

module _ (p : Process) (n : ℕ) (numbered : Numbered p 0) (its_size : size p ≡ n) (few : n ≤ 512) (rows_few : length (rows_of p) ≤ 12288) where
  -- The four parts of the rows.
  abbrev last : ℕ
  last = both_row (plan_of p 3).part.done (plan_of p 3).part.done

  total : length (rows_of p) ≡ middle p + length (guards_of p 3 (middle p) 2).words + 1
  total =
      let a = length-append (plan_of p 3).words ((guards_of p 3 (middle p) 2).words ++ (both_row (plan_of p 3).part.done (plan_of p 3).part.done ∷ [])) in
      let b = length-append (guards_of p 3 (middle p) 2).words (both_row (plan_of p 3).part.done (plan_of p 3).part.done ∷ []) in
      omega (arith, a, b)

  plan_few : 3 + length (plan_of p 3).words ≤ 16384
  plan_few = omega (arith, total, rows_few)

  guards_few : middle p + length (guards_of p 3 (middle p) 2).words ≤ 16384
  guards_few = omega (arith, total, rows_few)

  below_512 : 0 + size p ≤ 512
  below_512 = omega (arith, its_size, few)

  below_n : 0 + size p ≤ n
  below_n = omega (arith, its_size)

  done_below : (plan_of p 3).part.done < middle p
  done_below = (plan_below p 3 0 numbered (omega arith)).its_done

  rows_lower : Lower n 0 (rows_of p)
  rows_lower =
      let tail = both_first n (middle p + length (guards_of p 3 (middle p) 2).words) [] (plan_of p 3).part.done (plan_of p 3).part.done (omega (arith, done_below)) (omega (arith, done_below)) guards_few (no_rows n _) in
      let rest = lower_join n (middle p) (guards_of p 3 (middle p) 2).words _ (guards_lower n p 3 (middle p) 2 0 numbered below_n few (omega arith) (omega arith) (omega arith) guards_few) tail in
      let body = lower_join n 3 (plan_of p 3).words _ (plan_lower n p 3 0 numbered below_n few (omega arith) plan_few) rest in
      bit_first n 0 _ 0 (omega (arith, its_size, size_positive p)) few
      (not_first n 1 _ 0 (omega arith) (omega arith) (either_first n 2 _ 0 1 (omega arith) (omega arith) (omega arith) body))

  record_kept : (e : ℕ) → e < n → KeptRecord (length (rows_of p)) (clears p) (get_or (records_of p) e 0) (0 + e)
  record_kept e h = records_kept p (length (rows_of p)) 3 (middle p) 2 0 numbered below_512 (omega arith) (omega arith) (omega (arith, total)) (omega (arith, rows_few)) e (omega (arith, h, its_size))

  kept : Kept n (rows_of p) (records_of p)
  kept = record {
    some = omega (arith, its_size, size_positive p);
    few = few;
    rows_some = omega (arith, total);
    rows_few = rows_few;
    rows_lower = rows_lower;
    records_length = records_length p 3 (middle p) 2 ∙ its_size;
    records_small = λ e h. (record_kept e h).small;
    records_guard = λ e h. (record_kept e h).guard_below;
    records_run = λ e h. rw (zero-add e) at (record_kept e h).its_run;
  }

  module _ (s : Bits) (v : ℕ → Bool) (obeys : Obeys s v 0 (rows_of p)) where
    -- Row 2 says yes always.
    always : v 2 ≡ true
    unfolding Obeys
    always =
        obeys.1.1.0 ∙ (either_says s v 0 1 (omega arith) (omega arith)
        ∙ (ap (λ (b : Bool). v 0 || b) (obeys.1.0 ∙ not_says s v 0 (omega arith)) ∙ or-not_self (v 0)))

    after_constants : Obeys s v 3 ((plan_of p 3).words ++ ((guards_of p 3 (middle p) 2).words ++ (last ∷ [])))
    after_constants = (obeys_split s v 0 constants _ obeys).1

    ups_obeyed : Obeys s v 3 (plan_of p 3).words
    ups_obeyed = (obeys_split s v 3 (plan_of p 3).words _ after_constants).0

    after_ups : Obeys s v (middle p) ((guards_of p 3 (middle p) 2).words ++ (last ∷ []))
    after_ups = (obeys_split s v 3 (plan_of p 3).words _ after_constants).1

    guarded : (e : ℕ) → e < n → v (guard_of (get_or (records_of p) e 0)) ≡ enabled p s e
    guarded e h =
        let o = (interval p 0 e numbered).1 (omega arith, omega (arith, h, its_size)) in
        let q = guards_true s v p 3 (middle p) 2 0 numbered below_512 (omega arith) plan_few guards_few (omega arith) always ups_obeyed (obeys_split s v (middle p) (guards_of p 3 (middle p) 2).words _ after_ups).0 e o in
        let z : e - 0 ≡ e = omega arith in
        sym (ap (λ i. v (guard_of (get_or (records_of p) i 0))) z) ∙ (q ∙ ap (λ (b : Bool). b && enabled p s e) always)

    over : v (length (rows_of p) - 1) ≡ complete p s
    unfolding Obeys
    over =
        let m = plan_true s v p 3 0 numbered below_512 (omega arith) plan_few always ups_obeyed in
        let b = (plan_below p 3 0 numbered (omega arith)).its_done in
        let r = (obeys_split s v (middle p) (guards_of p 3 (middle p) 2).words _ after_ups).1.0 in
        let z : length (rows_of p) - 1 ≡ middle p + length (guards_of p 3 (middle p) 2).words = omega (arith, total) in
        ap v z ∙ (r ∙ (both_says s v (plan_of p 3).part.done (plan_of p 3).part.done (omega (arith, b, plan_few)) (omega (arith, b, plan_few)) ∙ (rw m.its_done (and_self (complete p s)))))

  -- So the plan's bytes are a table that says what the process says, with so many rows.
  same : packed ((n * 65536 + length (rows_of p)) ∷ (records_of p ++ rows_of p)) ≡ planned p
  unfolding planned
  same = ap (λ (k : ℕ). packed ((k * 65536 + length (rows_of p)) ∷ (records_of p ++ rows_of p))) (sym (records_length p 3 (middle p) 2 ∙ its_size))

  pub plan_agrees : Agrees p n (planned p)
  plan_agrees =
      subst (Agrees p n) same (agrees n (rows_of p) (records_of p) kept p guarded over (λ e i h. rw (zero-add e) at ((record_kept e h).its_bits i)))

  pub plan_rows : rows (planned p) ≡ length (rows_of p)
  plan_rows = sym (ap rows same) ∙ (head n (rows_of p) (records_of p) kept).1
