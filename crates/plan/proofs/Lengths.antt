-- How long a plan is: what the second pass needs of each number in postfix order, the event records, the bytes.
use mathlib.Core.Path.{◌≡◌, refl}
use mathlib.Core.List.{List, [], ◌∷◌, ◌++◌}
use Prim.Native.Nat.{ℕ, ◌+◌, ◌*◌}
use native.Mathlib.Omega.{arith}
use lib.ListN.{length, length-append}
use Rattle.process.specs.Process.{Process, event, join, again, rounds}
use Rattle.process.proofs.Numbered.{size}
use Rattle.postfix.specs.Fold.{fold}
use Rattle.postfix.specs.Postfix.{postfix}
use Rattle.postfix.proofs.Short.{long_join, long_rounds}
use Rattle.plan.specs.Pieces.{rounds_piece}
use Rattle.plan.specs.Plan.{joined, plan_of, guards_of, middle, rows_of, records_of, planned}
use Rattle.plan.proofs.ReadBack.{packed_length}

-- A list, another, and one element more.
pub length_three : {A : Type 0} (a b : List A) (x : A) → length (a ++ (b ++ (x ∷ []))) ≡ length a + length b + 1
length_three a b x = omega (arith, length-append a (b ++ (x ∷ [])), length-append b (x ∷ []))

pub needs_length : (p : Process) (k : ℕ) → length (plan_of p k).needs ≡ length (postfix p)
unfolding postfix fold
needs_length (event n l) k = refl
needs_length (join j p q) k =
    let a = plan_of p k in
    let b = plan_of q (k + length a.words) in
    omega (arith, length_three a.needs b.needs (joined j k a b).needs, needs_length p k, needs_length q (k + length a.words), long_join j p q)
needs_length (again n l) k = refl
needs_length (rounds p r l) k =
    let a = plan_of p k in
    omega (arith, length-append a.needs ((rounds_piece (k + length a.words) r a.part).needs ∷ []), needs_length p k, long_rounds p r l)

-- A record for each event.
pub records_length : (p : Process) (u k m : ℕ) → length (guards_of p u k m).records ≡ size p
unfolding guards_of size
records_length (event n l) u k m = refl
records_length (join j p q) u k m = rw length-append (rw (records_length p, records_length q))
records_length (again n l) u k m = refl
records_length (rounds p r l) u k m = rw length-append (rw (records_length p) refl)

-- How many bytes the table has.
pub planned_length : (p : Process) (n : ℕ) → size p ≡ n → length (planned p) ≡ 4 + 4 * n + 4 * length (rows_of p)
unfolding planned
planned_length p n e =
    omega (
      arith,
      e,
      records_length p 3 (middle p) 2,
      packed_length ((length (records_of p) * 65536 + length (rows_of p)) ∷ (records_of p ++ rows_of p)),
      length-append (records_of p) (rows_of p),
    )
