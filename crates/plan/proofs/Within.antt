-- The rows of a part are below the next free row, and laws of row lists and record lists over `++`.
use mathlib.Core.Path.{◌≡◌, subst}
use mathlib.Core.Bool.{Bool, true, false}
use mathlib.Core.List.{List, [], ◌∷◌, ◌++◌}
use Rattle.std.specs.Prelude.{Some, None}
use Prim.Native.Nat.{ℕ, zero, suc, ◌+◌, ◌-◌, ◌≤◌, ◌<◌}
use native.Mathlib.Omega.{arith}
use native.Mathlib.Nat.{add-zero}
use lib.Dec.{ltb}
use lib.ListN.{length, length-append, get_or, get_or-append}
use lib.Seq.{get_or-append-add}
use borrow.Author.Tests.{ltb-true, ltb-false}
use Rattle.base.proofs.Truth.{by_cases}
use Rattle.process.specs.Process.{Joint, seq, and, or, xor, Process, event, join, again, rounds}
use Rattle.process.specs.Bits.{Bits}
use Rattle.process.proofs.Numbered.{Numbered}
use Rattle.plan.specs.Pieces.{part_rows, rounds_piece, settling, settled_row, join_piece}
use Rattle.postfix.specs.Fold.{fold}
use Rattle.plan.specs.Plan.{joined, plan_of}
use Rattle.plan.specs.declared.PartRows.{PartRows}
use Rattle.plan.proofs.Says.{Obeys, Lower, Below, by_option}

-- ---- lists of rows
-- Values that obey two lists of rows, one after the other, obey each.
pub obeys_split : (s : Bits) (v : ℕ → Bool) (k : ℕ) (ws vs : List ℕ) → Obeys s v k (ws ++ vs) → Obeys s v k ws × Obeys s v (k + length ws) vs
unfolding Obeys
obeys_split s v k [] vs h = (tt, rw add-zero h)
obeys_split s v k (w ∷ ws) vs h =
    let r = obeys_split s v (suc k) ws vs h.1 in
    let e : k + suc (length ws) ≡ suc k + length ws = omega arith in
    ((h.0, r.0), rw e r.1)

-- Two lists of rows, one after the other, keep the sentences on rows where each does.
pub lower_join : (n k : ℕ) (ws vs : List ℕ) → Lower n k ws → Lower n (k + length ws) vs → Lower n k (ws ++ vs)
unfolding Lower
lower_join n k [] vs h g = rw add-zero at g
lower_join n k (w ∷ ws) vs h g =
    let e : k + suc (length ws) ≡ suc k + length ws = omega arith in
    (h.0, h.1, lower_join n (suc k) ws vs h.2 (rw e at g))

-- ---- lists of records
-- What holds of a record of the first list and of one of the second holds of one of both.
pub records_cases : (P : ℕ → Type 0) (l m : List ℕ) (i n : ℕ) → length l ≡ n → (i < n → P (get_or l i 0))
    → (n ≤ i → P (get_or m (i - n) 0)) → P (get_or (l ++ m) i 0)
records_cases P l m i n e f g = by_cases (ltb i n) first second
  where
    first : ltb i n ≡ true → P (get_or (l ++ m) i 0)
    first t = let h = ltb-true i n t in rw (get_or-append l m 0 i (omega arith)) (f h)

    second : ltb i n ≡ false → P (get_or (l ++ m) i 0)
    second t =
        let h = ltb-false i n t in
        let q : length l + (i - n) ≡ i = omega arith in
        subst (λ (x : ℕ). P (get_or (l ++ m) x 0)) q (rw (get_or-append-add l m (i - n) 0) (g h))

-- The only record of a list.
pub one_record : (P : ℕ → Type 0) (w i : ℕ) → i < 1 → P w → P (get_or (w ∷ []) i 0)
one_record P w zero l h = h
one_record P w (suc i) l h = absurd (omega (arith, l))

-- ---- the rows of a part
-- What is below k is below all numbers from k on.
pub below_more : (k n lo : ℕ) (m : PartRows) → k ≤ n → Below k lo m → Below n lo m
below_more k n lo m h b = record {
  its_begun = omega arith;
  its_idle = omega arith;
  its_done = omega arith;
  its_settled = omega arith;
  its_first = b.its_first;
}

-- The row that settles a part is written by then.
pub settled_below : (k lo : ℕ) (m : PartRows) → Below k lo m → settled_row k m < k + length (settling m)
settled_below k lo m b = by_option m.settled (λ t. rw t (omega arith)) (λ row f. rw f (omega (arith, rw f at b.its_settled)))

leaf_below : (k lo e done : ℕ) → 3 ≤ k → done ≤ k → e ≡ lo → Below (k + 2) lo (part_rows k (k + 1) done (Some 2) e)
leaf_below k lo e done h d q =
    record { its_begun = omega arith; its_idle = omega arith; its_done = omega arith; its_settled = omega arith; its_first = q }

-- The rows of a loop over a flow, and the row that its reset needs.
pub rounds_below : (k lo e : ℕ) (m : PartRows) → Below k lo m → let p = rounds_piece k e m in
    let n = k + length p.words in Below n lo p.part × (p.needs.later < n)
rounds_below k lo e m b =
    let d = settled_below (k + 3) lo m (below_more k (k + 3) lo m (omega arith) b) in (
      record { its_begun = omega arith; its_idle = omega arith; its_done = omega arith; its_settled = omega arith; its_first = b.its_first },
      omega arith,
    )

three_below : (k lo e : ℕ) → e ≡ lo → Below (k + 3) lo (part_rows k (k + 1) (k + 2) None e)
three_below k lo e q =
    record { its_begun = omega arith; its_idle = omega arith; its_done = omega arith; its_settled = omega arith; its_first = q }

join_below : (j : Joint) (k lo : ℕ) (m n : PartRows) → m.first ≡ lo
    → Below (k + length (join_piece j k m n).words) lo (join_piece j k m n).part
join_below seq k lo m n f = three_below k lo (join_piece seq k m n).part.first (omega (arith, f))
join_below and k lo m n f = three_below k lo (join_piece and k m n).part.first (omega (arith, f))
join_below or k lo m n f =
    rw (length-append, length-append)
    record { its_begun = omega arith; its_idle = omega arith; its_done = omega arith; its_settled = omega arith; its_first = f }
join_below xor k lo m n f = three_below k lo (join_piece xor k m n).part.first (omega (arith, f))

-- How many rows a joint has with its parts, from row k on.
pub join_length : (k : ℕ) (a b c : List ℕ) → k + length (a ++ (b ++ c)) ≡ k + length a + length b + length c
join_length k a b c = rw (length-append, length-append) (omega arith)

-- The rows that speak of a process are below the next free row, and its first event is the process's first.
pub plan_below : (p : Process) (k lo : ℕ) → Numbered p lo → 3 ≤ k → Below (k + length (plan_of p k).words) lo (plan_of p k).part
unfolding fold Numbered
plan_below (event n l) k lo h g = leaf_below k lo n k g (omega arith) h
plan_below (join j p q) k lo h g =
    let a = plan_of p k in
    let b = plan_of q (k + length a.words) in
    rw (join_length k a.words b.words (joined j k a b).words)
    (join_below j (k + length a.words + length b.words) lo a.part b.part (plan_below p k lo h.0 g).its_first)
plan_below (again n l) k lo h g = leaf_below k lo n 2 g (omega arith) h
plan_below (rounds p r l) k lo h g =
    let a = plan_of p k in
    rw (length-append a.words (rounds_piece (k + length a.words) r a.part).words)
    (below_more _ _ lo _ (omega arith) (rounds_below (k + length a.words) lo r a.part (plan_below p k lo h.0 g)).0)
