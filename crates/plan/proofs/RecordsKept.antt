-- The event records that the second pass writes: each keeps the sentences on event records, and its run is the bits that taking the event clears.
use mathlib.Core.Path.{◌≡◌, refl, sym, ◌∙◌, ap}
use mathlib.Core.Logic.{◌⊎◌, inl, inr}
use mathlib.Core.Bool.{Bool, true, false, ◌&&◌, or-false}
use mathlib.Core.List.{List, [], ◌∷◌, ◌++◌}
use Prim.Native.Nat.{ℕ, zero, suc, ◌+◌, ◌-◌, ◌≤◌, ◌<◌, ◌^◌}
use native.Mathlib.Omega.{arith}
use lib.Dec.{leb, ltb}
use lib.ListN.{length, get_or}
use borrow.Author.Tests.{ltb-true, leb-true, lt-ltb, le-leb, eq-eqb, ne_eqb}
use Rattle.base.proofs.Truth.{clash, is_false, and_l, and_r, and_i, agree}
use Rattle.process.specs.Process.{Joint, Process, event, join, again, rounds, owns, Event}
use Rattle.process.specs.Bits.{clears}
use Rattle.process.proofs.Numbered.{size, Numbered, interval, apart, reset_out}
use Rattle.process.proofs.Cleared.{size_positive}
use Rattle.process.proofs.Local.{closed}
use Rattle.layout.specs.Fields.{guard_of, first_of, count_of, event_record}
use Rattle.layout.specs.Sound.{Run}
use Rattle.plan.specs.Plan.{plan_of, guards_of, joined, joint_words, later_gate, earlier_gate}
use Rattle.layout.proofs.Decoded.{record_fields}
use Rattle.plan.proofs.Gates.{gates_below}
use Rattle.plan.proofs.Within.{records_cases, join_length, plan_below}
use Rattle.plan.proofs.Lengths.{records_length}

-- Is bit i in the run of the record w?
abbrev pub in_run : ℕ → ℕ → Bool
in_run w i = leb (first_of w) i && ltb i (first_of w + count_of w)

-- Of the record w of event e: its guard is below `bound`, it keeps the sentence on runs, it is a word, and its run is the bits that taking e clears.
pub record Kept (bound : ℕ) (cl : ℕ → ℕ → Bool) (w e : ℕ) : Type 0 where
  pub guard_below : guard_of w < bound
  pub its_run : Run w e
  pub small : w < 2 ^ 32
  pub its_bits : (i : ℕ) → in_run w i ≡ cl e i

-- The same of every record of a list of n, the first of which is event lo's.
abbrev pub Each : (ℕ → ℕ → Type 0) → ℕ → ℕ → List ℕ → Type 0
Each Q lo n rs = (i : ℕ) → i < n → Q (get_or rs i 0) (lo + i)

-- ---- one record
-- An event record whose numbers are in bounds.
record_kept : (bound : ℕ) (cl : ℕ → ℕ → Bool) (g first count e : ℕ) → g < bound → bound ≤ 16384 → first < 512 → count < 512
    → ((first ≡ 0) × (count ≡ 0)) ⊎ ((1 ≤ count) × (first + count ≡ e)) → ((i : ℕ) → (leb first i && ltb i (first + count)) ≡ cl e i)
    → Kept bound cl (event_record g first count) e
record_kept bound cl g first count e h b f c run bits =
    let r = record_fields g first count (omega arith) f c in
    record {
      guard_below = rw r.its_guard h;
      its_run = rw (r.its_first, r.its_count) run;
      small = r.small;
      its_bits = λ i. rw (r.its_first, r.its_count) (bits i);
    }

no_bits : (i : ℕ) → (leb 0 i && ltb i (0 + 0)) ≡ false
no_bits i = is_false (leb 0 i && ltb i (0 + 0)) (λ h. let z = ltb-true i (0 + 0) (and_r (leb 0 i) (ltb i (0 + 0)) h) in omega arith)

-- A leaf's record, as a list.
leaf_kept : (bound : ℕ) (cl : ℕ → ℕ → Bool) (g lo : ℕ) → ((e i : ℕ) → cl e i ≡ false) → g < bound → bound ≤ 16384
    → Each (Kept bound cl) lo 1 (event_record g 0 0 ∷ [])
leaf_kept bound cl g lo none h b zero k =
    record_kept bound cl g 0 0 (lo + 0) h b (omega arith) (omega arith) (inl (refl, refl)) (λ i. no_bits i ∙ sym (none (lo + 0) i))
leaf_kept bound cl g lo none h b (suc i) k = let z : ⊥ = omega arith in absurd z

-- ---- lists of records
each_join : (Q : ℕ → ℕ → Type 0) (lo m n : ℕ) (xs ys : List ℕ) → length xs ≡ m → Each Q lo m xs → Each Q (lo + m) n ys → Each Q lo (m + n) (xs ++ ys)
each_join Q lo m n xs ys z f g i h = records_cases (λ (w : ℕ). Q w (lo + i)) xs ys i m z (f i) (λ l. there (i - m) (omega (arith, l)) (omega (arith, l)))
  where
    there : (j : ℕ) → i ≡ m + j → j < n → Q (get_or ys j 0) (lo + i)
    there j e k = let a : lo + m + j ≡ lo + i = omega arith in rw (← a) (g j k)

-- A record is kept as well where the same bits are given in another way.
kept_to : (bound : ℕ) (cl dl : ℕ → ℕ → Bool) (w e : ℕ) → ((i : ℕ) → cl e i ≡ dl e i) → Kept bound cl w e → Kept bound dl w e
kept_to bound cl dl w e same k =
    record { guard_below = k.guard_below; its_run = k.its_run; small = k.small; its_bits = λ i. k.its_bits i ∙ same i }

-- A process clears nothing for an event that it does not own.
none_cleared : (p : Process) (e i : ℕ) → owns p e ≡ false → clears p e i ≡ false
none_cleared p e i h = is_false (clears p e i) (λ k. clash (closed p e i k).0 h)

owned : (p : Process) (lo i : ℕ) → Numbered p lo → i < size p → owns p (lo + i) ≡ true
owned p lo i m h = (interval p lo (lo + i) m).1 (omega arith)

-- Two neighbours: what taking an event of one of them clears there is all that it clears.
module _ (p q : Process) (lo : ℕ) (m : Numbered p lo) (n : Numbered q (lo + size p)) where
  first_clears : (j : Joint) (x i : ℕ) → x < size p → clears p (lo + x) i ≡ clears (join j p q) (lo + x) i
  unfolding clears
  first_clears j x i h =
      let o : owns q (lo + x) ≡ false = is_false (owns q (lo + x)) (apart p q lo m n (lo + x) (owned p lo x m h)) in
      rw (none_cleared q (lo + x) i o) (sym (or-false (clears p (lo + x) i)))

  second_clears : (j : Joint) (x i : ℕ) → x < size q → clears q (lo + size p + x) i ≡ clears (join j p q) (lo + size p + x) i
  unfolding clears
  second_clears j x i h =
      let o : owns p (lo + size p + x) ≡ false
      = is_false (owns p (lo + size p + x)) (λ a. apart p q lo m n (lo + size p + x) a (owned q (lo + size p) x n h)) in
      rw (none_cleared p (lo + size p + x) i o)

  -- The records of a joint: those of its parts.
  joint_kept : (bound : ℕ) (j : Joint) (xs ys : List ℕ) → length xs ≡ size p
      → Each (Kept bound (clears p)) lo (size p) xs → Each (Kept bound (clears q)) (lo + size p) (size q) ys
      → Each (Kept bound (clears (join j p q))) lo (size p + size q) (xs ++ ys)
  joint_kept bound j xs ys z f g =
      each_join (Kept bound (clears (join j p q))) lo (size p) (size q) xs ys z
      (λ x h. kept_to bound (clears p) (clears (join j p q)) (get_or xs x 0) (lo + x) (λ i. first_clears j x i h) (f x h))
      (λ x h. kept_to bound (clears q) (clears (join j p q)) (get_or ys x 0) (lo + size p + x) (λ i. second_clears j x i h) (g x h))

-- A loop over a flow, p, whose reset is event r.
module _ (p : Process) (r : ℕ) (l : Event) (lo : ℕ) (m : Numbered p lo) (b : r ≡ lo + size p) where
  body_clears : (x i : ℕ) → x < size p → clears p (lo + x) i ≡ clears (rounds p r l) (lo + x) i
  unfolding clears
  body_clears x i h = rw (ne_eqb r (lo + x) (λ e. omega arith))

  -- A reset clears its body's interval.
  reset_clears : (e i : ℕ) → e ≡ r → (leb lo i && ltb i e) ≡ clears (rounds p r l) e i
  unfolding clears
  reset_clears e i q =
      let o : owns p e ≡ false = ap (owns p) q ∙ reset_out p lo r m b in
      rw (eq-eqb r e (sym q), none_cleared p e i o, or-false (owns p i))
      (agree (leb lo i && ltb i e) (owns p i) to from)
    where
      to : (leb lo i && ltb i e) ≡ true → owns p i ≡ true
      to h =
          (interval p lo i m).1
          (leb-true lo i (and_l (leb lo i) (ltb i e) h), omega (arith, ltb-true i e (and_r (leb lo i) (ltb i e) h)))

      from : owns p i ≡ true → (leb lo i && ltb i e) ≡ true
      from h = let k = (interval p lo i m).0 h in and_i (le-leb lo i k.0) (lt-ltb i e (omega arith))

  -- The record of a reset, where `first` is its body's first event.
  reset_kept : (bound g first e : ℕ) → g < bound → bound ≤ 16384 → r < 512 → first ≡ lo → e ≡ r
      → Kept bound (clears (rounds p r l)) (event_record g first (r - first)) e
  reset_kept bound g first e h c d f q =
      let s = size_positive p in
      let z : first + (r - first) ≡ e = omega arith in
      record_kept bound (clears (rounds p r l)) g first (r - first) e h c (omega arith) (omega arith) (inr (omega arith, z))
      (λ i. rw (z, f) (reset_clears e i q))

  -- The records of a loop over a flow: its body's, and that of its reset.
  rounds_kept : (bound g first : ℕ) (xs : List ℕ) → g < bound → bound ≤ 16384 → r < 512 → first ≡ lo → length xs ≡ size p
      → Each (Kept bound (clears p)) lo (size p) xs
      → Each (Kept bound (clears (rounds p r l))) lo (size p + 1) (xs ++ (event_record g first (r - first) ∷ []))
  rounds_kept bound g first xs h c d f z each =
      each_join (Kept bound (clears (rounds p r l))) lo (size p) 1 xs (event_record g first (r - first) ∷ []) z
      (λ x k. kept_to bound (clears p) (clears (rounds p r l)) (get_or xs x 0) (lo + x) (λ i. body_clears x i k) (each x k)) last
    where
      last : Each (Kept bound (clears (rounds p r l))) (lo + size p) 1 (event_record g first (r - first) ∷ [])
      last zero k = reset_kept bound g first (lo + size p + 0) h c d f (omega arith)
      last (suc i) k = let z : ⊥ = omega arith in absurd z

-- ---- the records of a process
-- Each record of a process whose rows in the first pass begin at u, whose rows in the second begin at k and end at `bound` at the latest,
-- and which may go on by row m.
pub records_kept : (p : Process) (bound u k m lo : ℕ) → Numbered p lo → lo + size p ≤ 512 → 3 ≤ u → m < k
    → k + length (guards_of p u k m).words ≤ bound → bound ≤ 16384 → Each (Kept bound (clears p)) lo (size p) (guards_of p u k m).records
unfolding guards_of size Numbered clears
records_kept (event n l) bound u k m lo num few h b e c = leaf_kept bound (clears (event n l)) k lo (λ x i. refl) (omega arith) c
records_kept (join j p q) bound u k m lo num few h b e c =
    let v = u + length (plan_of p u).words in
    let o = joined j u (plan_of p u) (plan_of q v) in
    let ws = joint_words j m o.needs in
    let after = guards_of q v (k + length ws) (later_gate j k m) in
    let before = guards_of p u (k + length ws + length after.words) (earlier_gate j k m) in
    let z = join_length k ws after.words before.words in
    let gates = gates_below j k m (k + length ws) o.needs (omega (arith, b)) (omega arith) in
    joint_kept p q lo num.0 num.1 bound j before.records after.records
    (records_length p u (k + length ws + length after.words) (earlier_gate j k m))
    (records_kept p bound u (k + length ws + length after.words) (earlier_gate j k m) lo num.0 (omega arith) h (omega (arith, gates.its_earlier))
    (omega arith) c)
    (records_kept q bound v (k + length ws) (later_gate j k m) (lo + size p) num.1 (omega arith) (omega arith) gates.its_later (omega arith) c)
records_kept (again n l) bound u k m lo num few h b e c = leaf_kept bound (clears (again n l)) m lo (λ x i. refl) (omega arith) c
records_kept (rounds p r l) bound u k m lo num few h b e c =
    rounds_kept p r l lo num.0 num.1 bound k (plan_of p u).part.first (guards_of p u (suc k) m).records (omega arith) c (omega arith)
    (plan_below p u lo num.0 h).its_first (records_length p u (suc k) m)
    (records_kept p bound u (suc k) m lo num.0 (omega arith) h (omega arith) (omega arith) c)
