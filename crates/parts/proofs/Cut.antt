-- Two parts in postfix order, one after the other: where the second begins, and how many events a part has.
use mathlib.Core.Path.{◌≡◌, refl, ◌∙◌}
use mathlib.Core.List.{List, [], ◌∷◌, ◌++◌, reverse, reverse-append, append_assoc}
use Prim.Native.Nat.{ℕ, suc, ◌+◌, ◌-◌, ◌≤◌, ◌<◌}
use native.Mathlib.Omega.{arith}
use lib.ListN.{length, get_or, take, length-reverse}
use lib.Seq.{take-suc, take-length, length-take-le}
use borrow.Author.Tests.{ne_eqb}
use Rattle.std.proofs.lemmas.Grind.{common_steps}
use Rattle.process.specs.Process.{Joint, seq, and, or, xor, Process, event, join, again, rounds}
use Rattle.process.proofs.Numbered.{size}
use Rattle.postfix.specs.declared.Code.{Code}
use Rattle.postfix.specs.declared.Code.TheVariants.{Leaf, Again, Rounds, Seq, And, Or, Xor}
use Rattle.postfix.specs.Postfix.{postfix, joint_code}
use Rattle.parts.specs.code.Cuts.{wanted, left_over, second_begins, event_count}

-- ---- where the second part begins
none_wanted : (cs : List Code) → left_over cs 0 ≡ length cs
unfolding left_over
none_wanted [] = refl
none_wanted (c ∷ cs) = refl

some_wanted : (c : Code) (cs : List Code) (n : ℕ) → 0 < n → left_over (c ∷ cs) n ≡ left_over cs (wanted c n)
unfolding left_over
some_wanted c cs n h = rw (ne_eqb n 0 (λ e. omega arith))

joint_wants : (j : Joint) (n : ℕ) → wanted (joint_code j) n ≡ n + 1
joint_wants seq n = refl
joint_wants and n = refl
joint_wants or n = refl
joint_wants xor n = refl

pub wanted_few : (code : Code) (n : ℕ) → wanted code n ≤ n + 1
wanted_few Leaf n = omega arith
wanted_few Again n = omega arith
wanted_few Rounds n = omega arith
wanted_few Seq n = omega arith
wanted_few And n = omega arith
wanted_few Or n = omega arith
wanted_few Xor n = omega arith

-- The code that the rest ends with.
last_wanted : (before : List Code) (c : Code) (n : ℕ) → 0 < n → left_over (reverse (before ++ (c ∷ []))) n ≡ left_over (reverse before) (wanted c n)
last_wanted before c n h = rw (reverse-append before (c ∷ [])) (some_wanted c (reverse before) n h)

-- From the end of a part to its begin one part fewer is wanted.
over_part : (p : Process) (before : List Code) (n : ℕ) → 0 < n → left_over (reverse (before ++ postfix p)) n ≡ left_over (reverse before) (n - 1)
unfolding postfix
over_part (event e l) before n h = last_wanted before Leaf n h
over_part (again e l) before n h = last_wanted before Again n h
over_part (rounds p r l) before n h =
    rw (← append_assoc before (postfix p) (Rounds ∷ [])) (last_wanted (before ++ postfix p) Rounds n h ∙ over_part p before n h)
over_part (join j p q) before n h =
    let e : n + 1 - 1 ≡ n = omega arith in
    rw (← append_assoc before (postfix p) (postfix q ++ (joint_code j ∷ [])), ← append_assoc (before ++ postfix p) (postfix q) (joint_code j ∷ []))
    (last_wanted ((before ++ postfix p) ++ postfix q) (joint_code j) n h
    ∙ rw (joint_wants j n) (over_part q (before ++ postfix p) (n + 1) (omega arith) ∙ rw e (over_part p before n h)))

pub second_is : (before : List Code) (q : Process) → second_begins (before ++ postfix q) ≡ length before
unfolding second_begins
second_is before q = over_part q before 1 (omega arith) ∙ (none_wanted (reverse before) ∙ length-reverse before)

-- As the code goes, from the end: over the first i codes.
module _ (cs : List Code) (i n : ℕ) where
  pub from_end : i ≡ length cs → second_begins cs ≡ left_over (reverse (take i cs)) 1
  unfolding second_begins
  from_end e = rw (e, take-length cs)

  pub one_back : (k : ℕ) (x : Code) → i ≡ suc k → i ≤ length cs → 0 < n → left_over (reverse (take i cs)) n ≡ left_over (reverse (take k cs)) (wanted (get_or cs k x) n)
  one_back k x e l h = rw (e, take-suc cs k x (omega arith)) (last_wanted (take k cs) (get_or cs k x) n h)

  pub all_there : n ≡ 0 → i ≤ length cs → left_over (reverse (take i cs)) n ≡ i
  all_there e l = rw e (none_wanted (reverse (take i cs)) ∙ (length-reverse (take i cs) ∙ length-take-le i cs l))

  pub none_left : i ≡ 0 → left_over (reverse (take i cs)) n ≡ 0
  unfolding left_over
  none_left e = rw e

-- ---- how many events
count_append : (xs ys : List Code) → event_count (xs ++ ys) ≡ event_count xs + event_count ys
count_append xs ys = grind (arith, common_steps)

-- No more than there are codes.
pub few_events : (cs : List Code) → event_count cs ≤ length cs
few_events cs = grind (arith, common_steps)

no_event : (j : Joint) → event_count (joint_code j ∷ []) ≡ 0
no_event seq = refl
no_event and = refl
no_event or = refl
no_event xor = refl

pub count_is : (p : Process) → event_count (postfix p) ≡ size p
unfolding postfix size
count_is (event n l) = refl
count_is (again n l) = refl
count_is (rounds p r l) = count_append (postfix p) (Rounds ∷ []) ∙ omega (arith, count_is p)
count_is (join j p q) =
    count_append (postfix p) (postfix q ++ (joint_code j ∷ []))
    ∙ omega (arith, count_append (postfix q) (joint_code j ∷ []), no_event j, count_is p, count_is q)
