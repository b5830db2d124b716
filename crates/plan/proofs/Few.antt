-- How many rows the two passes write: at most 8 for each copy of a node.
use mathlib.Core.Path.{◌≡◌, refl}
use Rattle.std.specs.Prelude.{Some}
use mathlib.Core.Bool.{true, ◌&&◌}
use mathlib.Core.List.{List, [], ◌∷◌, ◌++◌}
use Prim.Native.Nat.{ℕ, zero, suc, ◌+◌, ◌-◌, ◌*◌, ◌≤◌}
use native.Mathlib.Nat.{suc-mul}
use native.Mathlib.Omega.{arith}
use lib.Dec.{leb}
use lib.ListN.{length, length-append}
use borrow.Author.Tests.{leb-true}
use Rattle.base.proofs.Truth.{and_l, and_r}
use Rattle.diagram.specs.Tree.{Flow, flow, Children, none, next, Child, plain, loop, group, replicator, Member, leaf, inner, Members, end, also}
use Rattle.diagram.specs.Count.{child_events, member_events, flow_copies, children_copies, child_copies, member_copies, members_copies}
use Rattle.diagram.specs.Sizes.{flow_sized, children_sized, child_sized, member_sized, members_sized}
use Rattle.process.specs.Process.{Joint, seq, and, or, xor, Process, event, join, again, rounds}
use Rattle.process.specs.Expand.{joint, copies, expand, flow_process, children_process, child_process, loop_process, member_process, members_process}
use Rattle.layout.specs.Fields.{both_row}
use Rattle.plan.specs.Pieces.{settling, rounds_piece}
use Rattle.postfix.specs.Fold.{fold}
use Rattle.plan.specs.Plan.{Plan, joined, joint_words, later_gate, earlier_gate, plan_of, guards_of, middle, rows_of}
use Rattle.plan.specs.declared.PartRows.{PartRows}
use Rattle.plan.specs.declared.Needs.{Needs}

-- ---- how many rows a process has
-- 1 where no row says yet of the part that it is complete or not begun: an `or` or a loop over it writes that row.
abbrev lazy_joint : Joint → ℕ
lazy_joint seq = 1
lazy_joint and = 1
lazy_joint or = 0
lazy_joint xor = 1

unfoldable lazy : Process → ℕ
lazy (event n l) = 0
lazy (join j p q) = lazy_joint j
lazy (again n l) = 0
lazy (rounds p r l) = 0

-- A joint's own rows in both passes, where an `or` writes a and b rows to settle its parts.
abbrev own : Joint → ℕ → ℕ → ℕ
own seq a b = 5
own and a b = 3
own or a b = 4 + (a + b)
own xor a b = 5

-- The rows of a process in both passes, at most.
unfoldable weight : Process → ℕ
unfolding lazy
weight (event n l) = 3
weight (join j p q) = weight p + (weight q + own j (lazy p) (lazy q))
weight (again n l) = 2
weight (rounds p r l) = weight p + (4 + lazy p)

-- ---- the row that settles a part
-- None is written where there is one already.
settling_none : (m : PartRows) (row : ℕ) → m.settled ≡ Some row → length (settling m) ≤ 0
settling_none m row h = rw h (omega arith)

join_settling : (j : Joint) (k : ℕ) (a b : Plan) → length (settling (joined j k a b).part) ≤ lazy_joint j
join_settling seq k a b = omega arith
join_settling and k a b = omega arith
join_settling or k a b = settling_none (joined or k a b).part _ refl
join_settling xor k a b = omega arith

-- One is written at most, and only for a lazy part.
settling_few : (p : Process) (k : ℕ) → length (settling (plan_of p k).part) ≤ lazy p
unfolding fold lazy
settling_few (event n l) k = omega arith
settling_few (join j p q) k = join_settling j k (plan_of p k) (plan_of q (k + length (plan_of p k).words))
settling_few (again n l) k = omega arith
settling_few (rounds p r l) k = settling_none (plan_of (rounds p r l) k).part _ refl

-- ---- the rows of both passes
joint_few : (j : Joint) (k m : ℕ) (n : Needs) (a b : Plan) (s t : ℕ) → length (settling a.part) ≤ s → length (settling b.part) ≤ t
    → length (joined j k a b).words + length (joint_words j m n) ≤ own j s t
joint_few seq k m n a b s t f g = omega arith
joint_few and k m n a b s t f g = omega arith
joint_few or k m n a b s t f g = rw (length-append, length-append) (omega arith)
joint_few xor k m n a b s t f g = omega arith

-- The rows of a joint's parts and its own, a and f being of the one part, b and e of the other.
joint_lists : (a b c d e f : List ℕ) (x y z : ℕ) → length a + length f ≤ x → length b + length e ≤ y → length c + length d ≤ z
    → length (a ++ (b ++ c)) + length (d ++ (e ++ f)) ≤ x + (y + z)
joint_lists a b c d e f x y z h g i =
    omega (arith, length-append a (b ++ c), length-append b c, length-append d (e ++ f), length-append e f)

-- The rows of a process, wherever the passes stand.
both_passes : (p : Process) (k u d m : ℕ) → length (plan_of p k).words + length (guards_of p u d m).words ≤ weight p
unfolding fold guards_of weight
both_passes (event n l) k u d m = omega arith
both_passes (join j p q) k u d m =
    let a = plan_of p k in
    let b = plan_of q (k + length a.words) in
    let v = u + length (plan_of p u).words in
    let c = joined j u (plan_of p u) (plan_of q v) in
    let ws = joint_words j m c.needs in
    let e = guards_of q v (d + length ws) (later_gate j d m) in
    let f = guards_of p u (d + length ws + length e.words) (earlier_gate j d m) in
    joint_lists a.words b.words (joined j k a b).words ws e.words f.words (weight p) (weight q) (own j (lazy p) (lazy q))
    (both_passes p k u (d + length ws + length e.words) (earlier_gate j d m))
    (both_passes q (k + length a.words) v (d + length ws) (later_gate j d m))
    (joint_few j k m c.needs a b (lazy p) (lazy q) (settling_few p k) (settling_few q (k + length a.words)))
both_passes (again n l) k u d m = omega arith
both_passes (rounds p r l) k u d m =
    let e = length-append (plan_of p k).words (rounds_piece (k + length (plan_of p k).words) r (plan_of p k).part).words in
    let h = both_passes p k u (suc d) m in
    let s = settling_few p k in
    omega arith

-- ---- the joints of a group
-- What a joint adds for a part before it: only an `or` writes the row that settles the part.
abbrev extra : Joint → ℕ → ℕ
extra seq n = 0
extra and n = 0
extra or n = n
extra xor n = 0

-- The rows of the members so far, with the one that the next joint adds for them.
unfoldable load : Joint → Process → ℕ
load j p = weight p + extra j (lazy p)

weight_load : (j : Joint) (p : Process) → weight p ≤ load j p
unfolding load
weight_load j p = omega arith

load_some : (j : Joint) (p : Process) → load j p ≤ weight p + lazy p
unfolding load
load_some seq p = omega arith
load_some and p = omega arith
load_some or p = omega arith
load_some xor p = omega arith

lazy_one : (p : Process) → lazy p ≤ 1
unfolding lazy
lazy_one (event n l) = omega arith
lazy_one (join seq p q) = omega arith
lazy_one (join and p q) = omega arith
lazy_one (join or p q) = omega arith
lazy_one (join xor p q) = omega arith
lazy_one (again n l) = omega arith
lazy_one (rounds p r l) = omega arith

-- One member more: its rows, at most one that settles it, and at most 5 of the joint.
load_join : (j : Joint) (p q : Process) → load j (join j p q) ≤ load j p + (weight q + lazy q + 5)
unfolding load weight
load_join seq p q = omega arith
load_join and p q = omega arith
load_join or p q = omega arith
load_join xor p q = omega arith

-- The copies that a replicator makes, each of which has at most 8 * n rows with those that join it.
copies_load : (j : Joint) (copy : ℕ → Process) (n : ℕ) → ((v : ℕ) → weight (copy v) + lazy (copy v) + 5 ≤ 8 * n) → (v : ℕ)
    → load j (copies j copy v) + 5 ≤ 8 * (suc v * n)
copies_load j copy n h zero = omega (arith, load_some j (copy 0), h 0)
copies_load j copy n h (suc v) =
    let a : suc (suc v) * n ≡ suc v * n + n = suc-mul (suc v) n in
    omega (arith, load_join j (copies j copy v) (copy (suc v)), copies_load j copy n h v, h (suc v))

-- ---- diagrams
mutual
  unfolding flow_process flow_copies flow_sized weight lazy

  -- a flow has a copy of its own, which has no rows: 8 to spare besides the 5 of a joint
  flow_few : (f : Flow) → flow_sized f ≡ true → (vs : List ℕ) (e : ℕ) → weight (flow_process f vs e) + 13 ≤ 8 * flow_copies f
  flow_few (flow n ps sw c r cs) h vs e =
      let a = child_few c (and_l (child_sized c) (children_sized cs) h) vs e in
      let b = children_few cs (and_r (child_sized c) (children_sized cs) h) vs (child_process c vs e) (e + child_events c) in
      omega arith

  -- the children after those before
  children_few : (cs : Children) → children_sized cs ≡ true → (vs : List ℕ) (before : Process) (e : ℕ)
      → weight (children_process cs vs before e) ≤ weight before + 8 * children_copies cs
  children_few none h vs before e = omega arith
  children_few (next c r cs) h vs before e =
      let a = child_few c (and_l (child_sized c) (children_sized cs) h) vs e in
      let b = children_few cs (and_r (child_sized c) (children_sized cs) h) vs (join seq before (child_process c vs e)) (e + child_events c) in
      omega arith

  -- with the rows of the joint before the child
  child_few : (c : Child) → child_sized c ≡ true → (vs : List ℕ) (e : ℕ) → weight (child_process c vs e) + 5 ≤ 8 * child_copies c
  child_few (plain m) h vs e = let a = member_few m h vs e in omega arith
  child_few (loop m) h vs e = loop_few m h vs e
  child_few (group y a b ms) h vs e =
      let k = and_r (member_sized a) (member_sized b && members_sized ms) h in
      let A = member_few a (and_l (member_sized a) (member_sized b && members_sized ms) h) vs e in
      let B = member_few b (and_l (member_sized b) (members_sized ms) k) vs (e + member_events a) in
      let p = member_process a vs e in
      let q = member_process b vs (e + member_events a) in
      let M = members_few ms (and_r (member_sized b) (members_sized ms) k) (joint y) vs (join (joint y) p q) (e + member_events a + member_events b) in
      omega (arith, weight_load (joint y) (child_process (group y a b ms) vs e), load_join (joint y) p q, load_some (joint y) p)
  child_few (replicator y par n m) h vs e =
      let g = leb-true 1 n (and_l (leb 1 n) (leb n 16) (and_l (leb 1 n && leb n 16) (member_sized m) h)) in
      let z : suc (n - 1) ≡ n = omega arith in
      let copy : ℕ → Process = λ v. member_process m (vs ++ (v ∷ [])) (e + v * member_events m) in
      let a = copies_load (joint y) copy (member_copies m) (λ v. member_few m (and_r (leb 1 n && leb n 16) (member_sized m) h) _ _) (n - 1) in
      omega (arith, rw z at a, weight_load (joint y) (copies (joint y) copy (n - 1)))

  loop_few : (m : Member) → member_sized m ≡ true → (vs : List ℕ) (e : ℕ) → weight (loop_process m vs e) + 5 ≤ 8 * (1 + member_copies m)
  loop_few (leaf n) h vs e = omega arith
  loop_few (inner f) h vs e = omega (arith, flow_few f h vs e, lazy_one (flow_process f vs e))

  -- with the rows of the joint before the member
  member_few : (m : Member) → member_sized m ≡ true → (vs : List ℕ) (e : ℕ)
      → weight (member_process m vs e) + lazy (member_process m vs e) + 5 ≤ 8 * member_copies m
  member_few (leaf n) h vs e = omega arith
  member_few (inner f) h vs e = omega (arith, flow_few f h vs e, lazy_one (flow_process f vs e))

  -- the members after those before
  members_few : (ms : Members) → members_sized ms ≡ true → (j : Joint) (vs : List ℕ) (before : Process) (e : ℕ)
      → load j (members_process ms j vs before e) ≤ load j before + 8 * members_copies ms
  members_few end h j vs before e = omega arith
  members_few (also m ms) h j vs before e =
      let a = member_few m (and_l (member_sized m) (members_sized ms) h) vs e in
      let b = members_few ms (and_r (member_sized m) (members_sized ms) h) j vs (join j before (member_process m vs e)) (e + member_events m) in
      omega (arith, load_join j before (member_process m vs e))

-- The table of a diagram has at most 8 rows for each copy of a node.
pub rows_few : (d : Flow) → flow_sized d ≡ true → length (rows_of (expand d)) ≤ 8 * flow_copies d
rows_few d h =
    let p = expand d in
    let last = both_row (plan_of p 3).part.done (plan_of p 3).part.done ∷ [] in
    let lower = (guards_of p 3 (middle p) 2).words in
    omega (
      arith,
      length-append (plan_of p 3).words (lower ++ last),
      length-append lower last,
      both_passes p 3 3 (middle p) 2,
      flow_few d h [] 0,
    )
