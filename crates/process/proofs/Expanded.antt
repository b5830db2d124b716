-- The process of a diagram: its events are numbered, and the solid child rule leaves no member with an empty run.
use mathlib.Core.Path.{◌≡◌, refl, sym, ap}
use mathlib.Core.Logic.{◌⊎◌, inl, inr}
use mathlib.Core.Bool.{Bool, true, false, ◌&&◌, false≢true}
use mathlib.Core.List.{List, [], ◌∷◌, ◌++◌, nil≢cons}
use Prim.Native.Nat.{ℕ, zero, suc, ◌+◌, ◌-◌, ◌*◌}
use native.Mathlib.Nat.{suc-mul, zero-mul}
use native.Mathlib.Omega.{arith}
use lib.Dec.{leb}
use borrow.Author.Tests.{leb-true}
use Rattle.diagram.specs.Tree.{Flow, flow, Children, none, next, Child, plain, loop, group, replicator, Member, leaf, inner, Members, end, also}
use Rattle.diagram.specs.Count.{flow_events, children_events, child_events, loop_events, member_events, members_events}
use Rattle.diagram.specs.Sizes.{flow_sized, children_sized, child_sized, member_sized, members_sized}
use Rattle.diagram.specs.Flows.{may_be_solid, none_solid, one_solid, solid, each_flow, children_flows, child_flows, member_flows, members_flows}
use Rattle.base.proofs.Truth.{and_l, and_r}
use Rattle.process.specs.Process.{Event, Joint, seq, Process, event, join, again, rounds}
use Rattle.process.specs.Expand.{leaf_copy, reset_of, joint, copies, flow_process, children_process, child_process, loop_process, member_process, members_process}
use Rattle.process.specs.Runs.{Whole}
use Rattle.process.proofs.Seen.{Nonempty}
use Rattle.process.proofs.Numbered.{size, Numbered}
use Rattle.process.proofs.Choices.{Choices, Fit, seq_nonempty, join_fit}

-- Its events are those from `lo` up to, and not with, `hi`.
pub record Laid (p : Process) (lo hi : ℕ) : Type 0 where
  pub numbered : Numbered p lo
  pub end : lo + size p ≡ hi

laid_to : {p : Process} {lo m n : ℕ} → Laid p lo m → m ≡ n → Laid p lo n
laid_to P e = rw (← e) P

laid_join : (j : Joint) {p q : Process} {lo e hi : ℕ} → Laid p lo e → Laid q e hi → Laid (join j p q) lo hi
unfolding Numbered size
laid_join j P Q =
    let i = P.end in
    let k = Q.end in
    record { numbered = (P.numbered, rw (← i) at Q.numbered); end = omega arith }

laid_rounds : {p : Process} {lo r : ℕ} (l : Event) → Laid p lo r → Laid (rounds p r l) lo (r + 1)
unfolding Numbered size
laid_rounds l P =
    let i = P.end in
    record { numbered = (P.numbered, sym i); end = omega arith }

laid_leaf : (e : ℕ) (l : Event) → Laid (event e l) e (e + 1) × Laid (again e l) e (e + 1)
unfolding Numbered size
laid_leaf e l = (record { numbered = refl; end = refl }, record { numbered = refl; end = refl })

copies_laid : (j : Joint) (copy : ℕ → Process) (lo k : ℕ) → ((v : ℕ) → Laid (copy v) (lo + v * k) (lo + v * k + k)) → (v : ℕ)
    → Laid (copies j copy v) lo (lo + suc v * k)
copies_laid j copy lo k f zero =
    let a : 0 * k ≡ 0 = zero-mul k in
    let b : lo + 0 * k ≡ lo = omega arith in
    laid_to (rw b at (f 0)) (omega arith)
copies_laid j copy lo k f (suc v) =
    let a : suc (suc v) * k ≡ suc v * k + k = suc-mul (suc v) k in
    laid_to (laid_join j (copies_laid j copy lo k f v) (f (suc v))) (omega arith)

mutual
  unfolding flow_process flow_events flow_sized

  pub flow_laid : (f : Flow) → flow_sized f ≡ true → (vs : List ℕ) (e : ℕ) → Laid (flow_process f vs e) e (e + flow_events f)
  flow_laid (flow n ps sw c r cs) h vs e =
      laid_to (children_laid cs (and_r (child_sized c) (children_sized cs) h) vs _ _ _ (child_laid c (and_l (child_sized c) (children_sized cs) h) vs e)) (omega arith)

  pub children_laid : (cs : Children) → children_sized cs ≡ true → (vs : List ℕ) (p : Process) (lo e : ℕ) → Laid p lo e
      → Laid (children_process cs vs p e) lo (e + children_events cs)
  children_laid none h vs p lo e P = laid_to P (omega arith)
  children_laid (next c r cs) h vs p lo e P =
      laid_to (children_laid cs (and_r (child_sized c) (children_sized cs) h) vs _ _ _ (laid_join seq P (child_laid c (and_l (child_sized c) (children_sized cs) h) vs e))) (omega arith)

  pub child_laid : (c : Child) → child_sized c ≡ true → (vs : List ℕ) (e : ℕ) → Laid (child_process c vs e) e (e + child_events c)
  child_laid (plain m) h vs e = member_laid m h vs e
  child_laid (loop m) h vs e = loop_laid m h vs e
  child_laid (group y a b ms) h vs e =
      let k = and_r (member_sized a) (member_sized b && members_sized ms) h in
      let A = member_laid a (and_l (member_sized a) (member_sized b && members_sized ms) h) vs e in
      let B = member_laid b (and_l (member_sized b) (members_sized ms) k) vs (e + member_events a) in
      laid_to (members_laid ms (and_r (member_sized b) (members_sized ms) k) (joint y) vs _ _ _ (laid_join (joint y) A B)) (omega arith)
  child_laid (replicator y par n m) h vs e =
      let g = leb-true 1 n (and_l (leb 1 n) (leb n 16) (and_l (leb 1 n && leb n 16) (member_sized m) h)) in
      let z : suc (n - 1) ≡ n = omega arith in
      laid_to (copies_laid (joint y) _ e (member_events m) (λ v. member_laid m (and_r (leb 1 n && leb n 16) (member_sized m) h) (vs ++ (v ∷ [])) (e + v * member_events m)) (n - 1))
      (ap (λ (i : ℕ). e + i * member_events m) z)

  pub loop_laid : (m : Member) → member_sized m ≡ true → (vs : List ℕ) (e : ℕ) → Laid (loop_process m vs e) e (e + loop_events m)
  loop_laid (leaf n) h vs e = (laid_leaf e (leaf_copy n vs)).1
  loop_laid (inner f) h vs e = laid_to (laid_rounds (reset_of f vs) (flow_laid f h vs e)) (omega arith)

  pub member_laid : (m : Member) → member_sized m ≡ true → (vs : List ℕ) (e : ℕ) → Laid (member_process m vs e) e (e + member_events m)
  member_laid (leaf n) h vs e = (laid_leaf e (leaf_copy n vs)).0
  member_laid (inner f) h vs e = flow_laid f h vs e

  pub members_laid : (ms : Members) → members_sized ms ≡ true → (j : Joint) (vs : List ℕ) (p : Process) (lo e : ℕ) → Laid p lo e
      → Laid (members_process ms j vs p e) lo (e + members_events ms)
  members_laid end h j vs p lo e P = laid_to P (omega arith)
  members_laid (also m ms) h j vs p lo e P =
      laid_to (members_laid ms (and_r (member_sized m) (members_sized ms) h) j vs _ _ _ (laid_join j P (member_laid m (and_l (member_sized m) (members_sized ms) h) vs e))) (omega arith)

-- The solid child rule makes every member's run nonempty.
copies_fit : (j : Joint) (copy : ℕ → Process) → ((v : ℕ) → Fit (copy v)) → (v : ℕ) → Fit (copies j copy v)
copies_fit j copy f zero = f 0
copies_fit j copy f (suc v) = join_fit j (copies j copy v) (copy (suc v)) (copies_fit j copy f v) (f (suc v))

event_fit : (e : ℕ) (l : Event) → Fit (event e l)
unfolding Choices Whole
event_fit e l = record { choices = tt; nonempty = λ h. nil≢cons h }

again_choices : (e : ℕ) (l : Event) → Choices (again e l)
unfolding Choices
again_choices e l = tt

seq_choices : (p q : Process) → Choices p → Choices q → Choices (join seq p q)
unfolding Choices
seq_choices p q C D = (C, D)

rounds_choices : (p : Process) (r : ℕ) (l : Event) → Choices p → Choices (rounds p r l)
unfolding Choices
rounds_choices p r l C = C

-- of a child and those after it exactly one is solid: the child's own process has no empty run, or the solid one is still to come
solid_here : (c : Child) (r : Bool) (cs : Children) (p : Process) → (may_be_solid c ≡ true → Nonempty p) → one_solid (next c r cs) ≡ true
    → Nonempty p ⊎ (one_solid cs ≡ true)
solid_here c true cs p f h = inl (f (and_l (may_be_solid c) (none_solid cs) h))
solid_here c false cs p f h = inr h

solid_next : (c : Child) (r : Bool) (cs : Children) (p q : Process) → (may_be_solid c ≡ true → Nonempty q) → Nonempty p ⊎ (one_solid (next c r cs) ≡ true)
    → Nonempty (join seq p q) ⊎ (one_solid cs ≡ true)
solid_next c r cs p q f (inl n) = inl (seq_nonempty p q (inl n))
solid_next c r cs p q f (inr h) = go (solid_here c r cs q f h)
  where
    go : Nonempty q ⊎ (one_solid cs ≡ true) → Nonempty (join seq p q) ⊎ (one_solid cs ≡ true)
    go (inl n) = inl (seq_nonempty p q (inr n))
    go (inr k) = inr k

as_child : {p : Process} {b : Bool} → Fit p → Choices p × (b ≡ true → Nonempty p)
as_child F = (F.choices, λ z. F.nonempty)

mutual
  unfolding flow_process each_flow

  pub flow_fit : (f : Flow) → each_flow f solid ≡ true → (vs : List ℕ) (e : ℕ) → Fit (flow_process f vs e)
  flow_fit (flow n ps sw c r cs) h vs e =
      let k = and_r (one_solid (next c r cs)) (child_flows c solid && children_flows cs solid) h in
      let i = child_fit c (and_l (child_flows c solid) (children_flows cs solid) k) vs e in
      children_fit cs (and_r (child_flows c solid) (children_flows cs solid) k) vs _ _ i.0
      (solid_here c r cs _ i.1 (and_l (one_solid (next c r cs)) (child_flows c solid && children_flows cs solid) h))

  pub children_fit : (cs : Children) → children_flows cs solid ≡ true → (vs : List ℕ) (p : Process) (e : ℕ) → Choices p → Nonempty p ⊎ (one_solid cs ≡ true)
      → Fit (children_process cs vs p e)
  children_fit none h vs p e C (inl n) = record { choices = C; nonempty = n }
  children_fit none h vs p e C (inr n) = absurd (false≢true n)
  children_fit (next c r cs) h vs p e C n =
      let i = child_fit c (and_l (child_flows c solid) (children_flows cs solid) h) vs e in
      children_fit cs (and_r (child_flows c solid) (children_flows cs solid) h) vs _ _ (seq_choices p _ C i.0) (solid_next c r cs p _ i.1 n)

  -- a child's choices, and that it has no empty run where it may be solid
  pub child_fit : (c : Child) → child_flows c solid ≡ true → (vs : List ℕ) (e : ℕ)
      → Choices (child_process c vs e) × (may_be_solid c ≡ true → Nonempty (child_process c vs e))
  child_fit (plain m) h vs e = as_child (member_fit m h vs e)
  child_fit (loop m) h vs e = (loop_choices m h vs e, λ k. absurd (false≢true k))
  child_fit (group y a b ms) h vs e =
      let k = and_r (member_flows a solid) (member_flows b solid && members_flows ms solid) h in
      let A = member_fit a (and_l (member_flows a solid) (member_flows b solid && members_flows ms solid) h) vs e in
      let B = member_fit b (and_l (member_flows b solid) (members_flows ms solid) k) vs (e + member_events a) in
      as_child (members_fit ms (and_r (member_flows b solid) (members_flows ms solid) k) (joint y) vs _ _ (join_fit (joint y) _ _ A B))
  child_fit (replicator y par n m) h vs e = as_child (copies_fit (joint y) _ (λ v. member_fit m h (vs ++ (v ∷ [])) (e + v * member_events m)) (n - 1))

  loop_choices : (m : Member) → member_flows m solid ≡ true → (vs : List ℕ) (e : ℕ) → Choices (loop_process m vs e)
  loop_choices (leaf n) h vs e = again_choices e (leaf_copy n vs)
  loop_choices (inner f) h vs e = rounds_choices _ _ _ (flow_fit f h vs e).choices

  pub member_fit : (m : Member) → member_flows m solid ≡ true → (vs : List ℕ) (e : ℕ) → Fit (member_process m vs e)
  member_fit (leaf n) h vs e = event_fit e (leaf_copy n vs)
  member_fit (inner f) h vs e = flow_fit f h vs e

  pub members_fit : (ms : Members) → members_flows ms solid ≡ true → (j : Joint) (vs : List ℕ) (p : Process) (e : ℕ) → Fit p → Fit (members_process ms j vs p e)
  members_fit end h j vs p e F = F
  members_fit (also m ms) h j vs p e F =
      members_fit ms (and_r (member_flows m solid) (members_flows ms solid) h) j vs _ _ (join_fit j p _ F (member_fit m (and_l (member_flows m solid) (members_flows ms solid) h) vs e))
