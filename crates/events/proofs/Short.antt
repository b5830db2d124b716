-- The events of an accepted text are short: a name of at least 1 and at most 24 bytes, all of them a word's, and at most 3 values, each below 16.
use mathlib.Core.Path.{◌≡◌, refl}
use mathlib.Core.Bool.{Bool, true, false, ◌&&◌, false≢true}
use mathlib.Core.List.{List, [], ◌∷◌, ◌++◌}
use Prim.Native.Nat.{ℕ, zero, suc, ◌+◌, ◌*◌, ◌-◌, ◌≤◌, ◌<◌}
use native.Mathlib.Omega.{arith}
use lib.Dec.{leb}
use lib.ListN.{length, get_or, length-append}
use borrow.Author.Tests.{leb-true}
use Rattle.base.proofs.Truth.{and_l, and_r}
use Rattle.diagram.specs.Tree.{Name, Flow, flow, Children, none, next, Child, plain, loop, group, replicator, Member, leaf, inner, Members, end, also}
use Rattle.diagram.specs.Names.{equal, same, new}
use Rattle.diagram.specs.Sizes.{flow_sized, children_sized, child_sized, member_sized, members_sized}
use Rattle.diagram.specs.Parameters.{surrounded, flow_parameters, children_parameters, child_parameters, member_parameters, members_parameters}
use Rattle.tokens.specs.Classes.{worded}
use Rattle.tokens.specs.Words.{keywords, lettered, every, short}
use Rattle.tokens.specs.Token.{named}
use Rattle.grammar.specs.Named.{all_named, flow_named, children_named, child_named, member_named, members_named}
use Rattle.reading.specs.Accepted.{Accepted}
use Rattle.process.specs.Process.{Event, Joint, seq, Process, event, join, again, rounds, events}
use Rattle.diagram.specs.Count.{member_events}
use Rattle.process.specs.Expand.{reset_of, joint, copies, expand, flow_process, children_process, child_process, loop_process, member_process, members_process}

-- Something holds of each element: said once for values and for events.
abbrev pub Each : {A : Type 0} → (A → Type 0) → List A → Type 0
Each P [] = Unit {0}
Each P (x ∷ xs) = P x × Each P xs

pub each_append : {A : Type 0} (P : A → Type 0) (xs ys : List A) → Each P xs → Each P ys → Each P (xs ++ ys)
each_append P [] ys h k = k
each_append P (x ∷ xs) ys h k = (h.0, each_append P xs ys h.1 k)

pub each_at : {A : Type 0} (P : A → Type 0) (xs : List A) (i : ℕ) (x : A) → Each P xs → i < length xs → P (get_or xs i x)
each_at P [] i x h l = let z : ⊥ = omega arith in absurd z
each_at P (y ∷ ys) zero x h l = h.0
each_at P (y ∷ ys) (suc i) x h l = each_at P ys i x h.1 (omega arith)

-- Sizes are at most 16, and the values of a replicator are below its size.
abbrev pub Small : ℕ → Type 0
Small v = v < 16

pub record Short (l : Event) : Type 0 where
  pub some : 1 ≤ length l.name
  pub name : length l.name ≤ 24
  pub word : (lettered l.name && every worded l.name) ≡ true
  pub few : length l.values ≤ 3
  pub small : Each Small l.values

-- The events of a process, split as the process is joined.
abbrev AllShort : Process → Type 0
AllShort p = Each Short (events p)

short_one : (n : ℕ) (l : Event) → Short l → AllShort (event n l) × AllShort (again n l)
unfolding events
short_one n l L = ((L, tt), (L, tt))

short_join : (j : Joint) (p q : Process) → AllShort p → AllShort q → AllShort (join j p q)
unfolding events
short_join j p q P Q = each_append Short (events p) (events q) P Q

short_rounds : (p : Process) (r : ℕ) (l : Event) → AllShort p → Short l → AllShort (rounds p r l)
unfolding events
short_rounds p r l P L = each_append Short (events p) (l ∷ []) P (L, tt)

copies_short : (j : Joint) (copy : ℕ → Process) (last : ℕ) → ((v : ℕ) → v ≤ last → AllShort (copy v)) → AllShort (copies j copy last)
copies_short j copy zero f = f 0 (omega arith)
copies_short j copy (suc v) f = short_join j (copies j copy v) (copy (suc v)) (copies_short j copy v (λ u h. f u (omega arith))) (f (suc v) (omega arith))

-- The values of a node's copy: one for each replicator around the node.
record Valued (around : List Name) (vs : List ℕ) : Type 0 where
  each : length vs ≡ length around
  small : Each Small vs

valued_more : {around : List Name} {vs : List ℕ} (par : Name) (v : ℕ) → Valued around vs → v < 16 → Valued (around ++ (par ∷ [])) (vs ++ (v ∷ []))
valued_more {around} {vs} par v w h =
    let e = w.each in
    record { each = simp length-append (omega arith); small = each_append Small vs (v ∷ []) w.small (h, tt) }

-- The tests that bound an event: those of the node's names, of its sizes and of its parameters are passed.
record Passed (a b c : Bool) : Type 0 where
  names : a ≡ true
  sizes : b ≡ true
  parameters : c ≡ true

-- What two parts pass together, each of them passes. Where a test says nothing of the first part, `true` stands for it.
parts : (a b c x y z : Bool) → Passed (a && x) (b && y) (c && z) → Passed a b c × Passed x y z
parts a b c x y z t = (
  record { names = and_l a x t.names; sizes = and_l b y t.sizes; parameters = and_l c z t.parameters },
  record { names = and_r a x t.names; sizes = and_r b y t.sizes; parameters = and_r c z t.parameters },
)

lettered_some : (n : Name) → lettered n ≡ true → 1 ≤ length n
lettered_some [] h = absurd (false≢true h)
lettered_some (b ∷ bs) h = omega arith

-- A leaf's event, or a reset: a name is short, and no more than 3 replicators surround a node.
event_short : {around : List Name} {vs : List ℕ} (r : Bool) (n : Name) → Valued around vs → named keywords n ≡ true → surrounded around ≡ true
    → Short record { reset = r; name = n; values = vs }
unfolding named
event_short {around} r n w h k =
    let e = w.each in
    record {
      some = lettered_some n (and_l (lettered n) (every worded n) (and_l (lettered n && every worded n) _ h));
      word = and_l (lettered n && every worded n) _ h;
      name = leb-true (length n) 24 (and_l (short n) _ (and_r (lettered n && every worded n) _ h));
      few = omega (arith, leb-true (length around) 3 k);
      small = w.small;
    }

reset_short : {around : List Name} {vs : List ℕ} (f : Flow) → Valued around vs → Passed (flow_named keywords f) (flow_sized f) (flow_parameters f around)
    → Short (reset_of f vs)
unfolding flow_named flow_parameters
reset_short {around} (flow n ps sw c r cs) w t =
    event_short true n w (and_l (named keywords n) (all_named keywords ps) (and_l _ _ t.names)) (and_l (surrounded around) (equal same ps around) (and_l _ _ t.parameters))

-- Each copy of a node has short events, by the shape of `flow_process`: `w` gives the values so far, `t` the tests passed.
mutual
  unfolding flow_process flow_named flow_sized flow_parameters

  flow_short : {around : List Name} {vs : List ℕ} (f : Flow) (e : ℕ) → Valued around vs → Passed (flow_named keywords f) (flow_sized f) (flow_parameters f around)
      → AllShort (flow_process f vs e)
  flow_short {around} (flow n ps sw c r cs) e w t =
      let i = parts (named keywords n && all_named keywords ps) true (surrounded around && equal same ps around) _ _ _ t in
      let k = parts _ _ _ _ _ _ i.1 in
      children_short cs _ _ w k.1 (child_short c e w k.0)

  children_short : {around : List Name} {vs : List ℕ} (cs : Children) (p : Process) (e : ℕ) → Valued around vs
      → Passed (children_named keywords cs) (children_sized cs) (children_parameters cs around) → AllShort p → AllShort (children_process cs vs p e)
  children_short none p e w t P = P
  children_short (next c r cs) p e w t P =
      let k = parts _ _ _ _ _ _ t in
      children_short cs _ _ w k.1 (short_join seq p _ P (child_short c e w k.0))

  child_short : {around : List Name} {vs : List ℕ} (c : Child) (e : ℕ) → Valued around vs → Passed (child_named keywords c) (child_sized c) (child_parameters c around)
      → AllShort (child_process c vs e)
  child_short (plain m) e w t = member_short m e w t
  child_short {around} (loop m) e w t = loop_short m e w (parts true true (surrounded around) _ _ _ t).1
  child_short {around} (group y a b ms) e w t =
      let i = parts true true (surrounded around) _ _ _ t in
      let k = parts _ _ _ _ _ _ i.1 in
      let l = parts _ _ _ _ _ _ k.1 in
      members_short ms (joint y) _ _ w l.1 (short_join (joint y) _ _ (member_short a _ w k.0) (member_short b _ w l.0))
  child_short {around} {vs} (replicator y par n m) e w t =
      let k = parts (named keywords par) (leb 1 n && leb n 16) (surrounded around && new par around) _ _ _ t in
      let l = leb-true n 16 (and_r (leb 1 n) _ k.0.sizes) in
      copies_short (joint y) (λ v. member_process m (vs ++ (v ∷ [])) (e + v * member_events m)) (n - 1)
      (λ v h. member_short m (e + v * member_events m) (valued_more par v w (omega arith)) k.1)

  loop_short : {around : List Name} {vs : List ℕ} (m : Member) (e : ℕ) → Valued around vs → Passed (member_named keywords m) (member_sized m) (member_parameters m around)
      → AllShort (loop_process m vs e)
  loop_short (leaf n) e w t = (short_one e _ (event_short false n w t.names t.parameters)).1
  loop_short (inner f) e w t = short_rounds _ _ _ (flow_short f e w t) (reset_short f w t)

  member_short : {around : List Name} {vs : List ℕ} (m : Member) (e : ℕ) → Valued around vs → Passed (member_named keywords m) (member_sized m) (member_parameters m around)
      → AllShort (member_process m vs e)
  member_short (leaf n) e w t = (short_one e _ (event_short false n w t.names t.parameters)).0
  member_short (inner f) e w t = flow_short f e w t

  members_short : {around : List Name} {vs : List ℕ} (ms : Members) (j : Joint) (p : Process) (e : ℕ) → Valued around vs
      → Passed (members_named keywords ms) (members_sized ms) (members_parameters ms around) → AllShort p → AllShort (members_process ms j vs p e)
  members_short end j p e w t P = P
  members_short (also m ms) j p e w t P =
      let k = parts _ _ _ _ _ _ t in
      members_short ms j _ _ w k.1 (short_join j p _ P (member_short m e w k.0))

-- No replicator surrounds the root.
pub events_short : (text : List ℕ) (d : Flow) → Accepted text d → Each Short (events (expand d))
events_short text d a =
    flow_short d 0 record { each = refl; small = tt }
    record { names = a.derived.proper.names; sizes = a.keeps.sizes; parameters = a.keeps.parameters }
