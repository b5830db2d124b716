-- What a diagram's process says of its events: those that clear bits are its resets, and no others are.
use mathlib.Core.Path.{◌≡◌, refl}
use mathlib.Core.Bool.{true, false}
use mathlib.Core.List.{List, [], ◌∷◌, ◌++◌}
use Prim.Native.Nat.{ℕ, zero, suc, ◌+◌, ◌-◌, ◌*◌}
use Rattle.diagram.specs.Tree.{Name, Flow, flow, Children, none, next, Child, plain, loop, group, replicator, Member, leaf, inner, Members, end, also}
use Rattle.diagram.specs.Count.{member_events}
use Rattle.process.specs.Process.{Joint, seq, Process, event, join, again, rounds}
use Rattle.process.specs.Expand.{leaf_copy, reset_of, joint, copies, flow_process, children_process, child_process, loop_process, member_process, members_process}

-- The resets, and only they, are marked as such.
unfoldable pub Marked : Process → Type 0
Marked (event n l) = l.reset ≡ false
Marked (join j p q) = Marked p × Marked q
Marked (again n l) = l.reset ≡ false
Marked (rounds p r l) = Marked p × (l.reset ≡ true)

marked_leaf : (n : ℕ) (name : Name) (vs : List ℕ) → Marked (event n (leaf_copy name vs)) × Marked (again n (leaf_copy name vs))
unfolding Marked
marked_leaf n name vs = (refl, refl)

marked_join : (j : Joint) (p q : Process) → Marked p → Marked q → Marked (join j p q)
unfolding Marked
marked_join j p q P Q = (P, Q)

marked_rounds : (p : Process) (r : ℕ) (f : Flow) (vs : List ℕ) → Marked p → Marked (rounds p r (reset_of f vs))
unfolding Marked
marked_rounds p r f vs P = (P, refl)

copies_marked : (j : Joint) (copy : ℕ → Process) → ((v : ℕ) → Marked (copy v)) → (v : ℕ) → Marked (copies j copy v)
copies_marked j copy f zero = f 0
copies_marked j copy f (suc v) = marked_join j (copies j copy v) (copy (suc v)) (copies_marked j copy f v) (f (suc v))

mutual
  unfolding flow_process

  pub flow_marked : (f : Flow) (vs : List ℕ) (e : ℕ) → Marked (flow_process f vs e)
  flow_marked (flow n ps sw c r cs) vs e = children_marked cs vs _ _ (child_marked c vs e)

  children_marked : (cs : Children) (vs : List ℕ) (p : Process) (e : ℕ) → Marked p → Marked (children_process cs vs p e)
  children_marked none vs p e P = P
  children_marked (next c r cs) vs p e P = children_marked cs vs _ _ (marked_join seq p _ P (child_marked c vs e))

  child_marked : (c : Child) (vs : List ℕ) (e : ℕ) → Marked (child_process c vs e)
  child_marked (plain m) vs e = member_marked m vs e
  child_marked (loop m) vs e = loop_marked m vs e
  child_marked (group y a b ms) vs e = members_marked ms (joint y) vs _ _ (marked_join (joint y) _ _ (member_marked a vs _) (member_marked b vs _))
  child_marked (replicator y par n m) vs e = copies_marked (joint y) _ (λ v. member_marked m (vs ++ (v ∷ [])) (e + v * member_events m)) (n - 1)

  loop_marked : (m : Member) (vs : List ℕ) (e : ℕ) → Marked (loop_process m vs e)
  loop_marked (leaf n) vs e = (marked_leaf e n vs).1
  loop_marked (inner f) vs e = marked_rounds _ _ f vs (flow_marked f vs _)

  member_marked : (m : Member) (vs : List ℕ) (e : ℕ) → Marked (member_process m vs e)
  member_marked (leaf n) vs e = (marked_leaf e n vs).0
  member_marked (inner f) vs e = flow_marked f vs e

  members_marked : (ms : Members) (j : Joint) (vs : List ℕ) (p : Process) (e : ℕ) → Marked p → Marked (members_process ms j vs p e)
  members_marked end j vs p e P = P
  members_marked (also m ms) j vs p e P = members_marked ms j vs _ _ (marked_join j p _ P (member_marked m vs e))
