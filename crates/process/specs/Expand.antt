-- The process of a diagram. Document 01, "Events and whole runs", first paragraph.
use Rattle.std.specs.Prelude.{true, false, List, [], ◌∷◌, ◌++◌, ℕ, zero, suc, ◌+◌, ◌-◌, ◌*◌}
use Rattle.diagram.specs.Tree.{Name, Way, all, some, one, Flow, flow, Children, none, next, Child, plain, loop, group, replicator, Member, leaf, inner, Members, end, also}
use Rattle.diagram.specs.Count.{child_events, flow_events, member_events}
use Rattle.process.specs.Process.{Event, Joint, seq, and, or, xor, Process, event, join, again, rounds}

abbrev pub leaf_copy : Name → List ℕ → Event
leaf_copy n vs = record { reset = false; name = n; values = vs }

abbrev pub flow_name : Flow → Name
flow_name (flow n ps sw c r cs) = n

abbrev pub reset_of : Flow → List ℕ → Event
reset_of f vs = record { reset = true; name = flow_name f; values = vs }

-- Members under `and`, `or`, `xor` and copies under `all`, `some`, `one` are joined alike.
abbrev pub joint : Way → Joint
joint all = and
joint some = or
joint one = xor

-- The copies for the values 0 to `last`, values rising, `copy` being the process of each.
abbrev pub copies : Joint → (ℕ → Process) → ℕ → Process
copies j copy zero = copy 0
copies j copy (suc last) = join j (copies j copy last) (copy (suc last))

-- "Each node has one copy for each choice of values (0 to size−1) of the replicators around it. Events are the leaf copies and, for
-- each copy of a loop over a flow, its reset. They are numbered from 0 depth first, left to right, values rising, a reset directly
-- after its loop's body": the process of the node's copy for the values `vs`, whose first event is number `e`.
unfoldable mutual
  pub flow_process : Flow → List ℕ → ℕ → Process
  flow_process (flow n ps sw c r cs) vs e = children_process cs vs (child_process c vs e) (e + child_events c)

  -- the children so far, and those after them
  pub children_process : Children → List ℕ → Process → ℕ → Process
  children_process none vs before e = before
  children_process (next c r cs) vs before e = children_process cs vs (join seq before (child_process c vs e)) (e + child_events c)

  pub child_process : Child → List ℕ → ℕ → Process
  child_process (plain m) vs e = member_process m vs e
  child_process (loop m) vs e = loop_process m vs e
  child_process (group y a b ms) vs e =
      members_process ms (joint y) vs (join (joint y) (member_process a vs e) (member_process b vs (e + member_events a))) (e + member_events a + member_events b)
  child_process (replicator y par size m) vs e = copies (joint y) (λ v. member_process m (vs ++ (v ∷ [])) (e + v * member_events m)) (size - 1)

  pub loop_process : Member → List ℕ → ℕ → Process
  loop_process (leaf n) vs e = again e (leaf_copy n vs)
  loop_process (inner f) vs e = rounds (flow_process f vs e) (e + flow_events f) (reset_of f vs)

  pub member_process : Member → List ℕ → ℕ → Process
  member_process (leaf n) vs e = event e (leaf_copy n vs)
  member_process (inner f) vs e = flow_process f vs e

  -- the members so far, and those after them
  pub members_process : Members → Joint → List ℕ → Process → ℕ → Process
  members_process end j vs before e = before
  members_process (also m ms) j vs before e = members_process ms j vs (join j before (member_process m vs e)) (e + member_events m)

-- The process of a diagram.
abbrev pub expand : Flow → Process
expand d = flow_process d [] 0
