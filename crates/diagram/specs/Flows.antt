-- Document 01, "Rules beyond grammar": the two rules on a flow alone. Numbers 9 and 10 where they are broken.
use Rattle.std.specs.Prelude.{Bool, true, false, not, ◌&&◌, cond}
use Rattle.diagram.specs.Tree.{all, some, one, Flow, flow, Children, none, next, Child, plain, loop, group, replicator, Member, leaf, inner, Members, end, also}

-- "a leaf, flow, xor or one": what a solid child may be.
abbrev pub may_be_solid : Child → Bool
may_be_solid (plain m) = true
may_be_solid (loop m) = false
may_be_solid (group all a b ms) = false
may_be_solid (group some a b ms) = false
may_be_solid (group one a b ms) = true
may_be_solid (replicator all par size m) = false
may_be_solid (replicator some par size m) = false
may_be_solid (replicator one par size m) = true

abbrev pub none_solid : Children → Bool
none_solid none = true
none_solid (next c r cs) = not r && none_solid cs

abbrev pub one_solid : Children → Bool
one_solid none = false
one_solid (next c r cs) = cond r (may_be_solid c && none_solid cs) (one_solid cs)

-- "A flow has exactly one solid child: a leaf, flow, xor or one."
abbrev pub solid : Flow → Bool
solid (flow n ps sw c r cs) = one_solid (next c r cs)

-- "sw is 1."
abbrev pub strong : Flow → Bool
strong (flow n ps sw c r cs) = sw

-- A condition on each flow of the diagram.
unfoldable mutual
  pub each_flow : Flow → (Flow → Bool) → Bool
  each_flow (flow n ps sw c r cs) ok = ok (flow n ps sw c r cs) && (child_flows c ok && children_flows cs ok)

  pub children_flows : Children → (Flow → Bool) → Bool
  children_flows none ok = true
  children_flows (next c r cs) ok = child_flows c ok && children_flows cs ok

  pub child_flows : Child → (Flow → Bool) → Bool
  child_flows (plain m) ok = member_flows m ok
  child_flows (loop m) ok = member_flows m ok
  child_flows (group y a b ms) ok = member_flows a ok && (member_flows b ok && members_flows ms ok)
  child_flows (replicator y par size m) ok = member_flows m ok

  pub member_flows : Member → (Flow → Bool) → Bool
  member_flows (leaf n) ok = true
  member_flows (inner f) ok = each_flow f ok

  pub members_flows : Members → (Flow → Bool) → Bool
  members_flows end ok = true
  members_flows (also m ms) ok = member_flows m ok && members_flows ms ok
