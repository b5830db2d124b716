-- How the condition on a joint is put, as the code finds it.
use Rattle.std.proofs.Common.{◌≡◌, ◌+◌, ◌-◌, Bool, not, ◌&&◌, List, ◌++◌, length, arith}
use Rattle.std.proofs.lemmas.Grind.{common_steps}
use Rattle.process.specs.Process.{Joint, Process, join}
use Rattle.process.proofs.Numbered.{size}
use Rattle.postfix.specs.declared.Code.{Code}
use Rattle.postfix.specs.Postfix.{postfix, joint_code}
use Rattle.parts.specs.code.Cuts.{event_count}
use Rattle.parts.proofs.Cut.{count_is}
use Rattle.conditions.specs.code.Asked.{absent, wanted, of_parts, choosing, around, shape_of}

-- A joint is no event.
joint_events : (j : Joint) (p q : Process) → event_count (postfix p ++ postfix q) ≡ event_count (postfix (join j p q))
unfolding size
joint_events j p q =
    let e : event_count (postfix p ++ postfix q) ≡ event_count (postfix p) + event_count (postfix q) = grind (arith, common_steps) in
    omega (arith, e, count_is p, count_is q, count_is (join j p q))

pub joint_shape : (code : Code) (rest first : List Code) (settled a b : Bool) (j : Joint) (p q : Process) → code ≡ joint_code j → rest ≡ postfix p ++ postfix q
    → first ≡ postfix p → a ≡ absent (wanted (of_parts code) p) → b ≡ absent (wanted (of_parts code) q)
    → record { second = length first; first = event_count first; after = event_count rest - 1; pair = not a && not b; either = choosing code; around = around code settled (a && b) } ≡ shape_of settled j p q
joint_shape code rest first settled a b j p q c e f g h = rw (e, f, g, h, c, joint_events j p q)
