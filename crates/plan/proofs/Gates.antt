-- The gates of a joint's parts are below what is above the joint's own rows and its own gate.
use Prim.Native.Nat.{ℕ, ◌+◌, ◌≤◌, ◌<◌}
use native.Mathlib.Omega.{arith}
use lib.ListN.{length}
use Rattle.process.specs.Process.{Joint, seq, and, or, xor}
use Rattle.plan.specs.Plan.{later_gate, earlier_gate, joint_words}
use Rattle.plan.specs.declared.Needs.{Needs}

-- One law for the row of either part.
pub record GatesBelow (j : Joint) (k m end : ℕ) : Type 0 where
  pub its_later : later_gate j k m < end
  pub its_earlier : earlier_gate j k m < end

pub gates_below : (j : Joint) (k m end : ℕ) (n : Needs) → m < end → k + length (joint_words j m n) ≤ end → GatesBelow j k m end
gates_below seq k m end n h g = record { its_later = omega arith; its_earlier = omega arith }
gates_below and k m end n h g = record { its_later = h; its_earlier = h }
gates_below or k m end n h g = record { its_later = h; its_earlier = h }
gates_below xor k m end n h g = record { its_later = omega arith; its_earlier = omega arith }
