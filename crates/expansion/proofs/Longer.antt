-- A process in postfix order is no shorter than its parts.
use mathlib.Core.List.{List}
use Prim.Native.Nat.{ℕ, zero, suc, ◌+◌, ◌≤◌}
use native.Mathlib.Nat.{le_refl, add-zero, add-suc}
use native.Mathlib.Omega.{arith}
use Rattle.diagram.specs.Tree.{Children, none, next, Members, end, also}
use Rattle.diagram.specs.Count.{child_events, member_events}
use Rattle.process.specs.Process.{Joint, seq, Process, join}
use Rattle.process.specs.Expand.{copies, children_process, child_process, member_process, members_process}
use Rattle.postfix.proofs.Short.{long, long_join}

-- The parts so far are no longer than with those after them.
pub children_longer : (cs : Children) (vs : List ℕ) (p : Process) (e : ℕ) → long p ≤ long (children_process cs vs p e)
unfolding children_process
children_longer none vs p e = omega arith
children_longer (next c r cs) vs p e =
    omega (arith, long_join seq p (child_process c vs e), children_longer cs vs (join seq p (child_process c vs e)) (e + child_events c))

pub members_longer : (ms : Members) (j : Joint) (vs : List ℕ) (p : Process) (e : ℕ) → long p ≤ long (members_process ms j vs p e)
unfolding members_process
members_longer end j vs p e = omega arith
members_longer (also m ms) j vs p e =
    omega (arith, long_join j p (member_process m vs e), members_longer ms j vs (join j p (member_process m vs e)) (e + member_events m))

pub copies_longer : (j : Joint) (copy : ℕ → Process) (v n : ℕ) → long (copies j copy v) ≤ long (copies j copy (v + n))
copies_longer j copy v zero = rw (add-zero v) (le_refl (long (copies j copy v)))
copies_longer j copy v (suc n) =
    rw (add-suc v n) (omega (arith, long_join j (copies j copy (v + n)) (copy (suc (v + n))), copies_longer j copy v n))
