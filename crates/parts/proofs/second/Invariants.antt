-- The invariant: over the first i codes, with n parts wanted after them, the same is left over.
use Rattle.std.proofs.Common.{◌≡◌, ◌+◌, ◌≤◌, length, take}
use Rattle.std.specs.Prelude.{reverse}
use Rattle.parts.specs.code.Cuts.{left_over, second_begins}
use Rattle.parts.proofs.second.Given as goal

abbrev pub invariant-loop-i : goal.invariant-loop-i
invariant-loop-i l = (second_begins l.codes ≡ left_over (reverse (take l.i l.codes)) l.n) × (l.n + l.i ≤ length l.codes + 1)
