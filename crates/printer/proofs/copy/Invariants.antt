-- The tokens before `at` are written.
use Rattle.std.proofs.Common.{◌-◌, length}
use Rattle.printer.proofs.Copied.{Copied}
use Rattle.printer.proofs.copy.Given as goal

abbrev pub invariant-loop-at : goal.invariant-loop-at
invariant-loop-at l = Copied l.text l.at l.initial.w l.w

abbrev pub decreases-loop-at : goal.decreases-loop-at
decreases-loop-at l = length l.text - l.at
