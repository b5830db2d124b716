-- What is skipped from `at` on ends where it ends from `i` on, and no blank stands at i.
use Rattle.std.proofs.Common.{◌-◌, length}
use Rattle.lexer.proofs.Gaps.{Reached}
use Rattle.lexer.proofs.Lexer.gap.Given as goal

abbrev pub invariant-loop-i : goal.invariant-loop-i
invariant-loop-i l = Reached l.self.text.now l.at l.i

abbrev pub decreases-loop-i : goal.decreases-loop-i
decreases-loop-i l = length l.self.text.now - l.i
