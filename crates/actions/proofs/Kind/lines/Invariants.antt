-- The invariant: the lines up to event i are written.
use Rattle.std.proofs.Common.{◌-◌}
use Rattle.output.specs.Writes.{Writes}
use Rattle.variables.specs.code.Spelled.{naming}
use Rattle.actions.specs.code.Written.{lines as lines_of}
use Rattle.actions.proofs.Kind.lines.Given as goal

abbrev pub invariant-loop-i : goal.invariant-loop-i
invariant-loop-i l = Writes l.initial.w l.w (lines_of (naming l.spelling) l.self l.k l.from (l.i - l.from))
