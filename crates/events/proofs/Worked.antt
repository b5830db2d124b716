-- The listings of the drawings worked through, computed over the whole table.
use mathlib.Core.Path.{refl}
use Rattle.diagram.specs.Count.{flow_events, flow_copies}
use Rattle.process.specs.Process.{events}
use Rattle.process.specs.Expand.{flow_process}
use Rattle.output.specs.Decimal.{digits}
use Rattle.lines.specs.Lines.{first_line, spaced, line, lines}
use Rattle.events.specs.Worked.{table, Shown}

pub shown : Shown table
unfolding flow_events flow_copies flow_process events digits first_line spaced line lines
shown = refl
