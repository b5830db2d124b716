-- The bytes of a listing, whose lines `lines.specs.Lines` tells. Document 01: "If turned away it prints one line: `refused`, number and place, one space between."
use Rattle.std.specs.Prelude.{◌≡◌, List, ◌++◌, ℕ, length}
use Rattle.base.specs.Fill.{fill}
use Rattle.base.specs.Refusals.{number}
use Rattle.diagram.specs.Tree.{Flow}
use Rattle.diagram.specs.Count.{flow_events, flow_copies}
use Rattle.process.specs.Process.{events}
use Rattle.process.specs.Expand.{expand}
use Rattle.output.specs.Lines.{refused_line}
use Rattle.lines.specs.Lines.{first_line, lines}
use Rattle.reading.specs.Reading.{Reading, drawing, no_drawing}

-- The listing of a drawing.
abbrev pub drawing_listing : Flow → List ℕ
drawing_listing d = first_line (flow_events d) (flow_copies d) ++ lines 0 (events (expand d))

unfoldable pub listing : {text : List ℕ} → Reading text → List ℕ
listing (drawing d a) = drawing_listing d
listing (no_drawing reason place r) = refused_line (number reason) place

-- What the listing call answers, and every byte of the lent buffer: "On success, bytes past those written stay too."
pub record Listed (text lent : List ℕ) (r : ℕ) (left : List ℕ) : Type 0 where
  pub reading : Reading text
  pub its_count : r ≡ length (listing reading)
  pub its_bytes : left ≡ fill lent (listing reading)
