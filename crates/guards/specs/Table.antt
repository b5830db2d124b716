-- What `write_table` answers, and leaves in the lent bytes.
use Rattle.std.specs.Prelude.{◌≡◌, Bool, true, false, ◌&&◌, List, ℕ, leb, length}
use Rattle.base.specs.Fill.{fill}
use Rattle.diagram.specs.Tree.{Flow}
use Rattle.diagram.specs.Count.{flow_events}
use Rattle.diagram.specs.Sizes.{flow_sized}
use Rattle.process.specs.Expand.{expand}
use Rattle.postfix.specs.declared.Code.{Code}
use Rattle.postfix.specs.Postfix.{postfix}
use Rattle.plan.specs.Plan.{planned}
use Rattle.guards.specs.code.Passes.{Passes}

-- There is room: at most 1,024 codes, 512 events, and the buffer that document 01 asks for.
abbrev pub room : List Code → ℕ → List ℕ → Bool
room ops events lent = leb (length ops) 1024 && (leb events 512 && leb 51204 (length lent))

-- For the codes of a drawing's process in postfix order, and how many events it has: its plan, over the front of the lent bytes, and how many bytes that is. For any
-- other codes: what the two passes along them make. Where there is no room nothing is written.
pub record TableWritten (ops : List Code) (events : ℕ) (lent : List ℕ) (size : ℕ) (left : List ℕ) : Type 0 where
  pub its_plan : (d : Flow) → flow_sized d ≡ true → ops ≡ postfix (expand d) → events ≡ flow_events d → room ops events lent ≡ true
      → (size ≡ length (planned (expand d))) × (left ≡ fill lent (planned (expand d)))
  pub any_numbers : room ops events lent ≡ true → Passes ops events lent size left
  pub no_room : room ops events lent ≡ false → (size ≡ 0) × (left ≡ lent)
