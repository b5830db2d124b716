-- Whether a diagram by value has a machine, and where the names of its events stand: for the contracts of the functions. That the first is
-- `modelling.specs.Profile.in_profile` of the diagram that was read is `machines.proofs.Drawn.outside_profile` and `machines.proofs.Drawn.inside_profile`.
use Rattle.std.specs.Prelude.{◌≡◌, Bool, ◌||◌, List, ℕ, ◌<◌, ltb, get_or, take, Option, Some, None}
use Rattle.std.specs.List.{list_any}
use Rattle.diagram.specs.TreeNodes.{copying}
use Rattle.diagram.specs.declared.Diagram.{Diagram}
use Rattle.labels.specs.Seeks.{spot_of}
use Rattle.labels.specs.declared.Spot.{Spot}
use Rattle.variables.specs.code.Spelled.{none}
use Rattle.variables.specs.declared.Variable.{Variable}

-- One of the nodes is a replicator.
abbrev pub copies : Diagram → Bool
copies g = list_any (λ n. copying n.kind) (take g.count g.nodes)

-- That, or over 32 events.
abbrev pub outside_of : Diagram → Bool
outside_of g = copies g || ltb 32 g.events

-- What the event that stands here is called.
abbrev pub variable : Option Spot → Variable
variable (Some s) = record { place = s.place; reset = s.reset }
variable None = none

-- Of the first 32 events.
abbrev pub Names : Diagram → List Variable → Type 0
Names g vs = (n : ℕ) → n < 32 → get_or vs n none ≡ variable (spot_of g n)
