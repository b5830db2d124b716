-- A machine of events: what it is to run it.
use Rattle.std.specs.Prelude.{◌≡◌, true, List, [], ◌∷◌, ℕ, ◌<◌}
use Rattle.process.specs.Bits.{Bits}
use Rattle.formulas.specs.Formulas.{Formula, all_hold}
use Rattle.formulas.specs.Actions.{Action, perform}

-- A machine with n events, each with its guards and its actions, takes a list of events: where each comes its guards hold, and its actions are then performed.
unfoldable pub Takes : ℕ → (ℕ → List Formula) → (ℕ → List Action) → Bits → List ℕ → Type 0
Takes n guards acts s [] = Unit {0}
Takes n guards acts s (e ∷ w) = (e < n) × (all_hold (guards e) s ≡ true) × Takes n guards acts (perform (acts e) s) w
