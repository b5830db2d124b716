-- The actions of an event. Card 2 of document 02: first its own variable is set, and then what it clears becomes FALSE, "in event order".
use Rattle.std.specs.Prelude.{Bool, true, false, cond, List, [], ◌∷◌, ℕ, zero, suc, ◌<◌, eqb}
use Rattle.process.specs.Process.{Process}
use Rattle.process.specs.Bits.{Bits, clears}

-- `v_fill := TRUE`, `v_fill := FALSE`: the variable by its event's number.
pub record Action : Type 0 where
  pub variable : ℕ
  pub value : Bool

abbrev pub becomes : ℕ → Bool → Action
becomes n b = record { variable = n; value = b }

-- Those, of the n variables from the event `from` on, that are cleared.
unfoldable pub cleared : (ℕ → Bool) → ℕ → ℕ → List Action
cleared clear from zero = []
cleared clear from (suc n) = cond (clear from) (becomes from false ∷ cleared clear (suc from) n) (cleared clear (suc from) n)

-- The actions of event e of a process with n events.
unfoldable pub actions : Process → ℕ → ℕ → List Action
actions p n e = becomes e true ∷ cleared (clears p e) 0 n

-- The variables after the actions.
unfoldable pub perform : List Action → Bits → Bits
perform [] s = s
perform (a ∷ more) s = perform more (λ i. cond (eqb a.variable i) a.value (s i))

-- They set variables of the first n events only.
unfoldable pub AllSet : ℕ → List Action → Type 0
AllSet n [] = Unit {0}
AllSet n (a ∷ more) = (a.variable < n) × AllSet n more
