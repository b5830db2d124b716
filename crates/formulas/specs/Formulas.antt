-- Formulas over the variables of a machine. Card 2 of document 02 builds a guard from four forms: a variable that is TRUE, one that is FALSE, both of two formulas, either of them.
use Rattle.std.specs.Prelude.{Bool, true, false, not, ◌&&◌, ◌||◌, List, [], ◌∷◌, ℕ, ◌<◌}
use Rattle.process.specs.Bits.{Bits}

-- Each event has one variable, which is named here by the event's number.
pub data Formula : Type 0 where
  is : ℕ → Bool → Formula
  both : Formula → Formula → Formula
  either : Formula → Formula → Formula

-- A formula evaluated on control bits, one for each variable.
unfoldable pub holds : Formula → Bits → Bool
holds (is n true) s = s n
holds (is n false) s = not (s n)
holds (both f g) s = holds f s && holds g s
holds (either f g) s = holds f s || holds g s

-- The guards of an event hold where each of them does.
unfoldable pub all_hold : List Formula → Bits → Bool
unfolding holds
all_hold [] s = true
all_hold (f ∷ fs) s = holds f s && all_hold fs s

-- It speaks of variables of the first n events only.
unfoldable pub Speaks : ℕ → Formula → Type 0
Speaks n (is m b) = m < n
Speaks n (both f g) = Speaks n f × Speaks n g
Speaks n (either f g) = Speaks n f × Speaks n g

unfoldable pub AllSpeak : ℕ → List Formula → Type 0
unfolding Speaks
AllSpeak n [] = Unit {0}
AllSpeak n (f ∷ fs) = Speaks n f × AllSpeak n fs
