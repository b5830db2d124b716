-- What is said, by the meaning of the drawing: the event of this number, or the one that is called so.
use Rattle.std.specs.Prelude.{cond, ◌||◌, List, [], ◌∷◌, ◌++◌, ℕ, suc}
use Rattle.base.specs.Equal.{same}
use Rattle.process.specs.Process.{Event}
use Rattle.output.specs.Decimal.{decimal}
use Rattle.lines.specs.Lines.{mark, spaced}

-- What an event is called: `reset` and a space for a reset, the name, and the values, each after a space. `proofs/Meant.antt` shows that no two events are
-- called the same, and none by a number.
unfoldable pub label : Event → List ℕ
label l = mark l.reset ++ (l.name ++ spaced l.values)

-- How many events stand before the first that has this number or is called so, of events the first of which has the number e; all of them where none does.
unfoldable pub before_meant : List Event → ℕ → List ℕ → ℕ
before_meant [] e said = 0
before_meant (l ∷ ls) e said = cond (same (decimal e) said || same (label l) said) 0 (suc (before_meant ls (suc e) said))
