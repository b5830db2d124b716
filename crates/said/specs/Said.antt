-- Which event is said: by its number, or by its name with its values, `reset` before a reset's, as the listing has them.
use Rattle.std.specs.Prelude.{Bool, cond, ◌||◌, List, [], ◌∷◌, ℕ, suc, take, drop}
use Rattle.said.specs.Search.{index_of}
use Rattle.base.specs.Equal.{same}
use Rattle.said.specs.Lines.{event_lines}

-- The number of an event's line stands before its first space, what the event is called after it.
unfoldable pub number_part : List ℕ → List ℕ
number_part line = take (index_of 32 line) line

unfoldable pub label_part : List ℕ → List ℕ
label_part line = drop (suc (index_of 32 line)) line

unfoldable pub says : List ℕ → List ℕ → Bool
says line said = same (number_part line) said || same (label_part line) said

-- How many lines stand before the first that says it; all of them where none does.
unfoldable pub before_saying : List (List ℕ) → List ℕ → ℕ
before_saying [] said = 0
before_saying (l ∷ ls) said = cond (says l said) 0 (suc (before_saying ls said))

-- The number of the event that is said, by the listing of a drawing; past its last event where there is none.
abbrev pub event_said : List ℕ → List ℕ → ℕ
event_said listing said = before_saying (event_lines listing) said
