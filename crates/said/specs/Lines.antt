-- The lines of some bytes. Document 01: "Each line ends with byte 10."
use Rattle.std.specs.Prelude.{cond, List, [], ◌∷◌, ℕ, eqb}

-- A byte before the first of some lines.
abbrev pub onto : ℕ → List (List ℕ) → List (List ℕ)
onto b [] = (b ∷ []) ∷ []
onto b (l ∷ ls) = (b ∷ l) ∷ ls

-- The lines without their ends; the last one may lack its end.
unfoldable pub lines : List ℕ → List (List ℕ)
lines [] = []
lines (b ∷ bs) = cond (eqb b 10) ([] ∷ lines bs) (onto b (lines bs))

-- The first line.
abbrev pub first : List (List ℕ) → List ℕ
first [] = []
first (l ∷ ls) = l

-- The lines after the first.
abbrev pub rest : List (List ℕ) → List (List ℕ)
rest [] = []
rest (l ∷ ls) = ls

-- The lines of a listing's events: "First line: events and node copies. Then number, name, and values".
unfoldable pub event_lines : List ℕ → List (List ℕ)
event_lines listing = rest (lines listing)
