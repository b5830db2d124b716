-- Document 01, "The text": words, keywords and numerals.
use Rattle.std.specs.Prelude.{Bool, true, false, ◌&&◌, cond, List, [], ◌∷◌, map, ℕ, suc, leb, length, take, drop}
use Rattle.base.specs.Text.{bytes}
use Rattle.diagram.specs.Tree.{Name}
use Rattle.diagram.specs.Names.{same}
use Rattle.tokens.specs.Classes.{letter, worded}

-- How many bytes at the front of a text pass a test, before the first that does not.
unfoldable pub front : (ℕ → Bool) → List ℕ → ℕ
front t [] = 0
front t (b ∷ bs) = cond (t b) (suc (front t bs)) 0

-- "A word is a longest run of letters, digits and underscores": the one that starts here.
abbrev pub word_at : List ℕ → ℕ → Name
word_at text at = take (front worded (drop at text)) (drop at text)

-- "Keywords: flow leaf and or xor all some one loop."
unfoldable pub keywords : List Name
keywords = map bytes ("flow" ∷ "leaf" ∷ "and" ∷ "or" ∷ "xor" ∷ "all" ∷ "some" ∷ "one" ∷ "loop" ∷ [])

-- The place of a word in a list whose first place is k, and `none` where it is not there.
abbrev pub place_in : List Name → ℕ → ℕ → Name → ℕ
place_in [] k none w = none
place_in (n ∷ ns) k none w = cond (same w n) k (place_in ns (suc k) none w)

-- "at most 24 bytes"
abbrev pub short : Name → Bool
short w = leb (length w) 24

-- Each byte passes a test.
abbrev pub every : (ℕ → Bool) → List ℕ → Bool
every t [] = true
every t (b ∷ bs) = t b && every t bs

abbrev pub lettered : Name → Bool
lettered [] = false
lettered (b ∷ bs) = letter b

-- "0 or 1" and "1 to 16 without leading zero": the numerals, each at the place that is its value.
abbrev pub numerals : List Name
numerals =
    map bytes
    ("0" ∷ "1" ∷ "2" ∷ "3" ∷ "4" ∷ "5" ∷ "6" ∷ "7" ∷ "8" ∷ "9" ∷ "10" ∷ "11" ∷ "12" ∷ "13" ∷ "14" ∷ "15" ∷ "16" ∷ [])
