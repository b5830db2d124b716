-- The tokens of a text with their places.
use Rattle.std.specs.Prelude.{cond, List, [], ◌∷◌, map, ℕ, zero, suc, ◌+◌, length, take, drop}
use Rattle.diagram.specs.Tree.{Name}
use Rattle.tokens.specs.Classes.{worded}
use Rattle.tokens.specs.Remarks.{blanks}
use Rattle.tokens.specs.Words.{front}

-- A token: its bytes, and the place of the first of them.
pub record Span : Type 0 where
  pub place : ℕ
  pub bytes : List ℕ

-- How many bytes the token at the front of a text has: a word's run, or one.
unfoldable pub width : List ℕ → ℕ
width [] = 0
width (b ∷ bs) = cond (worded b) (front worded (b ∷ bs)) 1

-- The token at the front of what starts at `at`, where anything is left, and then those that `rest` finds after it.
abbrev pub cut : (ℕ → List ℕ → List Span) → ℕ → List ℕ → List Span
cut rest at [] = []
cut rest at (b ∷ bs) =
    record { place = at; bytes = take (width (b ∷ bs)) (b ∷ bs) } ∷ rest (at + width (b ∷ bs)) (drop (width (b ∷ bs)) (b ∷ bs))

-- The tokens of what starts at `at`, at most f of them: blanks and remarks are skipped before each.
unfoldable pub spans : ℕ → ℕ → List ℕ → List Span
spans zero at bs = []
spans (suc f) at bs = cut (λ at bs. spans f at bs) (at + blanks bs) (drop (blanks bs) bs)

-- The tokens of a text. Each has a byte at least, so there are no more than bytes.
unfoldable pub spans_of : List ℕ → List Span
spans_of text = spans (length text) 0 text

-- The tokens of a text as their bytes, and their places.
unfoldable pub tokens : List ℕ → List Name
tokens text = map (λ (s : Span). s.bytes) (spans_of text)

unfoldable pub places : List ℕ → List ℕ
places text = map (λ (s : Span). s.place) (spans_of text)
