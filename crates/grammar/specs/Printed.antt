-- Document 01, "The text": "Printing writes it without its blanks." Document 02, card 4: "Printing drops remarks".
use Rattle.std.specs.Prelude.{Bool, false, cond, ℕ}
use mathlib.Core.List.{List, [], ◌∷◌, map, flatten}
use Rattle.diagram.specs.Tree.{Name}
use Rattle.tokens.specs.Remarks.{opened, skipped}
use Rattle.tokens.specs.Spans.{tokens}
use Rattle.tokens.specs.Token.{Token, bytes_of}

-- Blanks and remarks stand only between tokens, so that is the bytes of the tokens, one after the other.
unfoldable pub printed : List ℕ → List ℕ
printed text = flatten (tokens text)

-- The same byte by byte, by whether a remark is open at the front: `grammar.proofs.Printing.without_blanks`. A byte that is kept stands in none,
-- or it is one for which the text is refused.
unfoldable pub unblanked : Bool → List ℕ → List ℕ
unblanked o [] = []
unblanked o (b ∷ bs) = cond (skipped o b) (unblanked (opened o b) bs) (b ∷ unblanked false bs)

-- Tokens written one after the other, nothing between them.
abbrev pub render : List Name → List Token → List ℕ
render words ts = flatten (map (bytes_of words) ts)
