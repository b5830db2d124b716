-- Document 02, card 4: "A remark is a blank wherever a blank may stand": a text with as many blanks in place of each of its remarks.
use Rattle.std.specs.Prelude.{Bool, cond, List, [], ◌∷◌, ℕ}
use Prim.Native.Char.{code as byte}
use Rattle.tokens.specs.Remarks.{opened}

abbrev pub space : ℕ
space = byte " "

-- By whether a remark is open at the front. The bytes of a remark are those after which one is open: its #, and what it holds.
unfoldable pub blanked : Bool → List ℕ → List ℕ
blanked o [] = []
blanked o (b ∷ bs) = cond (opened o b) space b ∷ blanked (opened o b) bs
