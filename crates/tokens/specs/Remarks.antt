-- Document 02, card 4: remarks, what stands between tokens, and which bytes of a text are foreign.
use Rattle.std.specs.Prelude.{Bool, true, false, not, ◌||◌, cond, List, [], ◌∷◌, ℕ, zero, suc, eqb, get_or}
use Prim.Native.Char.{code as byte}
use Rattle.tokens.specs.Classes.{between, within, foreign}

-- "A # starts a remark that runs up to and not including the next byte 10 or the end": whether one is open after a byte, by whether one was
-- open before it.
abbrev pub opened : Bool → ℕ → Bool
opened false b = eqb b (byte "#")
opened true b = not (eqb b 10)

-- Whether one is open before the byte at a place, by whether one is at the front.
unfoldable pub open_at : Bool → List ℕ → ℕ → Bool
open_at o bs zero = o
open_at o [] (suc j) = o
open_at o (b ∷ bs) (suc j) = open_at (opened o b) bs j

-- What stands between tokens: a blank, the # of a remark, and inside one the bytes that it holds, "32 to 126", up to the blank that ends it.
abbrev pub skipped : Bool → ℕ → Bool
skipped false b = within 8 9 b
skipped true b = between 32 126 b || eqb b 10

-- Foreign is a byte of that class, and inside a remark "any other byte in it".
abbrev pub strange : Bool → ℕ → Bool
strange false b = foreign b
strange true b = not (skipped true b)

-- The byte at a place of a text is foreign.
abbrev pub foreign_at : List ℕ → ℕ → Bool
foreign_at text j = strange (open_at false text j) (get_or text j 0)

-- How many bytes at the front pass a test, before the first that does not. The test is told whether a remark is open.
unfoldable pub stretch : (Bool → ℕ → Bool) → Bool → List ℕ → ℕ
stretch t o [] = 0
stretch t o (b ∷ bs) = cond (t o b) (suc (cond (opened o b) (stretch t true bs) (stretch t false bs))) 0

-- "Blanks may stand before, between and after tokens", and "a remark is a blank wherever a blank may stand": how many bytes at the front are
-- to be skipped.
abbrev pub blanks : List ℕ → ℕ
blanks = stretch skipped false
