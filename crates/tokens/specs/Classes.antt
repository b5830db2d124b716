-- Document 01, "The text": "Each of the 256 byte values has one class: letter (A to Z, a to z), digit, underscore, one of
-- ( ) , : , blank (32 or 10), or foreign." Document 02, card 4, gives # a class of its own: it starts a remark.
use Rattle.std.specs.Prelude.{Bool, ◌&&◌, ◌||◌, cond, ℕ, eqb, leb}
use Prim.Native.Char.{code as byte}

abbrev pub between : ℕ → ℕ → ℕ → Bool
between a b x = leb a x && leb x b

-- "blank (32 or 10)"
abbrev pub spacing : ℕ → Bool
spacing b = eqb b 32 || eqb b 10

-- The classes by number: 0 foreign, 1 to 4 the signs ( ) , : in this order, 5 letter, 6 digit, 7 underscore, 8 blank, 9 the start of a remark.
unfoldable pub class_of : ℕ → ℕ
class_of b =
    cond (eqb b (byte "(")) 1
    (cond (eqb b (byte ")")) 2
    (cond (eqb b (byte ",")) 3
    (cond (eqb b (byte ":")) 4
    (cond (between (byte "A") (byte "Z") b || between (byte "a") (byte "z") b) 5
    (cond (between (byte "0") (byte "9") b) 6
    (cond (eqb b (byte "_")) 7
    (cond (spacing b) 8
    (cond (eqb b (byte "#")) 9 0))))))))

-- The byte's class is one of those from a to b.
abbrev pub within : ℕ → ℕ → ℕ → Bool
within a b x = between a b (class_of x)

abbrev pub foreign : ℕ → Bool
foreign = within 0 0

abbrev pub letter : ℕ → Bool
letter = within 5 5

-- "letters, digits and underscores": what a word is made of.
abbrev pub worded : ℕ → Bool
worded = within 5 7

-- Tokens side by side are made of bytes that are no blanks and start no remark.
abbrev pub unbroken : ℕ → Bool
unbroken = within 0 7
