-- "For the C firmware it is 64 bytes, most significant first."
use Rattle.std.specs.Prelude.{◌≡◌, List, [], ◌∷◌, ◌++◌, ℕ, zero, suc, ◌-◌, ◌*◌, ◌/◌, ◌%◌, ◌^◌, ◌<◌, length, get_or}
use Rattle.base.specs.Packed.{field}

-- What a record's bytes are: 64, each below 256.
abbrev pub Bytes : List ℕ → Type 0
Bytes s = (length s ≡ 64) × ((i : ℕ) → get_or s i 0 < 256)

-- The eight words of a record's bytes.
unfoldable pub words_of : List ℕ → List ℕ
words_of bytes =
    field 8 bytes 0 ∷ field 8 bytes 8 ∷ field 8 bytes 16 ∷ field 8 bytes 24 ∷ field 8 bytes 32 ∷ field 8 bytes 40 ∷ field 8 bytes 48
    ∷ field 8 bytes 56 ∷ []

-- Byte i of the words, and the first n of them.
abbrev pub byte_of : List ℕ → ℕ → ℕ
byte_of ws i = get_or ws (i / 8) 0 / 2 ^ (56 - i % 8 * 8) % 256

unfoldable pub bytes_to : List ℕ → ℕ → List ℕ
bytes_to ws zero = []
bytes_to ws (suc n) = bytes_to ws n ++ (byte_of ws n ∷ [])

-- The 64 bytes of a record.
abbrev pub bytes_of : List ℕ → List ℕ
bytes_of ws = bytes_to ws 64
