-- Numbers of more than one byte: "packed most significant first", read and stored.
use Rattle.std.specs.Prelude.{List, [], ◌∷◌, ℕ, zero, suc, ◌+◌, ◌*◌, ◌/◌, ◌%◌, get_or, set}

-- The number that `width` bytes from `at` on make; past the end there are only zeros.
unfoldable pub field : ℕ → List ℕ → ℕ → ℕ
field zero bytes at = 0
field (suc width) bytes at = field width bytes at * 256 + get_or bytes (at + width) 0

-- The bytes with a number of 32 bits at i, as far as they go.
unfoldable pub put_word : List ℕ → ℕ → ℕ → List ℕ
put_word o i w = set (set (set (set o i (w / 16777216 % 256)) (i + 1) (w / 65536 % 256)) (i + 2) (w / 256 % 256)) (i + 3) (w % 256)

-- Numbers of 32 bits one after the other, as bytes.
unfoldable pub packed : List ℕ → List ℕ
packed [] = []
packed (w ∷ ws) = w / 16777216 % 256 ∷ w / 65536 % 256 ∷ w / 256 % 256 ∷ w % 256 ∷ packed ws
