-- Where a byte stands.
use Rattle.std.specs.Prelude.{Bool, not, eqb, List, ℕ}
use Rattle.tokens.specs.Words.{front}

-- A byte that is not b.
abbrev pub other_than : ℕ → ℕ → Bool
other_than b x = not (eqb x b)

-- How many bytes stand before the first that is b; all of them where none is.
abbrev pub index_of : ℕ → List ℕ → ℕ
index_of b bytes = front (other_than b) bytes
