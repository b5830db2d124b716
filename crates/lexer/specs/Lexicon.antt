-- The table that the lexer reads bytes by: made once, read at each byte.
use Rattle.std.specs.Prelude.{◌≡◌, List, ℕ, ◌<◌, length, get_or}
use Rattle.tokens.specs.Classes.{class_of}

-- The class of each byte.
pub record Lexicon (t : List ℕ) : Type 0 where
  pub size : length t ≡ 256
  pub class : (b : ℕ) → b < 256 → get_or t b 0 ≡ class_of b
