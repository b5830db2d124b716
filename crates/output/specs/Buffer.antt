-- Bytes that are written one after the other into a lent buffer, as far as it goes.
use Rattle.std.specs.Prelude.{cond, List, [], ◌∷◌, ℕ, ◌+◌, ltb, length, set}

-- A lent buffer and how many of its bytes are written.
pub record Buffer : Type 0 where
  pub at : ℕ
  pub bytes : List ℕ

abbrev pub buffer : ℕ → List ℕ → Buffer
buffer at bytes = record { at = at; bytes = bytes }

-- One byte more, where there is room.
unfoldable pub put : ℕ → Buffer → Buffer
put b s = cond (ltb s.at (length s.bytes)) (buffer (s.at + 1) (set s.bytes s.at b)) s

-- These bytes, one after the other.
unfoldable pub put_all : List ℕ → Buffer → Buffer
put_all [] s = s
put_all (b ∷ bs) s = put_all bs (put b s)
