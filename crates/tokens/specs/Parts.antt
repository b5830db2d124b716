-- Parts of a lent text: what is handed back of it lies in its own memory.
use Rattle.std.specs.Prelude.{◌≡◌, List, ℕ, ◌+◌, ◌≤◌, ◌<◌, length, take, drop}
use Rattle.std.specs.Borrow.{Bor}
use Rattle.tokens.specs.Words.{word_at}

-- That very part of a lent text: n bytes from a place on, in the text's own memory.
pub record Part (text part : Bor (List ℕ)) (place n : ℕ) : Type 0 where
  pub its_block : part.ref_ptr.0 ≡ text.ref_ptr.0
  pub its_offset : part.ref_ptr.1 ≡ text.ref_ptr.1 + place
  pub its_bytes : part.now ≡ take n (drop place text.now)

-- The word that starts at a place, as that very part of the text.
pub record Word (text : Bor (List ℕ)) (at : ℕ) (r : Bor (List ℕ)) : Type 0 where
  pub its_word : r.now ≡ word_at text.now at
  pub inside : at ≤ length text.now → Part text r at (length (word_at text.now at))
  pub past : length text.now < at → Part text r 0 0
