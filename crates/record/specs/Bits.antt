-- The control bits of a run record: "The run record holds eight 64-bit words; bit 0 is the top bit of the first." A record is here the list of its words.
use Rattle.std.specs.Prelude.{◌≡◌, Bool, true, not, cond, ◌&&◌, ◌||◌, List, ℕ, zero, suc, ◌+◌, ◌-◌, ◌/◌, ◌%◌, ◌^◌, ◌<◌, eqb, ltb, length, get_or, set}
use Rattle.std.specs.Int.Bits.{bit_or, bit_xor}

-- What a record's words are: eight, of 64 bits each.
abbrev pub Words : List ℕ → Type 0
Words ws = (length ws ≡ 8) × ((i : ℕ) → i < 8 → get_or ws i 0 < 2 ^ 64)

-- "Event e has control bit e": whether it is set. There are 512 bits.
unfoldable pub bit_at : List ℕ → ℕ → Bool
bit_at ws e = ltb e 512 && eqb (get_or ws (e / 64) 0 / 2 ^ (63 - e % 64) % 2) 1

-- The words with a change at one bit: f takes the word that holds it, and the number whose only bit it is.
unfoldable pub change : (ℕ → ℕ → ℕ) → List ℕ → ℕ → List ℕ
change f ws e = cond (ltb e 512) (set ws (e / 64) (f (get_or ws (e / 64) 0) (2 ^ (63 - e % 64)))) ws

abbrev pub set_bit : List ℕ → ℕ → List ℕ
set_bit ws e = change bit_or ws e

-- A word without the bit m.
abbrev pub without : ℕ → ℕ → ℕ
without w m = bit_xor (bit_or w m) m

abbrev pub clear_bit : List ℕ → ℕ → List ℕ
clear_bit ws e = change without ws e

-- The words with `count` bits cleared, from the bit `first` on.
unfoldable pub clear_bits : List ℕ → ℕ → ℕ → List ℕ
clear_bits ws first zero = ws
clear_bits ws first (suc count) = clear_bit (clear_bits ws first count) (first + count)

-- Whether no bit below `end` and at or past `first` is set.
unfoldable pub clear_between : List ℕ → ℕ → ℕ → Bool
clear_between ws first zero = true
clear_between ws first (suc end) = clear_between ws first end && (ltb end first || not (bit_at ws end))

-- Number 13, "the record has a set bit at or past E".
abbrev pub set_past : List ℕ → ℕ → Bool
set_past ws events = not (clear_between ws events 512)
