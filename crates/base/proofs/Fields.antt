-- A number of bytes, read byte by byte: one law for every width.
use mathlib.Core.Path.{◌≡◌, refl}
use mathlib.Core.List.{List}
use Prim.Native.Nat.{ℕ, zero, suc, ◌+◌, ◌*◌, ◌/◌, ◌%◌, ◌^◌, ◌≤◌, ◌<◌}
use native.Mathlib.Nat.{zero-add, add-zero, mul_assoc, pow-suc}
use native.Mathlib.Omega.{arith}
use lib.ListN.{length, take, drop, get_or, set, get_or-eq_default}
use lib.Seq.{set_out, get_or-take, get_or-drop}
use Rattle.base.specs.Packed.{field, put_word}

pub field_none : (t : List ℕ) (at : ℕ) → 0 ≡ field 0 t at
unfolding field
field_none t at = refl

pub field_one : (t : List ℕ) (at a : ℕ) → a ≡ get_or t at 0 → a ≡ field 1 t at
unfolding field
field_one t at a q = rw (zero-add, add-zero) q

pub field_more : (width : ℕ) (t : List ℕ) (at a b : ℕ) → a ≡ field width t at → b ≡ get_or t (at + width) 0
    → a * 256 + b ≡ field (suc width) t at
unfolding field
field_more width t at a b p q = rw (p, q)

-- A number of n and k more bytes is made of two.
pub field_joined : (s : List ℕ) (n k at : ℕ) → field n s at * 256 ^ k + field k s (at + n) ≡ field (n + k) s at
unfolding field
field_joined s n zero at = rw (add-zero n) (omega arith)
field_joined s n (suc k) at =
    let q : at + n + k ≡ at + (n + k) = omega arith in
    let r : n + suc k ≡ suc (n + k) = omega arith in
    rw (r, ← (field_joined s n k at), pow-suc 256 k, q) (omega (arith, mul_assoc (field n s at) (256 ^ k) 256))

-- A number read from a part of the bytes that holds all of it.
pub field_part : (n k : ℕ) (s : List ℕ) (at : ℕ) → n ≤ k → field n (take k (drop at s)) 0 ≡ field n s at
unfolding field
field_part zero k s at h = refl
field_part (suc n) k s at h =
    rw (field_part n k s at (omega arith), zero-add n, get_or-take k (drop at s) n 0 (omega arith), get_or-drop at s n 0)

-- Bytes below 256 make a number of as many bytes.
pub field_below : (n : ℕ) (s : List ℕ) (at : ℕ) → ((i : ℕ) → get_or s i 0 < 256) → field n s at < 256 ^ n
unfolding field
field_below zero s at h = omega arith
field_below (suc n) s at h = rw (pow-suc 256 n) (omega (arith, field_below n s at h, h (at + n)))

-- Four bytes stored one after the other.
pub word_put : (i w : ℕ) (o p q r s : List ℕ)
    → p ≡ set o i (w / 16777216 % 256)
    → q ≡ set p (i + 1) (w / 65536 % 256)
    → r ≡ set q (i + 2) (w / 256 % 256)
    → s ≡ set r (i + 3) (w % 256)
    → s ≡ put_word o i w
unfolding put_word
word_put i w o p q r s a b c d = rw (d, c, b, a)

-- Past the end there are only zeros, and nothing is stored.
past_zero : (s : List ℕ) (i : ℕ) → length s ≤ i → get_or s i 0 ≡ 0
past_zero s i h = get_or-eq_default s 0 h

pub field_past : (n : ℕ) (s : List ℕ) (at : ℕ) → length s ≤ at → 0 ≡ field n s at
unfolding field
field_past zero s at h = refl
field_past (suc n) s at h = rw (← (field_past n s at h), past_zero s (at + n) (omega arith))

pub word_past : (o : List ℕ) (i w : ℕ) → length o ≤ i → o ≡ put_word o i w
unfolding put_word
word_past o i w h =
    rw (
      set_out o i (w / 16777216 % 256) (omega arith),
      set_out o (i + 1) (w / 65536 % 256) (omega arith),
      set_out o (i + 2) (w / 256 % 256) (omega arith),
      set_out o (i + 3) (w % 256) (omega arith),
    )
