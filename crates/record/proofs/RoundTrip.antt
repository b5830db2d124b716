-- A record's words and its bytes are the same record: either read back from the other. A record is its bits, which its bytes hold in order.
use mathlib.Core.Path.{◌≡◌, refl, sym, ap, ◌∙◌}
use mathlib.Core.List.{List, [], ◌∷◌}
use Prim.Native.Nat.{ℕ, zero, suc, ◌+◌, ◌-◌, ◌*◌, ◌/◌, ◌%◌, ◌^◌, ◌≤◌, ◌<◌}
use native.Mathlib.Nat.{div-add-mod', div-eq_of_lt, div-one, mod-eq_of_lt, pow-suc}
use native.Mathlib.Omega.{arith}
use lib.ListN.{length, get_or}
use lib.Seq.{ext_get_or}
use lib.Dec.{eqb, lit<}
use lib.Arith.{digits_lt, digits_div, digits_mod}
use lib.Pow.{pow-add, shr-shr, field as bits_between, mod-mod-pow}
use borrow.Author.Tests.{eqb-true, eqb-false, lt-ltb}
use Rattle.base.specs.Fill.{fill}
use Rattle.base.proofs.Truth.{by_cases}
use Rattle.base.proofs.Filled.{fill_at}
use Rattle.record.specs.Bits.{Words, bit_at}
use Rattle.record.specs.Bytes.{Bytes, words_of, byte_of, bytes_of}
use Rattle.base.specs.Packed.{field}
use Rattle.base.proofs.Fields.{field_joined}
use Rattle.record.proofs.Bytes.{bytes_length, byte_at}
use Rattle.record.proofs.PastEvents.{low_same, word_bit}

-- ---- the words of a record's bytes, one after the other
abbrev words_from : ℕ → List ℕ → ℕ → List ℕ
words_from zero s at = []
words_from (suc n) s at = field 8 s at ∷ words_from n s (at + 8)

from_at : (n : ℕ) (s : List ℕ) (at k : ℕ) → k < n → get_or (words_from n s at) k 0 ≡ field 8 s (at + 8 * k)
from_at zero s at k h = let z : ⊥ = omega arith in absurd z
from_at (suc n) s at zero h = let q : at ≡ at + 8 * 0 = omega arith in ap (field 8 s) q
from_at (suc n) s at (suc k) h =
    let q : at + 8 + 8 * k ≡ at + 8 * suc k = omega arith in
    from_at n s (at + 8) k (omega arith) ∙ ap (field 8 s) q

words_length : (s : List ℕ) → length (words_of s) ≡ 8
unfolding words_of
words_length s = refl

word_at : (s : List ℕ) (k : ℕ) → k < 8 → get_or (words_of s) k 0 ≡ field 8 s (8 * k)
unfolding words_of
word_at s k h = let q : 0 + 8 * k ≡ 8 * k = omega arith in from_at 8 s 0 k h ∙ ap (field 8 s) q

-- ---- a number of n bytes
bytes_power : (k : ℕ) → 256 ^ k ≡ 2 ^ (8 * k)
bytes_power zero = refl
bytes_power (suc k) =
    let q : 8 * suc k ≡ 8 * k + 8 = omega arith in
    pow-suc 256 k ∙ rw (bytes_power k, q) (sym (pow-add 2 (8 * k) 8))

field_below : (k : ℕ) (s : List ℕ) (at : ℕ) → ((j : ℕ) → j < k → get_or s (at + j) 0 < 256) → field k s at < 256 ^ k
unfolding field
field_below zero s at small = lit< tt
field_below (suc k) s at small = rw (pow-suc 256 k) (digits_lt (field_below k s at (λ j h. small j (omega arith))) (small k (omega arith)))

-- Its byte j, if each of its bytes is one.
field_byte : (n : ℕ) (s : List ℕ) (at j : ℕ) → ((i : ℕ) → i < n → get_or s (at + i) 0 < 256) → j < n
    → field n s at / 2 ^ (8 * (n - suc j)) % 256 ≡ get_or s (at + j) 0
unfolding field
field_byte n s at j small h =
    let q : n ≡ suc j + (n - suc j) = omega arith in
    rw (← (bytes_power (n - suc j)))
    (ap (λ (w : ℕ). field w s at / 256 ^ (n - suc j) % 256) q
    ∙ ap (λ (x : ℕ). x / 256 ^ (n - suc j) % 256) (sym (field_joined s (suc j) (n - suc j) at))
    ∙ ap (λ (x : ℕ). x % 256)
    (digits_div (field (suc j) s at)
    (field_below (n - suc j) s (at + suc j) (λ i l. let r : at + (suc j + i) ≡ at + suc j + i = omega arith in rw r at (small (suc j + i) (omega arith)))))
    ∙ digits_mod (field j s at) (small j h))

-- Bytes that are a word's make the top of it, and eight of them all of it.
word_top : (s : List ℕ) (at w : ℕ) → w < 2 ^ 64 → ((j : ℕ) → j < 8 → get_or s (at + j) 0 ≡ w / 2 ^ (56 - j * 8) % 256)
    → (n : ℕ) → n ≤ 8 → field n s at ≡ w / 2 ^ (64 - 8 * n)
unfolding field
word_top s at w small g zero h = sym (div-eq_of_lt small)
word_top s at w small g (suc n) h =
    let q : 64 - 8 * n ≡ (56 - n * 8) + 8 = omega arith in
    let r : 64 - 8 * suc n ≡ 56 - n * 8 = omega arith in
    rw (word_top s at w small g n (omega arith), g n (omega arith), q, r, ← (shr-shr w (56 - n * 8) 8)) (div-add-mod' (w / 2 ^ (56 - n * 8)) 256)

-- ---- there and back
pub words_back : (ws lent : List ℕ) → Words ws → 64 ≤ length lent → words_of (fill lent (bytes_of ws)) ≡ ws
words_back ws lent words room =
    ext_get_or 0 (words_of (fill lent (bytes_of ws))) ws (words_length (fill lent (bytes_of ws)) ∙ sym words.0)
    (λ k h. let k8 : k < 8 = rw (words_length (fill lent (bytes_of ws))) at h in
    word_at (fill lent (bytes_of ws)) k k8
    ∙ word_top (fill lent (bytes_of ws)) (8 * k) (get_or ws k 0) (words.1 k k8)
    (λ j m. let q : (8 * k + j) / 8 ≡ k = omega arith in
    let r : (8 * k + j) % 8 ≡ j = omega arith in
    fill_at lent (bytes_of ws) (8 * k + j) (rw (bytes_length ws 64) (omega arith)) (rw (bytes_length ws 64) room)
    ∙ byte_at ws 64 (8 * k + j) (omega arith) ∙ rw (q, r))
    8 (omega arith)
    ∙ div-one (get_or ws k 0))

pub bytes_back : (s : List ℕ) → Bytes s → bytes_of (words_of s) ≡ s
bytes_back s bytes =
    ext_get_or 0 (bytes_of (words_of s)) s (bytes_length (words_of s) 64 ∙ sym bytes.0)
    (λ i h. let i64 : i < 64 = rw (bytes_length (words_of s) 64) at h in
    let q : 56 - i % 8 * 8 ≡ 8 * (8 - suc (i % 8)) = omega arith in
    let r : 8 * (i / 8) + i % 8 ≡ i = omega arith in
    byte_at (words_of s) 64 i i64
    ∙ rw (word_at s (i / 8) (omega arith), q)
    (field_byte 8 s (8 * (i / 8)) (i % 8) (λ j m. bytes.1 (8 * (i / 8) + j)) (omega arith) ∙ rw r))

pub bytes_words : (s : List ℕ) → Bytes s → Words (words_of s)
bytes_words s bytes = (words_length s, λ k h. rw (word_at s k h) (field_below 8 s (8 * k) (λ j _. bytes.1 (8 * k + j))))

-- ---- a record is its bits
bit_same : (x y : ℕ) → eqb (x % 2) 1 ≡ eqb (y % 2) 1 → x % 2 ≡ y % 2
bit_same x y q =
    by_cases (eqb (x % 2) 1)
    (λ e. let a = eqb-true (x % 2) 1 e in let b = eqb-true (y % 2) 1 (sym q ∙ e) in omega arith)
    (λ e. let a = eqb-false (x % 2) 1 e in let b = eqb-false (y % 2) 1 (sym q ∙ e) in omega arith)

pub same_bits : (a b : List ℕ) → Words a → Words b → ((e : ℕ) → e < 512 → bit_at a e ≡ bit_at b e) → a ≡ b
same_bits a b A B f =
    ext_get_or 0 a b (A.0 ∙ sym B.0)
    (λ i l. let h : i < 8 = omega (arith, A.0) in
    sym (mod-eq_of_lt (A.1 i h))
    ∙ low_same (get_or a i 0) (get_or b i 0) 64
    (λ j k. bit_same (get_or a i 0 / 2 ^ j) (get_or b i 0 / 2 ^ j) (sym (word_bit a i j h k) ∙ f (64 * i + (63 - j)) (omega arith) ∙ word_bit b i j h k))
    ∙ mod-eq_of_lt (B.1 i h))

-- Bit e is bit e % 8 of byte e / 8, counted from the top.
within_byte : (w k j : ℕ) → j < 8 → w / 2 ^ k % 256 / 2 ^ j % 2 ≡ w / 2 ^ (k + j) % 2
within_byte w k j h =
    let q : 8 ≡ (7 - j) + 1 + j = omega arith in
    ap (λ (n : ℕ). w / 2 ^ k % 2 ^ n / 2 ^ j % 2) q ∙ ap (λ (x : ℕ). x % 2) (bits_between (w / 2 ^ k) ((7 - j) + 1) j)
    ∙ mod-mod-pow (w / 2 ^ k / 2 ^ j) (7 - j) 1 ∙ ap (λ (x : ℕ). x % 2) (shr-shr w k j)

pub byte_bit : (ws : List ℕ) (e : ℕ) → e < 512 → bit_at ws e ≡ eqb (byte_of ws (e / 8) / 2 ^ (7 - e % 8) % 2) 1
unfolding bit_at
byte_bit ws e h =
    let q : e / 8 / 8 ≡ e / 64 = omega arith in
    let r : (56 - e / 8 % 8 * 8) + (7 - e % 8) ≡ 63 - e % 64 = omega arith in
    rw (lt-ltb e 512 h, within_byte (get_or ws (e / 8 / 8) 0) (56 - e / 8 % 8 * 8) (7 - e % 8) (omega arith), q, r)
