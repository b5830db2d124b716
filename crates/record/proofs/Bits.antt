-- The bits of a word and of a record after one of them is set or cleared.
use mathlib.Core.Path.{◌≡◌, refl, sym, ap, ◌∙◌}
use mathlib.Core.Bool.{true, false, cond, ◌&&◌}
use mathlib.Core.List.{List, [], ◌∷◌}
use mathlib.Core.Logic.{◌≢◌, ◌⊎◌, inl, inr, ⊎_elim}
use Prim.Native.Nat.{ℕ, zero, suc, ◌+◌, ◌-◌, ◌*◌, ◌/◌, ◌%◌, ◌^◌, ◌≤◌, ◌<◌}
use native.Mathlib.Nat.{zero-add, suc-add, one-mul, mod-lt, mul-mod_left, div_self, div-eq_of_lt, zero-lt-suc}
use native.Mathlib.Numerals.{add-one}
use native.Mathlib.Omega.{arith}
use lib.ListN.{length, get_or, set, length-set}
use lib.Seq.{get_or-set_same, get_or-set_other, set_out}
use lib.Dec.{eqb, ltb, leb, lit<}
use lib.Pow.{pow_pos, pow-add, pow-lt, shl-shr, shl_exact}
use lib.Bits.{bit_or, bit_xor, or_lt, xor_lt, or_shr, or_mod, xor_shr, xor_mod, or_zero_r, xor_zero_r}
use borrow.Author.Tests.{eqb-true, eqb-false, eq-eqb, ltb-true, ltb-false, leb-true, leb-false, le-leb, le-ltb, lt-ltb}
use Rattle.base.proofs.Truth.{by_cases}
use Rattle.record.specs.Bits.{Words, bit_at, change, set_bit, without, clear_bit, clear_bits}

pub one_shl : (k : ℕ) → k < 64 → (1 * 2 ^ k) % 2 ^ 64 ≡ 2 ^ k
one_shl k h = shl_exact {a = 1} 1 k 64 (lit< tt) (omega arith) ∙ one-mul (2 ^ k)

-- ---- the bits of one word
pow_same : (k : ℕ) → 2 ^ k / 2 ^ k % 2 ≡ 1
pow_same k = ap (λ (x : ℕ). x % 2) (div_self (pow_pos k))

pow_split : (d j : ℕ) → 2 ^ (d + 1 + j) ≡ 2 ^ d * 2 * 2 ^ j
pow_split d j = pow-add 2 (d + 1) j ∙ ap (λ (x : ℕ). x * 2 ^ j) (pow-add 2 d 1)

pow_other : (j k : ℕ) → j ≢ k → 2 ^ k / 2 ^ j % 2 ≡ 0
pow_other j k n =
    by_cases (ltb k j)
    (λ e. ap (λ (x : ℕ). x % 2) (div-eq_of_lt (pow-lt (ltb-true k j e))))
    (λ e. let g = ltb-false k j e in
    let q : k ≡ (k - j - 1) + 1 + j = omega (arith, n) in
    ap (λ (x : ℕ). 2 ^ x / 2 ^ j % 2) q ∙ ap (λ (x : ℕ). x / 2 ^ j % 2) (pow_split (k - j - 1) j)
    ∙ ap (λ (x : ℕ). x % 2) (shl-shr (2 ^ (k - j - 1) * 2) j) ∙ mul-mod_left _ _)

two : (y : ℕ) → y < 2 → (y ≡ 0) ⊎ (y ≡ 1)
two y h = by_cases (eqb y 0) (λ e. inl (eqb-true y 0 e)) (λ e. inr (omega (arith, eqb-false y 0 e)))

low : (x j : ℕ) → x / 2 ^ j % 2 < 2
low x j = mod-lt (x / 2 ^ j) (zero-lt-suc 1)

or_bit : (a b j : ℕ) → bit_or a b / 2 ^ j % 2 ≡ bit_or (a / 2 ^ j % 2) (b / 2 ^ j % 2)
or_bit a b j = ap (λ (x : ℕ). x % 2) (or_shr a b j) ∙ or_mod (a / 2 ^ j) (b / 2 ^ j) 1

xor_bit : (a b j : ℕ) → bit_xor a b / 2 ^ j % 2 ≡ bit_xor (a / 2 ^ j % 2) (b / 2 ^ j % 2)
xor_bit a b j = ap (λ (x : ℕ). x % 2) (xor_shr a b j) ∙ xor_mod (a / 2 ^ j) (b / 2 ^ j) 1

or_one : (y : ℕ) → y < 2 → bit_or y 1 ≡ 1
or_one y h = ⊎_elim (λ e. rw e) (λ e. rw e) (two y h)

set_same : (x k : ℕ) → bit_or x (2 ^ k) / 2 ^ k % 2 ≡ 1
set_same x k = or_bit x (2 ^ k) k ∙ ap (bit_or (x / 2 ^ k % 2)) (pow_same k) ∙ or_one _ (low x k)

set_other : (x j k : ℕ) → j ≢ k → bit_or x (2 ^ k) / 2 ^ j % 2 ≡ x / 2 ^ j % 2
set_other x j k n = or_bit x (2 ^ k) j ∙ ap (bit_or (x / 2 ^ j % 2)) (pow_other j k n) ∙ or_zero_r _

clear_same : (x k : ℕ) → bit_xor (bit_or x (2 ^ k)) (2 ^ k) / 2 ^ k % 2 ≡ 0
clear_same x k = xor_bit (bit_or x (2 ^ k)) (2 ^ k) k ∙ rw (set_same x k, pow_same k)

clear_other : (x j k : ℕ) → j ≢ k → bit_xor (bit_or x (2 ^ k)) (2 ^ k) / 2 ^ j % 2 ≡ x / 2 ^ j % 2
clear_other x j k n = xor_bit (bit_or x (2 ^ k)) (2 ^ k) j ∙ rw (set_other x j k n, pow_other j k n) (xor_zero_r _)

-- ---- the bits of a record
-- No bit from 512 on, and a change there changes nothing.
pub bit_out : (ws : List ℕ) (e : ℕ) → 512 ≤ e → bit_at ws e ≡ false
unfolding bit_at
bit_out ws e h = rw (le-ltb e 512 h)

pub change_out : (f : ℕ → ℕ → ℕ) (ws : List ℕ) (e : ℕ) → 512 ≤ e → change f ws e ≡ ws
unfolding change
change_out f ws e h = rw (le-ltb e 512 h)

change_in : (f : ℕ → ℕ → ℕ) (ws : List ℕ) (e : ℕ) → e < 512
    → change f ws e ≡ set ws (e / 64) (f (get_or ws (e / 64) 0) (2 ^ (63 - e % 64)))
unfolding change
change_in f ws e h = rw (lt-ltb e 512 h)

-- The change that the code makes, with the mask that it was given.
pub change_by : (f : ℕ → ℕ → ℕ) (ws : List ℕ) (e m : ℕ) → e < 512 → m ≡ 2 ^ (63 - e % 64) → set ws (e / 64) (f (get_or ws (e / 64) 0) m) ≡ change f ws e
change_by f ws e m h q = rw q (sym (change_in f ws e h))

pub length_change : (f : ℕ → ℕ → ℕ) (ws : List ℕ) (e : ℕ) → length (change f ws e) ≡ length ws
unfolding change
length_change f ws e = by_cases (ltb e 512) (λ q. rw q (length-set ws (e / 64) _)) (λ q. rw q)

-- A change at one bit leaves eight words of 64 bits, if it keeps a word below 2 ^ 64.
set_below : (ws : List ℕ) (k v i b : ℕ) → v < b → get_or ws i 0 < b → get_or (set ws k v) i 0 < b
set_below [] k v i b p q = q
set_below (w ∷ ws) zero v zero b p q = p
set_below (w ∷ ws) zero v (suc i) b p q = q
set_below (w ∷ ws) (suc k) v zero b p q = q
set_below (w ∷ ws) (suc k) v (suc i) b p q = set_below ws k v i b p q

change_words : (f : ℕ → ℕ → ℕ) → ((x m : ℕ) → x < 2 ^ 64 → m < 2 ^ 64 → f x m < 2 ^ 64) → (ws : List ℕ) (e : ℕ) → Words ws → Words (change f ws e)
change_words f keeps ws e words = (
  length_change f ws e ∙ words.0,
  λ i l. by_cases (ltb e 512)
      (λ q. let h = ltb-true e 512 q in
      let k : 63 - e % 64 < 64 = omega arith in
      rw (change_in f ws e h) (set_below ws (e / 64) _ i (2 ^ 64) (keeps _ _ (words.1 (e / 64) (omega arith)) (pow-lt k)) (words.1 i l)))
      (λ q. rw (change_out f ws e (ltb-false e 512 q)) (words.1 i l)),
)

pub set_words : (ws : List ℕ) (e : ℕ) → Words ws → Words (set_bit ws e)
set_words = change_words bit_or (or_lt 64)

pub clear_words : (ws : List ℕ) (first n : ℕ) → Words ws → Words (clear_bits ws first n)
unfolding clear_bits
clear_words ws first zero words = words
clear_words ws first (suc n) words =
    change_words without (λ x m p q. xor_lt 64 _ m (or_lt 64 x m p q) q) (clear_bits ws first n) (first + n)
    (clear_words ws first n words)

-- A change at one bit leaves the others, if it does so in a word.
module _ (f : ℕ → ℕ → ℕ) (other : (x j k : ℕ) → j ≢ k → f x (2 ^ k) / 2 ^ j % 2 ≡ x / 2 ^ j % 2) where
  in_word : (ws : List ℕ) (e i : ℕ) → i ≢ e
      → get_or (set ws (e / 64) (f (get_or ws (e / 64) 0) (2 ^ (63 - e % 64)))) (i / 64) 0 / 2 ^ (63 - i % 64) % 2 ≡ get_or ws (i / 64) 0 / 2 ^ (63 - i % 64) % 2
  in_word ws e i n =
      by_cases (eqb (i / 64) (e / 64))
      (λ q. let h = eqb-true (i / 64) (e / 64) q in
      by_cases (ltb (e / 64) (length ws))
      (λ l. rw (h, get_or-set_same ws (e / 64) _ 0 (ltb-true _ _ l)) (other _ (63 - i % 64) (63 - e % 64) (λ p. n (omega arith))))
      (λ l. rw (set_out ws (e / 64) _ (ltb-false _ _ l))))
      (λ q. rw (get_or-set_other ws (e / 64) (i / 64) _ 0 (eqb-false _ _ q)) refl)

  at_other : (ws : List ℕ) (e i : ℕ) → i ≢ e → bit_at (change f ws e) i ≡ bit_at ws i
  unfolding bit_at change
  at_other ws e i n = by_cases (ltb e 512) (λ q. rw (q, in_word ws e i n)) (λ q. rw q)

at_same : (f : ℕ → ℕ → ℕ) (ws : List ℕ) (e : ℕ) → length ws ≡ 8 → e < 512
    → bit_at (change f ws e) e ≡ eqb (f (get_or ws (e / 64) 0) (2 ^ (63 - e % 64)) / 2 ^ (63 - e % 64) % 2) 1
unfolding bit_at change
at_same f ws e l h = rw (lt-ltb e 512 h, get_or-set_same ws (e / 64) (f (get_or ws (e / 64) 0) (2 ^ (63 - e % 64))) 0 (rw l (omega arith)))

pub bit_set_same : (ws : List ℕ) (e : ℕ) → length ws ≡ 8 → e < 512 → bit_at (set_bit ws e) e ≡ true
bit_set_same ws e l h = at_same bit_or ws e l h ∙ eq-eqb _ 1 (set_same (get_or ws (e / 64) 0) (63 - e % 64))

pub bit_set_other : (ws : List ℕ) (e i : ℕ) → i ≢ e → bit_at (set_bit ws e) i ≡ bit_at ws i
bit_set_other ws e i n = at_other bit_or set_other ws e i n

pub bit_clear_same : (ws : List ℕ) (e : ℕ) → length ws ≡ 8 → e < 512 → bit_at (clear_bit ws e) e ≡ false
bit_clear_same ws e l h =
    at_same without ws e l h ∙ ap (λ (y : ℕ). eqb y 1) (clear_same (get_or ws (e / 64) 0) (63 - e % 64))

pub bit_clear_other : (ws : List ℕ) (e i : ℕ) → i ≢ e → bit_at (clear_bit ws e) i ≡ bit_at ws i
bit_clear_other ws e i n = at_other without clear_other ws e i n

pub length_clear_bits : (ws : List ℕ) (first n : ℕ) → length (clear_bits ws first n) ≡ length ws
unfolding clear_bits
length_clear_bits ws first zero = refl
length_clear_bits ws first (suc n) = length_change without (clear_bits ws first n) (first + n) ∙ length_clear_bits ws first n

-- Clearing bits from 512 on changes nothing.
clear_bits_out : (ws : List ℕ) (first n k : ℕ) → 512 ≤ first + n → clear_bits ws first (k + n) ≡ clear_bits ws first n
unfolding clear_bits
clear_bits_out ws first n zero h = rw (zero-add n)
clear_bits_out ws first n (suc k) h =
    rw (suc-add k n)
    (change_out without (clear_bits ws first (k + n)) (first + (k + n)) (omega arith) ∙ clear_bits_out ws first n k h)

-- What the loop that clears holds: at its start, after one more bit, and where it stops at 512.
pub clear_bits_none : (ws : List ℕ) (first : ℕ) → ws ≡ clear_bits ws first 0
unfolding clear_bits
clear_bits_none ws first = refl

pub clear_bits_more : (ws bs cs : List ℕ) (first i : ℕ) → bs ≡ clear_bits ws first i → cs ≡ clear_bit bs (first + i) → cs ≡ clear_bits ws first (i + 1)
unfolding clear_bits
clear_bits_more ws bs cs first i b c = c ∙ rw (b, add-one i)

pub clear_bits_past : (ws bs : List ℕ) (first i count : ℕ) → bs ≡ clear_bits ws first i → 512 ≤ first + i → 512 ≤ first + count
    → bs ≡ clear_bits ws first count
clear_bits_past ws bs first i count b h k =
    by_cases (leb i count)
    (λ l. let least = leb-true i count l in
    let q : (count - i) + i ≡ count = omega arith in
    b ∙ sym (clear_bits_out ws first i (count - i) h) ∙ ap (clear_bits ws first) q)
    (λ l. let least = leb-false i count l in
    let q : i ≡ (i - count) + count = omega arith in
    b ∙ ap (clear_bits ws first) q ∙ clear_bits_out ws first count (i - count) k)

-- A run of bits is cleared, and no other bit changes.
pub bits_cleared : (ws : List ℕ) (first n i : ℕ) → length ws ≡ 8 → i < 512
    → bit_at (clear_bits ws first n) i ≡ cond (leb first i && ltb i (first + n)) false (bit_at ws i)
unfolding clear_bits
bits_cleared ws first zero i l h =
    by_cases (leb first i) (λ e. simp (e, le-ltb i (first + 0) (omega (arith, leb-true first i e)))) (λ e. simp e)
bits_cleared ws first (suc n) i l h =
    by_cases (eqb i (first + n))
    (λ e. let q = eqb-true i (first + n) e in
    rw (le-leb first i (omega arith), lt-ltb i (first + suc n) (omega arith))
    (rw q (bit_clear_same (clear_bits ws first n) (first + n) (length_clear_bits ws first n ∙ l) (rw q at h))))
    (λ e. let q = eqb-false i (first + n) e in
    bit_clear_other (clear_bits ws first n) (first + n) i q ∙ bits_cleared ws first n i l h
    ∙ by_cases (ltb i (first + n))
    (λ b. rw (b, lt-ltb i (first + suc n) (omega (arith, ltb-true i (first + n) b))))
    (λ b. rw (b, le-ltb i (first + suc n) (omega (arith, ltb-false i (first + n) b, q)))))
