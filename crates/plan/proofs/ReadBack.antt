-- Numbers of 32 bits that were packed are read back.
use mathlib.Core.Path.{◌≡◌, refl, sym, ap, ◌∙◌}
use mathlib.Core.List.{List, [], ◌∷◌}
use Prim.Native.Nat.{ℕ, zero, suc, ◌+◌, ◌*◌, ◌/◌, ◌%◌, ◌<◌, ◌^◌}
use native.Mathlib.Nat.{zero-add}
use native.Mathlib.Omega.{arith}
use lib.ListN.{length, get_or}
use Rattle.base.specs.Packed.{field, packed}

pub packed_length : (ws : List ℕ) → length (packed ws) ≡ 4 * length ws
unfolding packed
packed_length [] = refl
packed_length (w ∷ ws) = omega (arith, packed_length ws)

-- A number of bytes depends on those bytes only.
field_same : (n : ℕ) (o q : List ℕ) (i j : ℕ) → ((k : ℕ) → get_or o (i + k) 0 ≡ get_or q (j + k) 0) → field n o i ≡ field n q j
unfolding field
field_same zero o q i j f = refl
field_same (suc n) o q i j f = rw (field_same n o q i j f, f n)

-- Past the first of them.
field_later : (n w : ℕ) (ws : List ℕ) (i : ℕ) → field n (packed (w ∷ ws)) (4 + i) ≡ field n (packed ws) i
unfolding packed
field_later n w ws i =
    field_same n (packed (w ∷ ws)) (packed ws) (4 + i) i
    (λ k. let e : 4 + i + k ≡ suc (suc (suc (suc (i + k)))) = omega arith in rw e)

-- Its bytes make a number.
bytes_joined : (w : ℕ) → w < 2 ^ 32 → (((w / 16777216 % 256) * 256 + w / 65536 % 256) * 256 + w / 256 % 256) * 256 + w % 256 ≡ w
bytes_joined w k =
    let a : w / 16777216 % 256 ≡ w / 16777216 = omega (arith, k) in
    let b : w / 65536 ≡ w / 16777216 * 256 + w / 65536 % 256 = omega arith in
    let c : w / 256 ≡ w / 65536 * 256 + w / 256 % 256 = omega arith in
    let d : w ≡ w / 256 * 256 + w % 256 = omega arith in
    rw (a, ← b, ← c) (sym d)

-- The i-th number.
pub word_back : (ws : List ℕ) (i : ℕ) → i < length ws → get_or ws i 0 < 2 ^ 32 → field 4 (packed ws) (4 * i) ≡ get_or ws i 0
unfolding packed field
word_back [] i h k = absurd (omega (arith, h))
word_back (w ∷ ws) zero h k = rw zero-add (bytes_joined w k)
word_back (w ∷ ws) (suc i) h k =
    let e : 4 * suc i ≡ 4 + 4 * i = omega arith in
    ap (field 4 (packed (w ∷ ws))) e ∙ (field_later 4 w ws (4 * i) ∙ word_back ws i (omega (arith, h)) k)

-- The halves of the first number.
pub halves_back : (ws : List ℕ) (a b : ℕ) → a < 65536 → b < 65536
    → (field 2 (packed ((a * 65536 + b) ∷ ws)) 0 ≡ a) × (field 2 (packed ((a * 65536 + b) ∷ ws)) 2 ≡ b)
unfolding packed field
halves_back ws a b h k =
    let w = a * 65536 + b in
    let x : w / 16777216 % 256 ≡ a / 256 = omega (arith, h, k) in
    let y : w / 65536 % 256 ≡ a % 256 = omega (arith, h, k) in
    let z : w / 256 % 256 ≡ b / 256 = omega (arith, h, k) in
    let u : w % 256 ≡ b % 256 = omega (arith, h, k) in
    (rw (x, y) (omega arith), rw (z, u) (omega arith))
