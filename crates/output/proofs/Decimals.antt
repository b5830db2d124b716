-- The digits of a number: read back they are the number, there is no leading zero, and a small number has few.
use mathlib.Core.Path.{◌≡◌, refl, ◌∙◌}
use mathlib.Core.List.{List, [], ◌∷◌, ◌++◌, foldl-append}
use Prim.Native.Nat.{ℕ, zero, suc, ◌+◌, ◌-◌, ◌/◌, ◌%◌, ◌^◌, ◌≤◌, ◌<◌}
use native.Mathlib.Nat.{pow-suc}
use native.Mathlib.Omega.{arith}
use lib.Dec.{ltb}
use lib.ListN.{length, get_or, length-append, get_or-append}
use borrow.Author.Tests.{ltb-true, ltb-false}
use Rattle.base.proofs.Truth.{by_cases}
use Rattle.output.specs.Decimal.{digits, decimal, value}

-- One digit, or those of the tenth and one more.
by_digits : (P : List ℕ → Type 0) (n v : ℕ) → (v < 10 → P ((48 + v) ∷ [])) → (10 ≤ v → P (digits n (v / 10) ++ ((48 + v % 10) ∷ []))) → P (digits (suc n) v)
unfolding digits
by_digits P n v f g = by_cases (ltb v 10) (λ e. rw e (f (ltb-true v 10 e))) (λ e. rw e (g (ltb-false v 10 e)))

-- The same by the tests that the code makes.
pub digits_none : (n v : ℕ) → n ≤ 0 → digits n v ≡ (48 + v % 10) ∷ []
unfolding digits
digits_none zero v h = refl
digits_none (suc n) v h = absurd (omega arith)

pub digits_few : (n v : ℕ) → v ≤ 9 → digits n v ≡ (48 + v % 10) ∷ []
unfolding digits
digits_few zero v h = refl
digits_few (suc n) v h =
    let e : v % 10 ≡ v = omega arith in by_digits (λ bs. bs ≡ (48 + v % 10) ∷ []) n v (λ l. rw e) (λ l. absurd (omega arith))

pub digits_more : (n v : ℕ) → 0 < n → 9 < v → digits n v ≡ digits (n - 1) (v / 10) ++ ((48 + v % 10) ∷ [])
digits_more zero v p h = absurd (omega arith)
digits_more (suc n) v p h =
    let e : suc n - 1 ≡ n = omega arith in
    rw e (by_digits (λ bs. bs ≡ digits n (v / 10) ++ ((48 + v % 10) ∷ [])) n v (λ l. absurd (omega arith)) (λ l. refl))

tenth : (n v : ℕ) → v < 10 ^ suc n → v / 10 < 10 ^ n
tenth n v h = omega (arith, rw pow-suc at h)

digits_back : (n v : ℕ) → v < 10 ^ suc n → value (digits n v) ≡ v
unfolding digits
digits_back zero v h = omega arith
digits_back (suc n) v h =
    by_digits (λ bs. value bs ≡ v) n v (λ l. omega arith)
    (λ l. foldl-append _ 0 (digits n (v / 10)) _ ∙ rw (digits_back n (v / 10) (tenth (suc n) v h)) (omega arith))

digits_some : (n v : ℕ) → 0 < length (digits n v)
unfolding digits
digits_some zero v = omega arith
digits_some (suc n) v = by_digits (λ bs. 0 < length bs) n v (λ l. omega arith) (λ l. simp length-append (omega arith))

digits_first : (n v : ℕ) → 0 < v → v < 10 ^ suc n → get_or (digits n v) 0 0 ≡ 48 → ⊥
unfolding digits
digits_first zero v p h = λ e. omega arith
digits_first (suc n) v p h =
    by_digits (λ bs. get_or bs 0 0 ≡ 48 → ⊥) n v (λ l e. omega arith)
    (λ l. rw (get_or-append (digits n (v / 10)) _ 0 0 (digits_some n (v / 10))) (digits_first n (v / 10) (omega arith) (tenth (suc n) v h)))

-- Each byte is a digit.
abbrev Digits : List ℕ → Type 0
Digits bs = (i : ℕ) → i < length bs → (48 ≤ get_or bs i 0) × (get_or bs i 0 ≤ 57)

one_digit : (d : ℕ) → d < 10 → Digits ((48 + d) ∷ [])
one_digit d l zero h = omega arith
one_digit d l (suc i) h = absurd (omega arith)

digits_append : (bs cs : List ℕ) → Digits bs → Digits cs → Digits (bs ++ cs)
digits_append [] cs f g i h = g i h
digits_append (b ∷ bs) cs f g zero h = f 0 (omega arith)
digits_append (b ∷ bs) cs f g (suc i) h = digits_append bs cs (λ k l. f (suc k) (omega arith)) g i (omega arith)

digits_each : (n v : ℕ) → Digits (digits n v)
unfolding digits
digits_each zero v = one_digit (v % 10) (omega arith)
digits_each (suc n) v =
    by_digits Digits n v (one_digit v) (λ l. digits_append (digits n (v / 10)) _ (digits_each n (v / 10)) (one_digit (v % 10) (omega arith)))

digits_short : (m n v : ℕ) → v < 10 ^ suc n → length (digits m v) ≤ suc n
unfolding digits
digits_short zero n v h = omega arith
digits_short (suc m) zero v h = by_digits (λ bs. length bs ≤ 1) m v (λ l. omega arith) (λ l. absurd (omega arith))
digits_short (suc m) (suc n) v h =
    by_digits (λ bs. length bs ≤ suc (suc n)) m v (λ l. omega arith)
    (λ l. simp length-append (omega (arith, digits_short m n (v / 10) (tenth (suc n) v h))))

-- Read back, the digits of every number of 64 bits are the number.
pub decimal_back : (v : ℕ) → v < 10 ^ 20 → value (decimal v) ≡ v
decimal_back v h = digits_back 19 v h

-- The first digit is 0 in 0 alone.
pub decimal_some : (v : ℕ) → 0 < length (decimal v)
decimal_some v = digits_some 19 v

pub decimal_first : (v : ℕ) → 0 < v → v < 10 ^ 20 → (get_or (decimal v) 0 0 ≡ 48 → ⊥)
decimal_first v p h = digits_first 19 v p h

pub decimal_digits : (v i : ℕ) → i < length (decimal v) → (48 ≤ get_or (decimal v) i 0) × (get_or (decimal v) i 0 ≤ 57)
decimal_digits v i h = digits_each 19 v i h

-- A number below a power of ten has no more digits than its exponent.
pub decimal_short : (n v : ℕ) → v < 10 ^ suc n → length (decimal v) ≤ suc n
decimal_short n v h = digits_short 19 n v h

-- No number has more than 20 digits.
digits_most : (n v : ℕ) → length (digits n v) ≤ suc n
unfolding digits
digits_most zero v = omega arith
digits_most (suc n) v = by_digits (λ bs. length bs ≤ suc (suc n)) n v (λ l. omega arith) (λ l. simp length-append (omega (arith, digits_most n (v / 10))))

pub decimal_most : (v : ℕ) → length (decimal v) ≤ 20
decimal_most v = digits_most 19 v
