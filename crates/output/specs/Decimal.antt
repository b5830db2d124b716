-- Numbers in decimal, their digits as bytes: 48 is the byte of 0.
use Rattle.std.specs.Prelude.{cond, ℕ, zero, suc, ◌+◌, ◌-◌, ◌*◌, ◌/◌, ◌%◌, ltb}
use mathlib.Core.List.{List, [], ◌∷◌, ◌++◌, foldl}

-- The last n + 1 digits of a number, or all of them where there are no more.
unfoldable pub digits : ℕ → ℕ → List ℕ
digits zero v = (48 + v % 10) ∷ []
digits (suc n) v = cond (ltb v 10) ((48 + v) ∷ []) (digits n (v / 10) ++ ((48 + v % 10) ∷ []))

-- A number, without leading zero: 20 digits are enough for 64 bits.
abbrev pub decimal : ℕ → List ℕ
decimal v = digits 19 v

-- What digits say, read from the left.
abbrev pub value : List ℕ → ℕ
value bs = foldl (λ v b. v * 10 + (b - 48)) 0 bs
