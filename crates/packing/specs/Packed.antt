-- How an answer is packed into one number of 64 bits, for callers that know numbers only: a refusal is its number times 2^32 and its place, a result is below
-- 2^32.
use mathlib.Core.List.{List, foldl}
use Rattle.std.specs.Prelude.{ℕ, ◌+◌, ◌*◌, ◌%◌, ◌^◌}
use Rattle.base.specs.Reports.{Report}

-- Values side by side, each cut to w bits, the last one lowest.
abbrev pub beside : ℕ → List ℕ → ℕ
beside w vs = foldl (λ n v. n * 2 ^ w + v % 2 ^ w) 0 vs

-- Number, place and values of w bits each. A result has number and place 0, a refusal has no values; the place is cut to 32 bits.
abbrev pub packed : ℕ → Report → ℕ
packed w r = r.number * 2 ^ 32 + (r.place % 2 ^ 32 + beside w r.values)
