-- How long lines of two numbers are.
use mathlib.Core.List.{List}
use Prim.Native.Nat.{ℕ, suc, ◌+◌, ◌^◌, ◌≤◌, ◌<◌}
use native.Mathlib.Omega.{arith}
use lib.ListN.{length, length-append}
use Rattle.base.specs.Text.{bytes}
use Rattle.output.specs.Lines.{two_numbers, refused_line}
use Rattle.output.proofs.Decimals.{decimal_short, decimal_most}

-- By how many digits the numbers have at most, each one more than i and j.
pub two_numbers_short : (words between : List ℕ) (m n i j : ℕ) → m < 10 ^ suc i → n < 10 ^ suc j
    → length (two_numbers words m between n) ≤ length words + length between + (i + j + 3)
two_numbers_short words between m n i j h k = simp length-append (omega (arith, decimal_short i m h, decimal_short j n k))

-- A refusal of document 01 has a number of at most 2 digits, and a place of at most 5.
pub refused_short : (number place : ℕ) → number < 100 → place < 100000 → length (refused_line number place) ≤ 17
unfolding refused_line
refused_short number place h k = omega (arith, two_numbers_short (bytes "refused ") (bytes " ") number place 1 4 h k)

-- Whatever they are.
pub refused_most : (number place : ℕ) → length (refused_line number place) ≤ 50
unfolding refused_line
refused_most number place = simp length-append (omega (arith, decimal_most number, decimal_most place))
