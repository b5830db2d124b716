-- The lines of some bytes: the first ends at the first byte 10. Assumes nothing.
use mathlib.Core.Path.{◌≡◌, refl, sym, ◌∙◌}
use mathlib.Core.Bool.{true, false}
use mathlib.Core.List.{List, [], ◌∷◌}
use Prim.Native.Nat.{ℕ, suc, ◌≤◌}
use native.Mathlib.Omega.{arith}
use lib.Dec.{eqb}
use borrow.Author.Tests.{eqb-true}
use lib.ListN.{length, take, drop}
use Rattle.base.proofs.Truth.{by_cases}
use Rattle.tokens.specs.Words.{front}
use Rattle.said.specs.Search.{index_of}
use Rattle.said.specs.Lines.{onto, lines, first, rest}

pub line_here : (b : ℕ) (bs : List ℕ) → eqb b 10 ≡ true → lines (b ∷ bs) ≡ [] ∷ lines bs
unfolding lines
line_here b bs e = rw e

pub line_on : (b : ℕ) (bs : List ℕ) → eqb b 10 ≡ false → lines (b ∷ bs) ≡ onto b (lines bs)
unfolding lines
line_on b bs e = rw e

pub no_lines : lines [] ≡ []
unfolding lines
no_lines = refl

-- The first line, with a byte put before it.
first_onto : (b : ℕ) (ls : List (List ℕ)) → first (onto b ls) ≡ b ∷ first ls
first_onto b [] = refl
first_onto b (l ∷ ls) = refl

rest_onto : (b : ℕ) (ls : List (List ℕ)) → rest (onto b ls) ≡ rest ls
rest_onto b [] = refl
rest_onto b (l ∷ ls) = refl

onto_one : (b : ℕ) (ls : List (List ℕ)) → onto b ls ≡ first (onto b ls) ∷ rest (onto b ls)
onto_one b [] = refl
onto_one b (l ∷ ls) = refl

-- Bytes are a line and the lines after it.
lines_first : (xs : List ℕ) → false ≡ eqb (length xs) 0 → lines xs ≡ first (lines xs) ∷ rest (lines xs)
lines_first [] h = cc
lines_first (b ∷ bs) h = by_cases (eqb b 10) (λ e. rw (line_here b bs e)) (λ e. rw (line_on b bs e) (onto_one b (lines bs)))

-- The first line ends at the first byte 10.
first_ends : (xs : List ℕ) → (take (index_of 10 xs) xs ≡ first (lines xs)) × (lines (drop (suc (index_of 10 xs)) xs) ≡ rest (lines xs))
unfolding front
first_ends [] = (rw no_lines, rw no_lines)
first_ends (b ∷ bs) =
    by_cases (eqb b 10)
    (λ e. (rw (line_here b bs e, e), rw (line_here b bs e, e)))
    (λ e. let p = first_ends bs in (rw (line_on b bs e, e, first_onto, p.0), rw (line_on b bs e, e, rest_onto, p.1)))

-- The lines where there are bytes, by where the first ends, and where there are none.
pub one_line : (xs l ys : List ℕ) → false ≡ eqb (length xs) 0 → l ≡ take (index_of 10 xs) xs → ys ≡ drop (suc (index_of 10 xs)) xs → lines xs ≡ l ∷ lines ys
one_line xs l ys h p q = let f = first_ends xs in lines_first xs h ∙ rw (p, q, f.0, f.1)

pub lines_empty : (xs : List ℕ) → true ≡ eqb (length xs) 0 → lines xs ≡ []
lines_empty [] h = no_lines
lines_empty (b ∷ bs) h = absurd (omega (arith, eqb-true (length (b ∷ bs)) 0 (sym h)))

-- No more lines than bytes.
onto_few : (b : ℕ) (ls : List (List ℕ)) (n : ℕ) → length ls ≤ n → length (onto b ls) ≤ suc n
onto_few b [] n h = omega arith
onto_few b (l ∷ ls) n h = omega arith

pub lines_few : (bs : List ℕ) → length (lines bs) ≤ length bs
lines_few [] = rw no_lines (omega arith)
lines_few (b ∷ bs) =
    by_cases (eqb b 10)
    (λ e. rw (line_here b bs e) (omega (arith, lines_few bs)))
    (λ e. rw (line_on b bs e) (onto_few b (lines bs) (length bs) (lines_few bs)))

-- All but the first.
pub after_first : (ls : List (List ℕ)) → drop 1 ls ≡ rest ls
after_first [] = refl
after_first (l ∷ ls) = refl
