-- Where a byte stands.
use Rattle.std.proofs.Common.{◌≡◌, ℕ, ◌<◌, ◌==◌, nat_lt, Some, None, List, [], ◌∷◌, length, refl, sym, ◌∙◌, arith}
use Rattle.std.specs.List.{position, position_or_len}
use borrow.Author.Tests.{ltb-true, ltb-false}
use Rattle.base.proofs.Truth.{by_cases}
use Rattle.tokens.specs.Words.{front}
use Rattle.tokens.proofs.Front.{front_le}
use Rattle.said.specs.Search.{other_than, index_of}

first_at : (b : ℕ) (bs : List ℕ) → index_of b bs ≡ position_or_len (λ x. x == b) bs
unfolding front
first_at b [] = refl
first_at b (x ∷ bs) = by_cases (x == b) (λ e. rw e) (λ e. rw (e, first_at b bs) (omega arith))

pub place_found : (b : ℕ) (bs : List ℕ) (i : ℕ) → Some i ≡ position (λ x. x == b) bs → (i ≡ index_of b bs) × (i < length bs)
place_found b bs i q =
    let n = position_or_len (λ x. x == b) bs in
    by_cases (nat_lt n (length bs))
    (λ e. let k : i ≡ n = let z : Some i ≡ Some n = rw e at q in cc in (k ∙ sym (first_at b bs), omega (arith, k, ltb-true n (length bs) e)))
    (λ e. let z : Some i ≡ None = rw e at q in cc)

pub no_place : (b : ℕ) (bs : List ℕ) → None ≡ position (λ x. x == b) bs → index_of b bs ≡ length bs
no_place b bs q =
    let n = position_or_len (λ x. x == b) bs in
    by_cases (nat_lt n (length bs))
    (λ e. let z : None ≡ Some n = rw e at q in cc)
    (λ e. omega (arith, first_at b bs, ltb-false n (length bs) e, front_le (other_than b) bs))
