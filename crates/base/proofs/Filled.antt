-- Laws of a lent list after values were written over its front, for every crate that writes one.
use mathlib.Core.Path.{◌≡◌, refl, sym, ap, ◌∙◌}
use mathlib.Core.List.{List, [], ◌∷◌, ◌++◌}
use Prim.Native.Nat.{ℕ, zero, suc, ◌≤◌, ◌<◌}
use native.Mathlib.Omega.{arith}
use lib.ListN.{length, take, drop, get_or, set}
use lib.Seq.{take_all, take-suc, length-take-le, get_or-take}
use Rattle.base.specs.Fill.{fill}

-- A lent list keeps its length.
pub fill_length : {A : Type 0} (xs vs : List A) → length (fill xs vs) ≡ length xs
unfolding fill
fill_length [] vs = refl
fill_length (x ∷ xs) [] = refl
fill_length (x ∷ xs) (v ∷ vs) = ap suc (fill_length xs vs)

-- What was written over the front of a list that is long enough, and what stands past it.
pub fill_front : {A : Type 0} (xs vs : List A) → length vs ≤ length xs → take (length vs) (fill xs vs) ≡ vs
unfolding fill
fill_front [] [] h = refl
fill_front [] (v ∷ vs) h = let z : ⊥ = omega arith in absurd z
fill_front (x ∷ xs) [] h = refl
fill_front (x ∷ xs) (v ∷ vs) h = ap (λ l. v ∷ l) (fill_front xs vs (omega arith))

pub fill_at : (xs vs : List ℕ) (i : ℕ) → i < length vs → length vs ≤ length xs → get_or (fill xs vs) i 0 ≡ get_or vs i 0
fill_at xs vs i l h = sym (get_or-take (length vs) (fill xs vs) i 0 l) ∙ rw (fill_front xs vs h)

pub fill_past : {A : Type 0} (xs vs : List A) → drop (length vs) (fill xs vs) ≡ drop (length vs) xs
unfolding fill
fill_past [] [] = refl
fill_past [] (v ∷ vs) = refl
fill_past (x ∷ xs) [] = refl
fill_past (x ∷ xs) (v ∷ vs) = fill_past xs vs

-- Writing one value more over the front of a lent list.
pub fill_none : {A : Type 0} (xs : List A) → fill xs [] ≡ xs
unfolding fill
fill_none [] = refl
fill_none (x ∷ xs) = refl

pub fill_next : {A : Type 0} (xs vs : List A) (v : A) → set (fill xs vs) (length vs) v ≡ fill xs (vs ++ (v ∷ []))
unfolding fill
fill_next [] vs v = refl
fill_next (x ∷ xs) [] v = rw (fill_none xs)
fill_next (x ∷ xs) (w ∷ vs) v = rw (fill_next xs vs v)

-- The same where the values are those of a list, in its order.
pub fill_more : (xs vs : List ℕ) (n : ℕ) → n < length vs → set (fill xs (take n vs)) n (get_or vs n 0) ≡ fill xs (take (suc n) vs)
fill_more xs vs n h =
    rw (take-suc vs n 0 h) (rw (length-take-le n vs (omega arith)) at (fill_next xs (take n vs) (get_or vs n 0)))

-- Values as many as the list has leave nothing of it.
pub fill_whole : {A : Type 0} (xs vs : List A) → length vs ≡ length xs → fill xs vs ≡ vs
fill_whole xs vs h =
    sym (take_all (length vs) (fill xs vs) (omega (arith, h, fill_length xs vs))) ∙ fill_front xs vs (omega (arith, h))

-- A list whose end is that of another is the other with its front written over.
pub fill_taken : {A : Type 0} (xs ys : List A) (n : ℕ) → length ys ≡ length xs → drop n ys ≡ drop n xs → fill xs (take n ys) ≡ ys
unfolding fill
fill_taken [] [] n l d = refl
fill_taken [] (y ∷ ys) n l d = absurd (omega (arith, l))
fill_taken (x ∷ xs) [] n l d = absurd (omega (arith, l))
fill_taken (x ∷ xs) (y ∷ ys) zero l d = sym d
fill_taken (x ∷ xs) (y ∷ ys) (suc n) l d = ap (λ zs. y ∷ zs) (fill_taken xs ys n (omega (arith, l)) d)
