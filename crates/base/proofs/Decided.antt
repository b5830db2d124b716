-- The tests of bytes and of lists of bytes decide equality.
use mathlib.Core.Path.{◌≡◌, refl, ap₂}
use mathlib.Core.Logic.{◌↔◌}
use mathlib.Core.Bool.{Bool, true, false≢true}
use mathlib.Core.List.{List, [], ◌∷◌, cons≢nil, nil≢cons, head-eq_of_cons-eq, tail-eq_of_cons-eq}
use Prim.Native.Nat.{ℕ}
use lib.Dec.{eqb}
use borrow.Author.Tests.{eqb-true, eq-eqb}
use Rattle.base.specs.Equal.{equal, same}
use Rattle.base.proofs.Truth.{and_l, and_r, and_i}

-- One law over the element and its test.
equal_decides : {A : Type 0} (t : A → A → Bool) → ((x y : A) → (t x y ≡ true) ↔ (x ≡ y)) → (l m : List A) → (equal t l m ≡ true) ↔ (l ≡ m)
equal_decides t f [] [] = (λ h. refl, λ h. refl)
equal_decides t f [] (y ∷ m) = (λ h. absurd (false≢true h), λ h. absurd (nil≢cons h))
equal_decides t f (x ∷ l) [] = (λ h. absurd (false≢true h), λ h. absurd (cons≢nil h))
equal_decides {A} t f (x ∷ l) (y ∷ m) =
    let r = equal_decides t f l m in (
      λ h. ap₂ {C = List A} (λ (a : A) (k : List A). a ∷ k) ((f x y).0 (and_l (t x y) (equal t l m) h)) (r.0 (and_r (t x y) (equal t l m) h)),
      λ h. and_i ((f x y).1 (head-eq_of_cons-eq h)) (r.1 (tail-eq_of_cons-eq h)),
    )

pub same_decides : (m n : List ℕ) → (same m n ≡ true) ↔ (m ≡ n)
same_decides = equal_decides eqb (λ x y. (eqb-true x y, eq-eqb x y))

pub all_same_decides : (l m : List (List ℕ)) → (equal same l m ≡ true) ↔ (l ≡ m)
all_same_decides = equal_decides same same_decides
