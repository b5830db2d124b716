-- Two lists compared element by element.
use Rattle.std.specs.Prelude.{Bool, true, false, ◌&&◌, List, [], ◌∷◌, ℕ, eqb}

-- The same, by a test of the elements.
abbrev pub equal : {A : Type 0} → (A → A → Bool) → List A → List A → Bool
equal t [] [] = true
equal t [] (y ∷ m) = false
equal t (x ∷ l) [] = false
equal t (x ∷ l) (y ∷ m) = t x y && equal t l m

-- The same bytes.
abbrev pub same : List ℕ → List ℕ → Bool
same = equal eqb
