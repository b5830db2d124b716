-- What a lent list holds after values were written over its front, as far as it goes.
use Rattle.std.specs.Prelude.{List, [], ◌∷◌}

unfoldable pub fill : {A : Type 0} → List A → List A → List A
fill [] vs = []
fill (x ∷ xs) [] = x ∷ xs
fill (x ∷ xs) (v ∷ vs) = v ∷ fill xs vs
