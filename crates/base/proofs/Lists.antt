-- Laws of lists that the kit's libraries lack.
use mathlib.Core.Path.{◌≡◌, sym, ap, ◌∙◌}
use mathlib.Core.List.{List, ◌∷◌}
use Prim.Native.Nat.{ℕ, suc}
use native.Mathlib.Numerals.{add-one}
use lib.ListN.{drop}
use lib.Seq.{drop-drop}

-- What is left of a list, without its first element.
pub drop_next : {A : Type 0} (l rest : List A) (k : ℕ) (x : A) → drop k l ≡ x ∷ rest → drop (suc k) l ≡ rest
drop_next {A} l rest k x e = ap (λ (j : ℕ). drop j l) (sym (add-one k)) ∙ sym (drop-drop 1 k l) ∙ ap (λ (m : List A). drop 1 m) e
