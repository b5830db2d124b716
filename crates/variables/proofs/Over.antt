-- Formulas over the variables of a run of events: the only one, or the first and then the others.
use mathlib.Core.Path.{◌≡◌, refl, sym, ap}
use mathlib.Core.Bool.{Bool, true, false}
use mathlib.Core.List.{List, ◌++◌, append_assoc}
use Prim.Native.Nat.{ℕ, zero, suc, ◌+◌, ◌-◌}
use native.Mathlib.Numerals.{add-one}
use native.Mathlib.Omega.{arith}
use Rattle.base.specs.Text.{bytes}
use Rattle.formulas.specs.Formulas.{is}
use Rattle.formulas.specs.Lines.{Naming, truth, formula}
use Rattle.formulas.specs.Conditions.{some_true, all_false}
use Rattle.variables.specs.code.Spelled.{connective, lead, over}

-- A variable has a value.
pub is_text : (v : Naming) (n : ℕ) (value : Bool) → formula v (is n value) ≡ v n ++ (bytes " = " ++ truth value)
unfolding formula
is_text v n value = refl

pub over_one : (v : Naming) (value : Bool) (from after : ℕ) → after ≡ 0 → formula v (over value from after) ≡ formula v (is from value)
unfolding some_true all_false
over_one v true from after e = rw e
over_one v false from after e = rw e

pub over_more : (v : Naming) (value : Bool) (from after : ℕ) → (after ≡ 0 → ⊥)
    → formula v (over value from after) ≡ lead v from value ++ (formula v (over value (from + 1) (after - 1)) ++ bytes ")")
unfolding some_true all_false formula
over_more v value from zero h = absurd (h refl)
over_more v true from (suc after) h =
    let e : suc after - 1 ≡ after = omega arith in
    rw (e, add-one from) (sym (ap (λ (bs : List ℕ). bytes "(" ++ bs) (append_assoc (formula v (is from true)) (connective true) _)))
over_more v false from (suc after) h =
    let e : suc after - 1 ≡ after = omega arith in
    rw (e, add-one from) (sym (ap (λ (bs : List ℕ). bytes "(" ++ bs) (append_assoc (formula v (is from false)) (connective false) _)))
