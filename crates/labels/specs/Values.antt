-- The values of an event as the code holds them: "at most 3 replicators surround a node".
use Rattle.std.specs.Prelude.{cond, List, ℕ, eqb, length, get_or}
use Rattle.labels.specs.declared.Values.{Values}

abbrev pub values : ℕ → ℕ → ℕ → ℕ → Values
values count a b c = record { count = count; first = a; second = b; third = c }

-- How many values there are, and the values, outermost first.
abbrev pub packed : List ℕ → Values
packed vs = values (length vs) (get_or vs 0 0) (get_or vs 1 0) (get_or vs 2 0)

-- One value more; a fourth is left out.
unfoldable pub push : Values → ℕ → Values
push v x =
    cond (eqb v.count 0) (values 1 x 0 0)
    (cond (eqb v.count 1) (values 2 v.first x 0)
    (cond (eqb v.count 2) (values 3 v.first v.second x) v))
