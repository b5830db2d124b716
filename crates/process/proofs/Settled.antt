-- A process is settled where it is complete or not begun: laws of that test for the ways of joining whose test is that of their parts.
use mathlib.Core.Path.{◌≡◌, refl, sym}
use mathlib.Core.Bool.{Bool, true, false, not, ◌&&◌, ◌||◌, or-true, or-false}

-- A loop over a flow is settled where its body is, for it is complete then. The body is begun by a, complete by b; c is the reset's bit.
pub loop_settled : (a b c : Bool) → (b || not a) ≡ ((not a || b) || not (a || c))
loop_settled true b c = refl
loop_settled false b c = or-true b

-- Either part or both: settled where both parts are. The parts are begun by a and b, complete by c and d.
pub some_settled : (a b c d : Bool)
    → ((c || not a) && (d || not b)) ≡ (((a || b) && ((c || not a) && (d || not b))) || not (a || b))
some_settled true b c d = sym (or-false ((c || false) && (d || not b)))
some_settled false true c d = sym (or-false ((c || true) && (d || false)))
some_settled false false c d = rw (or-true c, or-true d)
