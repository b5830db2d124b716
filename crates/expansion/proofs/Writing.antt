-- Codes written over the front of the lent codes, one after the other.
use mathlib.Core.Path.{◌≡◌, sym, ap₂}
use mathlib.Core.List.{List, [], ◌∷◌, ◌++◌}
use Prim.Native.Nat.{ℕ, ◌<◌}
use lib.ListN.{length, length-append}
use borrow.Author.Tests.{lt-ltb}
use Rattle.base.specs.Fill.{fill}
use Rattle.base.proofs.Filled.{fill_next}
use Rattle.postfix.specs.declared.Code.{Code}
use Rattle.expansion.specs.Walks.{Place, place, add}

-- The walk stands at a node, and has written these codes over the lent codes.
abbrev pub written : List Code → ℕ → List Code → Place
written lent node ws = place node (length ws) (fill lent ws)

-- Where there is room, one code more is one code more written.
pub add_written : (lent : List Code) (node : ℕ) (ws : List Code) (c : Code) → length ws < 1024
    → add c (written lent node ws) ≡ written lent node (ws ++ (c ∷ []))
unfolding add
add_written lent node ws c h =
    rw (lt-ltb (length ws) 1024 h)
    (ap₂ (place node) (sym (length-append ws (c ∷ []))) (fill_next lent ws c))
