-- Document 01, number 6: "node 257, or a node at depth 13", by the tokens before its keyword, which stands between the machine and the trees. On
-- trees it is `rules.specs.Broken.too_big`; the two are the same, by `rules.proofs.LimitsPlaced.limits_placed`.
use mathlib.Core.Bool.{Bool, ◌&&◌, ◌||◌, cond}
use mathlib.Core.List.{List, [], ◌∷◌}
use Prim.Native.Nat.{ℕ, suc, ◌-◌}
use lib.Dec.{leb}
use lib.ListN.{get_or, take}
use Rattle.tokens.specs.Token.{opening, closing, Token, other}
use Rattle.grammar.specs.Machine.{is_sign, is_key}

-- How many of these tokens pass a test.
unfoldable pub count_of : (Token → Bool) → List Token → ℕ
count_of f [] = 0
count_of f (t ∷ ts) = cond (f t) (suc (count_of f ts)) (count_of f ts)

-- The nodes among these tokens.
abbrev pub nodes_in : List Token → ℕ
nodes_in = count_of is_key

-- How deep a node stands that follows these tokens: the parts of a node stand in one pair of parentheses more than its keyword, and "the
-- root has depth 1".
abbrev pub depth_after : List Token → ℕ
depth_after ts = suc (count_of (is_sign opening) ts - count_of (is_sign closing) ts)

-- The token k is the keyword of a node that is one too many or too deep.
unfoldable pub over_limit : List Token → ℕ → Bool
over_limit ts k = is_key (get_or ts k other) && (leb 257 (suc (nodes_in (take k ts))) || leb 13 (depth_after (take k ts)))
