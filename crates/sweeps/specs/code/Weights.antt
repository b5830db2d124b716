-- How many solid children a flow has, as far as it matters.
use Rattle.std.specs.Prelude.{◌&&◌, cond, List, [], ◌∷◌, ℕ, eqb}
use Rattle.diagram.specs.declared.Kind.{Kind}
use Rattle.diagram.specs.TreeNodes.{may_be_solid}

-- With one more child, of this kind.
abbrev pub heavier : ℕ → Kind → ℕ
heavier w k = cond (eqb w 0 && may_be_solid k) 1 2

-- By the kinds of the solid children: 0 none, 1 one that may be solid, 2 otherwise.
unfoldable pub weight : List Kind → ℕ
weight [] = 0
weight (k ∷ ks) = heavier (weight ks) k
