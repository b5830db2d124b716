-- Number 9 stands nowhere just where each flow has exactly one solid child, of a kind that may be one.
use Rattle.std.specs.Prelude.{None}
use mathlib.Core.Path.{◌≡◌, refl, sym}
use mathlib.Core.Logic.{◌↔◌}
use mathlib.Core.Bool.{Bool, true, false, ◌&&◌, and-true, and-false}
use mathlib.Core.List.{List, [], ◌∷◌}
use Rattle.diagram.specs.Tree.{all, some, one, Flow, Children, none, next, Child, plain, loop, group, replicator, leaf, inner}
use Rattle.diagram.specs.Flows.{each_flow}
use Rattle.diagram.specs.Flows as flows
use Rattle.diagram.specs.TreeNodes.{may_be_solid, child_kind, solid_kinds, nodes_by}
use Rattle.diagram.specs.declared.Kind.{Kind}
use Rattle.rules.specs.Kept.{one_of}
use Rattle.rules.specs.Broken.{solids_fit, first_broken}
use Rattle.rules.proofs.FlowsKept.{kept_iff}

-- The rule by the kinds is the rule by the children.
kind_may_be : (c : Child) → may_be_solid (child_kind c) ≡ flows.may_be_solid c
kind_may_be (plain (leaf n)) = refl
kind_may_be (plain (inner f)) = refl
kind_may_be (loop m) = refl
kind_may_be (group all a b ms) = refl
kind_may_be (group some a b ms) = refl
kind_may_be (group one a b ms) = refl
kind_may_be (replicator all par size m) = refl
kind_may_be (replicator some par size m) = refl
kind_may_be (replicator one par size m) = refl

abbrev empty : List Kind → Bool
empty [] = true
empty (k ∷ ks) = false

one_first : (k : Kind) (ks : List Kind) → one_of (k ∷ ks) ≡ (may_be_solid k && empty ks)
one_first k [] = sym (and-true (may_be_solid k))
one_first k (l ∷ ks) = sym (and-false (may_be_solid k))

none_kinds : (cs : Children) → empty (solid_kinds cs) ≡ flows.none_solid cs
none_kinds none = refl
none_kinds (next c true cs) = refl
none_kinds (next c false cs) = none_kinds cs

one_kinds : (cs : Children) → one_of (solid_kinds cs) ≡ flows.one_solid cs
one_kinds none = refl
one_kinds (next c true cs) = rw (one_first (child_kind c) (solid_kinds cs), kind_may_be c, none_kinds cs)
one_kinds (next c false cs) = one_kinds cs

pub solids_kept_iff : (d : Flow) → (first_broken solids_fit (nodes_by (λ h. h) d) ≡ None) ↔ (each_flow d flows.solid ≡ true)
solids_kept_iff = kept_iff (λ h. one_of h.solids) flows.solid (λ n ps sw c r cs A b d i. one_kinds (next c r cs))
