-- Document 01, "Rules beyond grammar", asked of each node in the order of the text: those before it, the nearest first, are given with those
-- after it. Numbers 7 to 10 stand at the first node that breaks the rule.
use Rattle.std.specs.Prelude.{Bool, true, false, not, ◌&&◌, cond, List, [], ◌∷◌, reverse, ℕ, suc, eqb, ltb, leb, length, Option, Some, None}
use Rattle.diagram.specs.Tree.{Name}
use Rattle.diagram.specs.Names.{equal, same, new}
use Rattle.diagram.specs.TreeNodes.{TextNode, flowing, copying, titled, may_be_solid}
use Rattle.diagram.specs.declared.Kind.{Kind}

-- Number 7: "leaf and flow names all differ." No leaf or flow among those before has this name.
abbrev pub unused : Name → List TextNode → Bool
unused m [] = true
unused m (h ∷ before) = not (titled h.kind && same m h.name) && unused m before

abbrev pub names_kept : List TextNode → TextNode → List TextNode → Bool
names_kept before h after = cond (titled h.kind) (unused h.name before) true

-- The pars of the replicators around a node of depth d, the nearest first: a node before it that is less deep is around it, and so on
-- from that one.
abbrev pub around : ℕ → List TextNode → List Name
around d [] = []
around d (h ∷ before) =
    cond (ltb h.depth d) (cond (copying h.kind) (h.name ∷ around h.depth before) (around h.depth before)) (around d before)

-- Number 8: "A replicator's par differs from those of replicators around it; at most 3 replicators surround a node. A flow lists exactly
-- the pars of the replicators around it, outermost first."
abbrev pub parameters_kept : List TextNode → TextNode → List TextNode → Bool
parameters_kept before h after =
    leb (length (around h.depth before)) 3
    && (cond (copying h.kind) (new h.name (around h.depth before)) true
    && cond (flowing h.kind) (equal same (reverse h.pars) (around h.depth before)) true)

-- The kinds of the solid children of a flow of depth d: of the nodes one deeper that come before the next that is not deeper.
abbrev pub solids : ℕ → List TextNode → List Kind
solids d [] = []
solids d (h ∷ after) =
    cond (leb h.depth d) [] (cond (eqb h.depth (suc d) && h.solid) (h.kind ∷ solids d after) (solids d after))

abbrev pub one_of : List Kind → Bool
one_of [] = false
one_of (k ∷ []) = may_be_solid k
one_of (k ∷ l ∷ ks) = false

-- Number 9: "A flow has exactly one solid child: a leaf, flow, xor or one."
abbrev pub solids_kept : List TextNode → TextNode → List TextNode → Bool
solids_kept before h after = cond (flowing h.kind) (one_of (solids h.depth after)) true

-- Number 10: "sw is 1."
abbrev pub strongs_kept : List TextNode → TextNode → List TextNode → Bool
strongs_kept before h after = cond (flowing h.kind) h.strong true

-- The number of the first node that breaks a rule.
unfoldable pub fault : (List TextNode → TextNode → List TextNode → Bool) → List TextNode → List TextNode → Option ℕ
fault kept before [] = None
fault kept before (h ∷ after) = cond (kept before h after) (fault kept (h ∷ before) after) (Some h.number)
