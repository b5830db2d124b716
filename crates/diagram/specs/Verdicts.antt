-- Small drawings, and which of the rules each of them keeps: every rule is broken by some of them, also deep inside.
use Rattle.std.specs.Prelude.{◌≡◌, Bool, true, false, List, [], ◌∷◌, map}
use Prim.Native.String.{String}
use Rattle.base.specs.Text.{bytes}
use Rattle.diagram.specs.Tree.{all, some, one, Flow, flow, none, next, Child, plain, loop, group, replicator, Member, leaf, inner, end}
use Rattle.diagram.specs.Sizes.{flow_sized}
use Rattle.diagram.specs.Names.{flow_names, differ}
use Rattle.diagram.specs.Parameters.{flow_parameters}
use Rattle.diagram.specs.Flows.{each_flow, solid, strong}
use Rattle.diagram.specs.Drawings.{T, U, nested}

-- In the order of `Keeps`: sizes, names, parameters, solid children, sw.
abbrev pub verdict : Flow → List Bool
verdict d = flow_sized d ∷ differ (flow_names d []) ∷ flow_parameters d [] ∷ each_flow d solid ∷ each_flow d strong ∷ []

-- A leaf, and a flow of one solid leaf.
abbrev leaf_of : String → Child
leaf_of n = plain (leaf (bytes n))

abbrev flow_of : String → List String → String → Member
flow_of n pars m = inner (flow (bytes n) (map bytes pars) true (leaf_of m) true none)

-- The root t with the child given, and the solid leaf a.
abbrev beside : Child → Flow
beside c = flow (bytes "t") [] true c false (next (leaf_of "a") true none)

-- The root t with one child, solid.
abbrev alone : Child → Flow
alone c = flow (bytes "t") [] true c true none

-- The flow with one child for the par given, and a solid leaf.
abbrev around : String → List String → String → String → Member → Member
around n pars m par body =
    inner (flow (bytes n) (map bytes pars) true (replicator all (bytes par) 1 body) false (next (leaf_of m) true none))

-- The parameters p, q and v around the body.
abbrev three : Member → Flow
three body = beside (replicator all (bytes "p") 1 (around "r" ("p" ∷ []) "d" "q" (around "s" ("p" ∷ "q" ∷ []) "e" "v" body)))

pub record Case : Type 0 where
  pub drawing : Flow
  pub keeps : List Bool

abbrev breaks : Flow → Bool → Bool → Bool → Bool → Bool → Case
breaks d s n p o w = record { drawing = d; keeps = s ∷ n ∷ p ∷ o ∷ w ∷ [] }

abbrev pub cases : List Case
cases =
    breaks T true true true true true
    ∷ breaks U true true true true true
    ∷ breaks nested true true true true true
    -- sizes 0, 1, 16 and 17
    ∷ breaks (beside (replicator all (bytes "p") 0 (leaf (bytes "b")))) false true true true true
    ∷ breaks (beside (replicator all (bytes "p") 1 (leaf (bytes "b")))) true true true true true
    ∷ breaks (beside (replicator one (bytes "p") 16 (leaf (bytes "b")))) true true true true true
    ∷ breaks (beside (replicator some (bytes "p") 17 (leaf (bytes "b")))) false true true true true
    -- a leaf's name that is the root's; a member's that is a leaf's; a name that only begins like another
    ∷ breaks (alone (leaf_of "t")) true false true true true
    ∷ breaks (beside (group all (leaf (bytes "b")) (flow_of "c" [] "a") end)) true false true true true
    ∷ breaks (beside (plain (leaf (bytes "aa")))) true true true true true
    -- a par that a replicator around it has; a flow that lists none, or one that is not there, or two in the wrong order
    ∷ breaks (beside (replicator all (bytes "p") 1 (around "r" ("p" ∷ []) "d" "p" (leaf (bytes "b"))))) true true false true true
    ∷ breaks (beside (replicator all (bytes "p") 1 (flow_of "b" [] "c"))) true true false true true
    ∷ breaks (beside (plain (flow_of "b" ("p" ∷ []) "c"))) true true false true true
    ∷ breaks (beside (replicator all (bytes "q") 1 (around "r" ("q" ∷ []) "d" "p" (flow_of "b" ("p" ∷ "q" ∷ []) "c")))) true true false true true
    -- three replicators around a node, and four
    ∷ breaks (three (leaf (bytes "b"))) true true true true true
    ∷ breaks (three (around "u" ("p" ∷ "q" ∷ "v" ∷ []) "f" "w" (leaf (bytes "b")))) true true false true true
    -- no solid child, and two
    ∷ breaks (flow (bytes "t") [] true (leaf_of "a") false none) true true true false true
    ∷ breaks (flow (bytes "t") [] true (leaf_of "a") true (next (leaf_of "b") true none)) true true true false true
    -- a solid flow, xor and one; a solid loop, and, or, all and some
    ∷ breaks (alone (plain (flow_of "b" [] "c"))) true true true true true
    ∷ breaks (alone (group one (leaf (bytes "b")) (leaf (bytes "c")) end)) true true true true true
    ∷ breaks (alone (replicator one (bytes "p") 2 (leaf (bytes "b")))) true true true true true
    ∷ breaks (alone (loop (leaf (bytes "b")))) true true true false true
    ∷ breaks (alone (group all (leaf (bytes "b")) (leaf (bytes "c")) end)) true true true false true
    ∷ breaks (alone (group some (leaf (bytes "b")) (leaf (bytes "c")) end)) true true true false true
    ∷ breaks (alone (replicator all (bytes "p") 2 (leaf (bytes "b")))) true true true false true
    ∷ breaks (alone (replicator some (bytes "p") 2 (leaf (bytes "b")))) true true true false true
    -- a flow inside a loop with no solid child, and one with sw 0
    ∷ breaks (beside (loop (inner (flow (bytes "b") [] true (leaf_of "c") false none)))) true true true false true
    ∷ breaks (beside (loop (inner (flow (bytes "b") [] false (leaf_of "c") true none)))) true true true true false ∷ []

-- Each case keeps the rules that it says, and no others.
abbrev pub Judged : List Case → Type 0
Judged cs = map (λ (c : Case). verdict c.drawing) cs ≡ map (λ (c : Case). c.keeps) cs
