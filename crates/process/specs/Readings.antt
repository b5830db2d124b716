-- Document 01's sentences on whole runs for any number of parts, and the parts of a flow, a group and a replicator. `proofs/Read.antt`
-- shows that the process of a diagram, which joins the parts two at a time, has these runs.
use Rattle.std.specs.Prelude.{◌≡◌, List, [], ◌∷◌, ◌++◌, ℕ, zero, suc, ◌+◌, ◌*◌}
use Rattle.diagram.specs.Tree.{Way, all, some, one, Children, none, next, Member, Members, end, also}
use Rattle.diagram.specs.Count.{child_events, member_events}
use Rattle.process.specs.Process.{Process}
use Rattle.process.specs.Expand.{child_process, member_process}
use Rattle.process.specs.Runs.{Runs, Then, Both, Either, Whole}

-- "a whole run of each child, in order"
abbrev pub InOrder : List Process → Runs
InOrder [] w = w ≡ []
InOrder (p ∷ ps) w = Then (Whole p) (InOrder ps) w

-- "any interleaving of one run of each member"
abbrev pub Interleaved : List Process → Runs
Interleaved [] w = w ≡ []
Interleaved (p ∷ ps) w = Both (Whole p) (Interleaved ps) w

-- The second list is a choice from the first, in its order.
pub data Choice : List Process → List Process → Type 0 where
  nothing : Choice [] []
  pick : {p : Process} {ps qs : List Process} → Choice ps qs → Choice (p ∷ ps) (p ∷ qs)
  leave : {p : Process} {ps qs : List Process} → Choice ps qs → Choice (p ∷ ps) qs

-- "the same over any nonempty choice of members"
abbrev pub SomeOf : List Process → Runs
SomeOf ps w = (q : Process) × (qs : List Process) × Choice ps (q ∷ qs) × Interleaved (q ∷ qs) w

-- "a run of one member"
abbrev pub OneOf : List Process → Runs
OneOf [] w = ⊥
OneOf (p ∷ ps) w = Either (Whole p) (OneOf ps) w

abbrev pub Several : Way → List Process → Runs
Several all ps = Interleaved ps
Several some ps = SomeOf ps
Several one ps = OneOf ps

-- The children after the first, in a copy of the flow for the values `vs`, the first of their events being number `e`.
unfoldable pub children_parts : Children → List ℕ → ℕ → List Process
children_parts none vs e = []
children_parts (next c r cs) vs e = child_process c vs e ∷ children_parts cs vs (e + child_events c)

-- The members after the second.
unfoldable pub members_parts : Members → List ℕ → ℕ → List Process
members_parts end vs e = []
members_parts (also m ms) vs e = member_process m vs e ∷ members_parts ms vs (e + member_events m)

-- "the copies for each value": `n` of them from the value `v` on.
unfoldable pub copies_parts : Member → List ℕ → ℕ → ℕ → ℕ → List Process
copies_parts m vs e v zero = []
copies_parts m vs e v (suc n) = member_process m (vs ++ (v ∷ [])) (e + v * member_events m) ∷ copies_parts m vs e (suc v) n
