-- Drawings of document 01, "Drawings worked through", and one of our own, as trees; and what they count.
use Rattle.std.specs.Prelude.{◌≡◌, true, false, List, [], ◌∷◌, map, ℕ, zero, suc}
use Rattle.base.specs.Text.{bytes}
use Rattle.diagram.specs.Tree.{all, one, Flow, flow, Children, none, next, Child, plain, loop, group, replicator, leaf, inner, end}
use Rattle.diagram.specs.Count.{flow_nodes, flow_copies, flow_events}

-- T: `flow(trip,1)(leaf(take)(0)loop(leaf(fill))(0)xor(leaf(send)leaf(drop))(0)leaf(free)(1))`.
abbrev pub T : Flow
T =
    flow (bytes "trip") [] true (plain (leaf (bytes "take"))) false
    (next (loop (leaf (bytes "fill"))) false
    (next (group one (leaf (bytes "send")) (leaf (bytes "drop")) end) false
    (next (plain (leaf (bytes "free"))) true none)))

-- U: `flow(t,1)(loop(flow(r,1)(leaf(a)(0)leaf(b)(1)))(0)leaf(c)(1))`.
abbrev pub U : Flow
U =
    flow (bytes "t") [] true
    (loop (inner (flow (bytes "r") [] true (plain (leaf (bytes "a"))) false (next (plain (leaf (bytes "b"))) true none)))) false
    (next (plain (leaf (bytes "c"))) true none)

-- One replicator inside another: `flow(t,1)(all(p:2)(flow(r,p,1)(all(q:2)(leaf(a))(0)leaf(b)(1)))(0)leaf(c)(1))`.
abbrev pub nested : Flow
nested =
    flow (bytes "t") [] true
    (replicator all (bytes "p") 2
    (inner
    (flow (bytes "r") (bytes "p" ∷ []) true (replicator all (bytes "q") 2 (leaf (bytes "a"))) false (next (plain (leaf (bytes "b"))) true none))))
    false (next (plain (leaf (bytes "c"))) true none)

-- A root with the first child, a number of further children like the given one, and a number of leaves. Names and solid marks count for
-- nothing here: the names are left out, and no child is solid.
abbrev pub several : ℕ → Child → Children → Children
several zero c cs = cs
several (suc n) c cs = next c false (several n c cs)

abbrev pub wide : Child → ℕ → Child → ℕ → Flow
wide first n c leaves = flow [] [] true first false (several n c (several leaves (plain (leaf [])) none))

-- `all(v:16)(leaf(..))`
abbrev pub sixteen : Child
sixteen = replicator all [] 16 (leaf [])

-- `all(v:16)` over a flow of one leaf
abbrev pub sixteen_flows : Child
sixteen_flows = replicator all [] 16 (inner (flow [] [] true (plain (leaf [])) true none))

pub record Counts : Type 0 where
  pub drawing : Flow
  pub nodes : ℕ
  pub copies : ℕ
  pub events : ℕ

-- T: "events 5 copies 8". U: its events are 0 to 3. "Root with 255 leaves", and with 256. "31 children `all(v:16)(leaf(..))` and 16
-- leaves: 512 events, 544 copies", and one more leaf. "23 children all(v:16) over a flow of one leaf, and 8 leaves: 768 copies", and
-- one more leaf.
abbrev pub counts : List Counts
counts =
    record { drawing = T; nodes = 8; copies = 8; events = 5 }
    ∷ record { drawing = U; nodes = 6; copies = 6; events = 4 }
    ∷ record { drawing = wide (plain (leaf [])) 254 (plain (leaf [])) 0; nodes = 256; copies = 256; events = 255 }
    ∷ record { drawing = wide (plain (leaf [])) 255 (plain (leaf [])) 0; nodes = 257; copies = 257; events = 256 }
    ∷ record { drawing = wide sixteen 30 sixteen 16; nodes = 79; copies = 544; events = 512 }
    ∷ record { drawing = wide sixteen 30 sixteen 17; nodes = 80; copies = 545; events = 513 }
    ∷ record { drawing = wide sixteen_flows 22 sixteen_flows 8; nodes = 78; copies = 768; events = 376 }
    ∷ record { drawing = wide sixteen_flows 22 sixteen_flows 9; nodes = 79; copies = 769; events = 377 } ∷ []

-- Each line's counts are those of its drawing.
abbrev pub Counted : List Counts → Type 0
Counted cs =
    map (λ (c : Counts). flow_nodes c.drawing ∷ flow_copies c.drawing ∷ flow_events c.drawing ∷ []) cs
    ≡ map (λ (c : Counts). c.nodes ∷ c.copies ∷ c.events ∷ []) cs
