-- The walk over the nodes of a diagram that writes the line of each event: "They are numbered from 0 depth first, left to right, values rising, a reset directly
-- after its loop's body." The nodes inside a replicator are walked over once for each value.
use Rattle.std.specs.Prelude.{◌≡◌, Bool, true, false, cond, List, Option, Some, None, ℕ, zero, suc, ◌+◌, ◌%◌, leb, take}
use Rattle.diagram.specs.declared.Diagram.{Diagram}
use Rattle.diagram.specs.declared.Node.{Node}
use Rattle.diagram.specs.TreeNodes.{leafy}
use Rattle.nodes.specs.declared.Form.{Form}
use Rattle.nodes.specs.declared.Form.TheVariants.{Leaf, Loop, Joined}
use Rattle.nodes.specs.Nodes.{kind_at, form_at, depth_at, name_at}
use Rattle.output.specs.Buffer.{Buffer, put_all}
use Rattle.output.specs.Writes.{written}
use Rattle.output.specs.declared.Writer.{Writer}
use Rattle.labels.specs.declared.Values.{Values}
use Rattle.labels.specs.Values.{values, push}
use Rattle.lines.specs.declared.Walk.{Walk}
use Rattle.lines.specs.Lines.{first_line}
use Rattle.lines.specs.code.Written.{line_at}

-- The number of the next event, and the buffer with the lines of those before it.
pub record Told : Type 0 where
  pub event : ℕ
  pub out : Buffer

abbrev pub told : ℕ → Buffer → Told
told event out = record { event = event; out = out }

-- Where the walk stands: the next node, and what is written.
pub record Place : Type 0 where
  pub node : ℕ
  pub so_far : Told

abbrev pub place : ℕ → Told → Place
place node so_far = record { node = node; so_far = so_far }

-- The same as the code holds it; and that it goes on from s to t, writing from w to v over the same buffer.
abbrev pub stands : Walk → Writer → Place
stands s w = place s.node (told s.event (written w))

pub record Walks (w v : Writer) (s t : Walk) (goes : Place → Place) : Type 0 where
  pub same : v.out.ghost_name ≡ w.out.ghost_name
  pub places : stands t v ≡ goes (stands s w)

-- One line more, for the event with the next number. A drawing that is read has at most 512 events, so no number comes to 1,024.
unfoldable pub tell : List ℕ → Bool → ℕ → Values → Told → Told
tell text reset name vs t = told (t.event % 1024 + 1) (put_all (line_at text t.event reset name vs) t.out)

-- The parts of node i, at most n of them and as long as they are deeper than it.
unfoldable pub parts : (Place → Place) → List Node → ℕ → ℕ → Place → Place
parts part ns i zero p = p
parts part ns i (suc n) p = cond (leb (depth_at ns p.node) (depth_at ns i)) p (parts part ns i n (part p))

-- The copies of node i for n values, from the one given on.
unfoldable pub copies : (Values → Place → Place) → ℕ → Values → ℕ → ℕ → Place → Place
copies part i vs value zero p = p
copies part i vs value (suc n) p = copies part i vs (suc value) n (part (push vs value) (place i p.so_far))

-- The place of the name of node i, a loop's member, if it is a flow.
abbrev pub flow_name : List Node → ℕ → Option ℕ
flow_name ns i = cond (leafy (kind_at ns i)) None (Some (name_at ns i))

-- After a loop's member: the reset of a loop over a flow, with the flow's name.
abbrev pub closed : Option ℕ → List ℕ → Values → Place → Place
closed None text vs p = p
closed (Some name) text vs p = place p.node (tell text true name vs p.so_far)

-- Node i with those below it, by its form: the line of a leaf; the parts, for a loop with a reset after them; the copies that a replicator makes. A drawing has at
-- most 256 nodes.
abbrev pub by_form : Form → List ℕ → (Values → Place → Place) → List Node → ℕ → Values → Told → Place
by_form Leaf text part ns i vs t = place (i + 1) (tell text false (name_at ns i) vs t)
by_form Loop text part ns i vs t = closed (flow_name ns (i + 1)) text vs (parts (part vs) ns i 255 (place (i + 1) t))
by_form (Joined code None) text part ns i vs t = parts (part vs) ns i 255 (place (i + 1) t)
by_form (Joined code (Some size)) text part ns i vs t = copies part (i + 1) vs 0 size (place (i + 1) t)

-- The node that the walk stands at, with those below it, down to as many depths as are given. A diagram by value holds 256 nodes: after those that count
-- the walk reads blank leaves. In a drawing that is read it never comes to one.
unfoldable pub part : List ℕ → ℕ → List Node → Values → Place → Place
part text zero ns vs p = p
part text (suc left) ns vs p =
    cond (leb 256 p.node) p (by_form (form_at ns p.node) text (part text left ns) ns p.node vs p.so_far)

-- The whole drawing: "The root has depth 1", and there are at most 12.
unfoldable pub walked : List ℕ → Diagram → Buffer → Buffer
walked text d s = (part text 12 (take d.count d.nodes) (values 0 0 0 0) (place 0 (told 0 s))).so_far.out

unfoldable pub walked_listing : List ℕ → Diagram → Buffer → Buffer
walked_listing text d s = walked text d (put_all (first_line d.events d.copies) s)
