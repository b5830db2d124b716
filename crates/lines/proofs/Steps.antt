-- The laws of the walk that the proofs of the code cite: what each definition does at a test that the code makes. Assumes nothing.
use mathlib.Core.Path.{◌≡◌, refl, sym, ap, ◌∙◌}
use mathlib.Core.Bool.{true, false}
use mathlib.Core.List.{List}
use Prim.Native.Nat.{ℕ, zero, suc, ◌+◌, ◌-◌, ◌≤◌, ◌<◌}
use native.Mathlib.Omega.{arith}
use native.Mathlib.Numerals.{add-one}
use lib.ListN.{get_or, take}
use borrow.Author.Tests.{le-leb, lt-leb}
use Rattle.std.specs.Prelude.{Some, None}
use Rattle.diagram.specs.declared.Diagram.{Diagram}
use Rattle.diagram.specs.declared.Node.{Node}
use Rattle.diagram.specs.Stored.{blank_node}
use Rattle.postfix.specs.declared.Code.{Code}
use Rattle.nodes.specs.declared.Form.{Form}
use Rattle.nodes.specs.declared.Form.TheVariants.{Leaf, Loop, Joined}
use Rattle.nodes.specs.Nodes.{form_of, depth_at}
use Rattle.labels.specs.declared.Values.{Values}
use Rattle.labels.specs.Values.{values, push}
use Rattle.output.specs.Buffer.{Buffer, put_all}
use Rattle.lines.specs.Lines.{first_line}
use Rattle.lines.specs.code.Walks.{Place, told, place, tell, parts, copies, flow_name, by_form, part, walked, walked_listing}

-- What a node is: the tests of `part`.
module _ (text : List ℕ) (ns : List Node) (vs : Values) (p : Place) where
  pub part_none : {left : ℕ} → left ≡ 0 → p ≡ part text left ns vs p
  unfolding part
  part_none h = rw h

  pub part_past : (left : ℕ) → 256 ≤ p.node → p ≡ part text left ns vs p
  unfolding part
  part_past zero h = refl
  part_past (suc left) h = rw (le-leb 256 p.node h)

  module _ {left : ℕ} {node : Node} (n : left ≡ 0 → ⊥) (h : p.node < 256) (q : node ≡ get_or ns p.node blank_node) where
    part_node : {form : Form} → form_of node.kind ≡ form → part text left ns vs p ≡ by_form form text (part text (left - 1) ns) ns p.node vs p.so_far
    unfolding part
    part_node e =
        let more : left ≡ suc (left - 1) = omega arith in
        ap (λ (m : ℕ). part text m ns vs p) more
        ∙ rw (lt-leb 256 p.node h) (ap (λ (form : Form). by_form form text (part text (left - 1) ns) ns p.node vs p.so_far) (rw q at e))

    pub part_leaf : form_of node.kind ≡ Leaf → place (p.node + 1) (tell text false node.name vs p.so_far) ≡ part text left ns vs p
    part_leaf e = rw (part_node e, q)

    -- The copies that a replicator makes.
    pub part_copies : {code : Code} {m size : ℕ} → form_of node.kind ≡ Joined code (Some m) → m ≡ size → {u : Place}
        → u ≡ copies (part text (left - 1) ns) (p.node + 1) vs 0 size (place (p.node + 1) p.so_far) → u ≡ part text left ns vs p
    part_copies e k g = rw (part_node e, k) g

    -- The parts, and for a loop a reset or none.
    pub part_parts : {code : Code} → form_of node.kind ≡ Joined code None
        → parts (part text (left - 1) ns vs) ns p.node 255 (place (p.node + 1) p.so_far) ≡ part text left ns vs p
    part_parts e = rw (part_node e)

    module _ (e : form_of node.kind ≡ Loop) {u : Place} (g : u ≡ parts (part text (left - 1) ns vs) ns p.node 255 (place (p.node + 1) p.so_far)) where
      pub part_reset : {name : ℕ} → flow_name ns (p.node + 1) ≡ Some name → place u.node (tell text true name vs u.so_far) ≡ part text left ns vs p
      part_reset f = rw (part_node e, f, g)

      pub part_ends : flow_name ns (p.node + 1) ≡ None → u ≡ part text left ns vs p
      part_ends f = rw (part_node e, f) g

-- Where the loop over the parts has got to: the parts left from here are those left from the start.
pub record PartsLeft (f : Place → Place) (ns : List Node) (i : ℕ) (p₀ : Place) (turn : ℕ) (p : Place) : Type 0 where
  pub within : turn ≤ 255
  pub same : parts f ns i (255 - turn) p ≡ parts f ns i 255 p₀

module _ {f : Place → Place} {ns : List Node} {i : ℕ} where
  pub parts_left_begin : {p : Place} → PartsLeft f ns i p 0 p
  parts_left_begin = record { within = omega arith; same = refl }

  module _ {p₀ p : Place} {turn : ℕ} (g : PartsLeft f ns i p₀ turn p) where
    -- All parts are walked over.
    pub parts_left_none : 255 ≤ turn → p ≡ parts f ns i 255 p₀
    unfolding parts
    parts_left_none h = let e : 255 - turn ≡ 0 = omega arith in rw e at g.same

    module _ {a b : ℕ} (h : turn < 255) (qa : a ≡ depth_at ns p.node) (qb : b ≡ depth_at ns i) where
      -- The next node is not deeper.
      pub parts_left_shallow : a ≤ b → p ≡ parts f ns i 255 p₀
      unfolding parts
      parts_left_shallow l =
          let z : 255 - turn ≡ suc (255 - (turn + 1)) = omega arith in
          let w : p ≡ parts f ns i (suc (255 - (turn + 1))) p = rw (← qa, ← qb, le-leb a b l) in
          w ∙ (rw z at g.same)

      -- One part more.
      pub parts_left_next : b < a → {u : Place} → u ≡ f p → PartsLeft f ns i p₀ (turn + 1) u
      unfolding parts
      parts_left_next l {u} qu =
          let z : 255 - turn ≡ suc (255 - (turn + 1)) = omega arith in
          let w : parts f ns i (suc (255 - (turn + 1))) p ≡ parts f ns i (255 - (turn + 1)) u = rw (← qa, ← qb, lt-leb a b l, ← qu) in
          record { within = omega arith; same = sym w ∙ (rw z at g.same) }

-- The same for the loop over the values.
pub record CopiesLeft (f : Values → Place → Place) (i : ℕ) (vs : Values) (size : ℕ) (p₀ : Place) (value : ℕ) (p : Place) : Type 0 where
  pub within : value ≤ size
  pub same : copies f i vs value (size - value) p ≡ copies f i vs 0 size p₀

module _ {f : Values → Place → Place} {i : ℕ} {vs : Values} {size : ℕ} where
  pub copies_left_begin : {p : Place} → CopiesLeft f i vs size p 0 p
  copies_left_begin = let e : size - 0 ≡ size = omega arith in record { within = omega arith; same = rw e }

  module _ {p₀ p : Place} {value : ℕ} (g : CopiesLeft f i vs size p₀ value p) where
    pub copies_left_none : size ≤ value → p ≡ copies f i vs 0 size p₀
    unfolding copies
    copies_left_none h = let e : size - value ≡ 0 = omega arith in rw e at g.same

    pub copies_left_next : value < size → {u : Place} {v : Values} → v ≡ push vs value → u ≡ f v (place i p.so_far) → CopiesLeft f i vs size p₀ (value + 1) u
    unfolding copies
    copies_left_next h {u} {v} qv qu =
        let z : size - value ≡ suc (size - (value + 1)) = omega arith in
        let k = size - (value + 1) in
        let made : f (push vs value) (place i p.so_far) ≡ u = sym (qu ∙ ap (λ (x : Values). f x (place i p.so_far)) qv) in
        let w : copies f i vs value (suc k) p ≡ copies f i vs (value + 1) k u = ap (copies f i vs (suc value) k) made ∙ ap (λ (m : ℕ). copies f i vs m k u) (sym (add-one value)) in
        record { within = omega arith; same = sym w ∙ (rw z at g.same) }

-- The whole: the first line, the nodes that count, and the walk over them.
pub listing_written : (text : List ℕ) (d : Diagram) (s : Buffer) {ns : List Node} {p : Place} {t : Buffer} → t ≡ put_all (first_line d.events d.copies) s
    → ns ≡ take d.count d.nodes → p ≡ part text 12 ns (values 0 0 0 0) (place 0 (told 0 t)) → p.so_far.out ≡ walked_listing text d s
unfolding walked_listing walked
listing_written text d s {t = t} e q h =
    ap (λ (x : Place). x.so_far.out) h
    ∙ (ap (λ (x : List Node). (part text 12 x (values 0 0 0 0) (place 0 (told 0 t))).so_far.out) q ∙ ap (walked text d) e)
