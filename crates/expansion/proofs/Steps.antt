-- The laws of the walk that the proofs of the code cite: what each definition does at a test that the code makes. Assumes nothing.
use mathlib.Core.Path.{◌≡◌, refl, sym, ap, ◌∙◌}
use mathlib.Core.Bool.{true, false}
use mathlib.Core.List.{List}
use Prim.Native.Nat.{ℕ, zero, suc, ◌+◌, ◌-◌, ◌≤◌, ◌<◌}
use native.Mathlib.Omega.{arith}
use lib.ListN.{length, get_or, set}
use Rattle.diagram.specs.Stored.{blank_node}
use borrow.Author.Tests.{lt-ltb, le-ltb, le-leb, lt-leb}
use Rattle.std.proofs.lemmas.List.{get_or_default}
use Rattle.std.specs.Prelude.{Option}
use Rattle.diagram.specs.TreeNodes.{leafy}
use Rattle.diagram.specs.declared.Node.{Node}
use Rattle.postfix.specs.declared.Code.{Code}
use Rattle.postfix.specs.declared.Code.TheVariants.{Again, Rounds}
use Rattle.nodes.specs.declared.Form.{Form}
use Rattle.nodes.specs.Nodes.{form_of, kind_at, depth_at}
use Rattle.expansion.specs.Walks.{Place, place, at_node, add, more, again_at, further, looped, by_form, part}
use Rattle.expansion.specs.declared.Walk.{Walk}

-- A code is added where there is room.
pub add_room : (code : Code) (s : Walk) (cs : List Code) {ds : List Code} → s.count < 1024 → ds ≡ set cs s.count code → place s.node (s.count + 1) ds ≡ add code (record { walk = s; codes = cs })
unfolding add
add_room code s cs h q = rw (lt-ltb s.count 1024 h, q)

module _ (ns : List Node) (i : ℕ) (code : Code) (copies : Option ℕ) (f : Place → Place) (p : Place) where
  -- The parts end at a node that is not deeper, or go on by one.
  pub further_ends : (n : ℕ) → 0 < n → depth_at ns (again_at copies i p.walk.node) ≤ depth_at ns i → p ≡ further f ns i code copies n p
  unfolding further
  further_ends zero l h = refl
  further_ends (suc n) l h = rw (le-leb (depth_at ns (again_at copies i p.walk.node)) (depth_at ns i) h)

  pub further_goes : (n : ℕ) → depth_at ns i < depth_at ns (again_at copies i p.walk.node)
      → further f ns i code copies (suc n) p ≡ further f ns i code copies n (add code (f (at_node (again_at copies i p.walk.node) p)))
  unfolding further
  further_goes n h = rw (lt-leb (depth_at ns (again_at copies i p.walk.node)) (depth_at ns i) h)

-- What a loop is over.
module _ (f : Place → Place) (ns : List Node) (p : Place) where
  pub looped_leaf : p.walk.node < length ns → leafy (kind_at ns p.walk.node) ≡ true → add Again (at_node (p.walk.node + 1) p) ≡ looped f ns p
  looped_leaf l h = rw (lt-ltb p.walk.node (length ns) l, h)

  pub looped_flow : leafy (kind_at ns p.walk.node) ≡ false → p.walk.node < length ns → add Rounds (f p) ≡ looped f ns p
  looped_flow h l = rw (lt-ltb p.walk.node (length ns) l, h)

  pub looped_past : length ns ≤ p.walk.node → add Rounds (f p) ≡ looped f ns p
  looped_past l = rw (le-ltb p.walk.node (length ns) l)

-- What a node is: the tests of `part`.
module _ (ns : List Node) (p : Place) where
  pub part_none : {left : ℕ} → left ≡ 0 → p ≡ part left ns p
  unfolding part
  part_none h = rw h

  pub part_past : (left : ℕ) → length ns ≤ p.walk.node → p ≡ part left ns p
  unfolding part
  part_past zero h = refl
  part_past (suc left) h = rw (le-leb (length ns) p.walk.node h)

  pub part_node : (left : ℕ) {form : Form} (d : Node) → (left ≡ 0 → ⊥) → p.walk.node < length ns → form ≡ form_of (get_or ns p.walk.node d).kind
      → by_form form (part (left - 1) ns) ns p.walk.node p ≡ part left ns p
  unfolding part
  part_node zero d n h q = absurd (n refl)
  part_node (suc left) d n h q =
      let e : suc left - 1 ≡ left = omega arith in
      rw (q, get_or_default ns p.walk.node d blank_node h, lt-leb (length ns) p.walk.node h, e)

-- Where the loop over the parts has got to: the parts left from here are those left from the start. The lent codes are as many.
pub record PartsLeft (ns : List Node) (left i : ℕ) (code : Code) (copies : Option ℕ) (p₀ : Place) (turn : ℕ) (p : Place) : Type 0 where
  pub long : length p.codes ≡ length p₀.codes
  pub same : further (part left ns) ns i code copies (more copies - turn) p ≡ further (part left ns) ns i code copies (more copies) p₀

module _ {ns : List Node} {left i : ℕ} {code : Code} {copies : Option ℕ} where
  pub parts_left_begin : {p : Place} → PartsLeft ns left i code copies p 0 p
  parts_left_begin = let e : more copies - 0 ≡ more copies = omega arith in record { long = refl; same = rw e }

  module _ {p₀ p : Place} {turn : ℕ} (g : PartsLeft ns left i code copies p₀ turn p) where
    -- All parts are walked over.
    pub parts_left_none : more copies ≤ turn → p ≡ further (part left ns) ns i code copies (more copies) p₀
    unfolding further
    parts_left_none h = let e : more copies - turn ≡ 0 = omega arith in rw e at g.same

    module _ {next : ℕ} (h : turn < more copies) (e : next ≡ again_at copies i p.walk.node) where
      -- The next node is not deeper.
      pub parts_left_shallow : depth_at ns next ≤ depth_at ns i → p ≡ further (part left ns) ns i code copies (more copies) p₀
      parts_left_shallow l =
          further_ends ns i code copies (part left ns) p (more copies - turn) (omega arith) (rw (← e) l) ∙ g.same

      -- One part more.
      pub parts_left_next : depth_at ns i < depth_at ns next → {u v : Place} → u ≡ part left ns (at_node next p) → v ≡ add code u → length v.codes ≡ length p.codes
          → PartsLeft ns left i code copies p₀ (turn + 1) v
      parts_left_next l {u} {v} qu qv n =
          let d : depth_at ns i < depth_at ns (again_at copies i p.walk.node) = rw (← e) l in
          let z : more copies - turn ≡ suc (more copies - (turn + 1)) = omega arith in
          record {
            long = n ∙ g.long;
            same = rw (qv, qu, e)
                (sym (further_goes ns i code copies (part left ns) p (more copies - (turn + 1)) d)
                ∙ ap (λ (n : ℕ). further (part left ns) ns i code copies n p) (sym z) ∙ g.same);
          }
