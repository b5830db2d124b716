-- Node copies and events by a table of depths: the copies of a node at each depth at which the next may be. Assumes nothing.
use mathlib.Core.Path.{◌≡◌, refl, sym, ap, ◌∙◌}
use mathlib.Core.Bool.{Bool, true, false, cond}
use mathlib.Core.List.{List, [], ◌∷◌}
use Prim.Native.Nat.{ℕ, ◌+◌, ◌*◌, ◌≤◌, ◌<◌}
use native.Mathlib.Nat.{mul-one, mul_comm}
use native.Mathlib.Omega.{arith}
use lib.Dec.{eqb, ltb}
use lib.ListN.{length, drop, get_or, set, replicate, length-set}
use lib.Seq.{get_or-set_same, get_or-set_other}
use borrow.Author.Tests.{eqb-true, eqb-false}
use Rattle.base.proofs.Truth.{by_cases}
use Rattle.diagram.specs.TreeNodes.{TextNode, copying, size_of}
use Rattle.rules.specs.Counted.{times, total, capped, any_node, eventful}
use Rattle.walked.specs.Rows.{row_of}
use Rattle.walked.specs.declared.Row.{Row}
use Rattle.names.specs.code.Told.{node, earlier, Told}
use Rattle.names.proofs.Tables.{ones_small}
use Rattle.names.proofs.Stack.{Stacked, stack_start, stack_next}
use Rattle.sweeps.proofs.Capped.{capped_product}
use Rattle.sweeps.proofs.Summed.{Summed, sum_start, sum_next, sum_end}

-- No count of the table is over the cap.
pub record Small (table : List ℕ) : Type 0 where
  pub long : length table ≡ 14
  pub each : (k : ℕ) → get_or table k 0 ≤ 769

pub record Counting (hs : List TextNode) (table : List ℕ) (copies events i : ℕ) : Type 0 where
  pub stack : Stacked times (λ e n. get_or table e 0 ≡ capped n) hs i
  pub copied : Summed any_node hs copies i
  pub happened : Summed eventful hs events i

-- What a node leaves for those one deeper: its copies times its size.
abbrev grown : TextNode → ℕ → ℕ
grown h n = cond (copying h.kind) (size_of h.kind * n) n

times_more : (e : ℕ) (h : TextNode) (before : List TextNode)
    → times e (h ∷ before) ≡ cond (ltb h.depth e) (grown h (times h.depth before)) (times e before)
unfolding times
times_more e h before = refl

times_none : times 1 [] ≡ 1
unfolding times
times_none = refl

grow_by : (b : Bool) (z n : ℕ) → n * cond b z 1 ≡ cond b (z * n) n
grow_by true z n = mul_comm n z
grow_by false z n = mul-one n

pub count_start : (hs : List TextNode) → Counting hs (replicate 14 1) 0 0 0
count_start hs =
    record {
      stack = stack_start times (λ e n. get_or (replicate 14 1) e 0 ≡ capped n) hs (rw times_none);
      copied = sum_start any_node hs;
      happened = sum_start eventful hs;
    }

pub small_start : Small (replicate 14 1)
small_start = record { long = refl; each = ones_small 14 }

pub small_next : {table : List ℕ} → Small table → (k v : ℕ) → k < 14 → v ≤ 769 → Small (set table k v)
small_next {table} s k v h l =
    record {
      long = simp length-set s.long;
      each = λ j.
          by_cases (eqb j k) (λ q. rw (eqb-true j k q, get_or-set_same table k v 0 (rw s.long h)) l) (λ q.
          rw (get_or-set_other table k j v 0 (eqb-false j k q)) (s.each j));
    }

module _ {text : List ℕ} {rows : List Row} {count : ℕ} (t : Told text rows count) {table : List ℕ} {copies events i : ℕ} (s : Counting t.hs table copies events i) where
  pub copies_all : copies ≤ 769 → count ≤ i → copies ≡ capped (total any_node [] t.hs)
  copies_all l h = sum_end s.copied l (rw t.many h)

  pub events_all : events ≤ 769 → count ≤ i → events ≡ capped (total eventful [] t.hs)
  events_all l h = sum_end s.happened l (rw t.many h)

  -- The node i has the depth d, n copies, y of which are events, and the size z.
  module _ (h : i < count) {d n : ℕ} (D : (row_of rows i).node.depth ≤ 12 → d ≡ (row_of rows i).node.depth) (p : n ≡ get_or table d 0) where
    depth : d ≡ (node t.hs i).depth
    depth = let e = (t.row i h).depth in let l = t.deep i h in D (rw e l.2) ∙ e

    many : n ≡ capped (times (node t.hs i).depth (earlier t.hs i))
    many = let l = t.deep i h in p ∙ rw depth (s.stack.each (node t.hs i).depth l.0 l.1)

    module _ {y z : ℕ} (q : y ≡ cond (eventful (node t.hs i) (drop (i + 1) t.hs)) n 0)
        (e : z ≡ cond (copying (row_of rows i).node.kind) (size_of (row_of rows i).node.kind) 1) where
      left : (v : ℕ) → v ≡ capped (n * z) → v ≡ capped (grown (node t.hs i) (times (node t.hs i).depth (earlier t.hs i)))
      left v g =
          let r = t.row i h in
          let k = (node t.hs i).kind in
          let x = times (node t.hs i).depth (earlier t.hs i) in
          g ∙ rw (many, capped_product x z, e, r.kind, grow_by (copying k) (size_of k) x)

      pub count_next : {m k v : ℕ} → length table ≡ 14 → m ≡ capped (copies + n) → k ≡ capped (events + y) → v ≡ capped (n * z)
          → Counting t.hs (set table (d + 1) v) m k (i + 1)
      count_next {m} {k} {v} long p' q' g =
          let l = t.deep i h in
          record {
            stack =
                stack_next grown times_more s.stack l.1 (λ e x. get_or (set table (d + 1) v) e 0 ≡ capped x)
                (λ e x some low was. get_or-set_other table (d + 1) e v 0 (λ g. let z = depth in omega arith) ∙ was)
                (ap (λ (k : ℕ). get_or (set table (d + 1) v) (k + 1) 0) (sym depth) ∙ get_or-set_same table (d + 1) v 0 (let z = depth in let y = l.2 in omega arith) ∙ left v g);
            copied = sum_next s.copied (rw t.many h) many refl p';
            happened = sum_next s.happened (rw t.many h) many q q';
          }
