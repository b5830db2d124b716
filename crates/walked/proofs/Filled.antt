-- Rows that are filled one node after the other: what is written of a node, and how the rows of parts that follow each other go together.
use mathlib.Core.Path.{◌≡◌, refl, ap, ◌∙◌}
use mathlib.Core.Bool.{Bool, false}
use mathlib.Core.List.{List, ◌∷◌}
use Prim.Native.Nat.{ℕ, suc, ◌+◌, ◌-◌, ◌≤◌, ◌<◌}
use native.Mathlib.Omega.{arith}
use lib.ListN.{length, set, length-set}
use lib.Seq.{get_or-set_same, get_or-set_other}
use Rattle.diagram.specs.TreeNodes.{TextNode}
use Rattle.diagram.specs.declared.Kind.{Kind}
use Rattle.walked.specs.declared.Row.{Row}
use Rattle.walked.specs.Walk.{blank_row, row_at, change, begun, marked}
use Rattle.walked.specs.Rows.{Rowed, row_of, Tells}

-- One row changed.
module _ (rows : List Row) (i : ℕ) (r : Row) where
  set_other : (j : ℕ) → (j ≡ i → ⊥) → row_at (set rows i r) j ≡ row_at rows j
  set_other j h = get_or-set_other rows i j r blank_row h

  set_same : i < length rows → row_at (set rows i r) i ≡ r
  set_same l = get_or-set_same rows i r blank_row l

-- Only the row of the node n has been written, and it is this one.
pub record Head (rows rows' : List Row) (n : ℕ) (r : Row) : Type 0 where
  pub sized : length rows' ≡ 257
  pub before : (j : ℕ) → j ≤ n → row_at rows' j ≡ row_at rows j
  pub here : row_of rows' n ≡ r

pub head_begun : (rows : List Row) (n : ℕ) (kind : Kind) (p d : ℕ) → n < 256 → length rows ≡ 257
    → Head rows (begun rows n kind p d) n
    (record { node = record { kind = kind; solid = false; strong = false; depth = 13 - d; at = p; name = 0 }; past = 0 })
unfolding begun
head_begun rows n kind p d l z = record {
  sized = length-set rows (suc n) _ ∙ z;
  before = λ j h. set_other rows (suc n) _ j (λ e. omega arith);
  here = set_same rows (suc n) _ (omega arith);
}

pub head_change : {rows rows' : List Row} {n : ℕ} {r : Row} → n < 256 → (f : Row → Row) → Head rows rows' n r → Head rows (change rows' (suc n) f) n (f r)
head_change {rows} {rows'} {n} {r} l f x = record {
  sized = length-set rows' (suc n) _ ∙ x.sized;
  before = λ j h. set_other rows' (suc n) _ j (λ e. omega arith) ∙ x.before j h;
  here = set_same rows' (suc n) _ (omega (arith, x.sized)) ∙ ap f x.here;
}

-- Rows after the nodes n to m - 1 were written.
pub record Kept (n m : ℕ) (rows rows' : List Row) : Type 0 where
  pub grows : n ≤ m
  pub sized : length rows' ≡ 257
  pub before : (j : ℕ) → j ≤ n → row_at rows' j ≡ row_at rows j

kept_seq : {n m q : ℕ} {rows rows' rows'' : List Row} → Kept n m rows rows' → Kept m q rows' rows'' → Kept n q rows rows''
kept_seq x y = record {
  grows = omega arith;
  sized = y.sized;
  before = λ j h. y.before j (omega arith) ∙ x.before j h;
}

-- A row without a mark has the mark that says so.
unmarked : (r : Row) → r.node.solid ≡ false → r ≡ marked false r
unmarked r e = rw (← e)

module _ (text : List ℕ) where
  -- The rows from n to m - 1 are the nodes that a part of a drawing puts before others: they are so in any rows that are the same there.
  pub record Part (n m : ℕ) (rows rows' : List Row) (f : List TextNode → List TextNode) : Type 0 where
    pub kept : Kept n m rows rows'
    pub counted : (hs : List TextNode) → n + length (f hs) ≡ m + length hs
    pub told : (rs : List Row) (hs : List TextNode) → ((j : ℕ) → n < j → j ≤ m → row_at rs j ≡ row_at rows' j) → Rowed text rs m hs → Rowed text rs n (f hs)

  -- The same for a node whose ref may still come: any rows that are the same there up to the mark of the first.
  pub record First (n m : ℕ) (rows rows' : List Row) (f : Bool → List TextNode → List TextNode) : Type 0 where
    pub kept : Kept n m rows rows'
    pub some : n < m
    pub counted : (b : Bool) (hs : List TextNode) → n + length (f b hs) ≡ m + length hs
    pub bare : (row_of rows' n).node.solid ≡ false
    pub told : (b : Bool) (rs : List Row) (hs : List TextNode) → ((j : ℕ) → suc n < j → j ≤ m → row_at rs j ≡ row_at rows' j)
        → row_of rs n ≡ marked b (row_of rows' n) → Rowed text rs m hs → Rowed text rs n (f b hs)

  pub part_none : (n m : ℕ) (rows : List Row) → n ≡ m → length rows ≡ 257 → Part n m rows rows (λ hs. hs)
  part_none n m rows e z = record {
    kept = record { grows = omega arith; sized = z; before = λ j h. refl };
    counted = λ hs. rw e;
    told = λ rs hs s a. rw e a;
  }

  module _ {n m q : ℕ} {rows rows' rows'' : List Row} {f g : List TextNode → List TextNode} where
    pub part_seq : Part n m rows rows' f → Part m q rows' rows'' g → Part n q rows rows'' (λ hs. f (g hs))
    part_seq x y = record {
      kept = kept_seq x.kept y.kept;
      counted = λ hs. x.counted (g hs) ∙ y.counted hs;
      told = λ rs hs s a.
          let l = x.kept.grows in
          let u = y.kept.grows in
          x.told rs (g hs) (λ j h k. s j h (omega arith) ∙ y.kept.before j k) (y.told rs hs (λ j h k. s j (omega arith) k) a);
    }

  module _ {n m : ℕ} {rows rows' : List Row} {f : Bool → List TextNode → List TextNode} (x : First n m rows rows' f) where
    -- A member has no mark.
    pub part_plain : Part n m rows rows' (f false)
    part_plain = record {
      kept = x.kept;
      counted = x.counted false;
      told = λ rs hs s a. let l = x.some in
          x.told false rs hs (λ j h k. s j (omega arith) k) (s (suc n) (omega arith) (omega arith) ∙ unmarked (row_of rows' n) x.bare) a;
    }

    -- A child has that of its ref.
    pub part_marked : (r : Bool) → n < 256 → Part n m rows (change rows' (suc n) (marked r)) (f r)
    part_marked r u =
        let l = x.some in
        record {
          kept = record {
            grows = omega arith;
            sized = length-set rows' (suc n) _ ∙ x.kept.sized;
            before = λ j h. set_other rows' (suc n) _ j (λ z. omega arith) ∙ x.kept.before j h;
          };
          counted = x.counted r;
          told = λ rs hs s a.
              x.told r rs hs (λ j h i. s j (omega arith) i ∙ set_other rows' (suc n) _ j (λ z. omega arith))
              (s (suc n) (omega arith) (omega arith) ∙ set_same rows' (suc n) _ (omega (arith, x.kept.sized))) a;
        }

  -- A node with its parts, where any rows that have this one tell it.
  module _ {n m : ℕ} {rows rows' rows'' : List Row} {f : List TextNode → List TextNode} (r : Row) where
    pub first_node : Head rows rows' n r → r.node.solid ≡ false → (h : Bool → TextNode) → ((rs : List Row) (b : Bool) → row_of rs n ≡ marked b r → Tells text rs n (h b))
        → Part (suc n) m rows' rows'' f → First n m rows rows'' (λ b hs. h b ∷ f hs)
    first_node x z h e y =
        let l = y.kept.grows in
        let here : row_of rows'' n ≡ r = y.kept.before (suc n) (omega arith) ∙ x.here in
        record {
          kept = record { grows = omega arith; sized = y.kept.sized; before = λ j g. y.kept.before j (omega arith) ∙ x.before j g };
          some = omega arith;
          counted = λ b hs. let c = y.counted hs in omega arith;
          bare = ap (λ (x : Row). x.node.solid) here ∙ z;
          told = λ b rs hs s t a. (e rs b (t ∙ ap (marked b) here), y.told rs hs (λ j g k. s j g k) a);
        }
