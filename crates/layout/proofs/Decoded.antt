-- The fields of rows and event records that are written as numbers: what was written is read, and a row says what document 01 says of its kind.
use mathlib.Core.Path.{◌≡◌}
use mathlib.Core.Bool.{Bool, not, ◌&&◌, ◌||◌}
use Prim.Native.Nat.{ℕ, ◌+◌, ◌*◌, ◌<◌, ◌^◌}
use native.Mathlib.Omega.{arith}
use Rattle.layout.specs.Fields.{run_unit, kind_unit, side_unit, guard_of, first_of, count_of, kind_of, left_of, right_of, bit_row, not_row, both_row, either_row, event_record}
use Rattle.layout.specs.Values.{says}

pub record Fields (w kind left right : ℕ) : Type 0 where
  pub its_kind : kind_of w ≡ kind
  pub its_left : left_of w ≡ left
  pub its_right : right_of w ≡ right
  pub small : w < 2 ^ 32

-- One law for all rows: a kind and two numbers, in their places.
pub fields : (w kind left right : ℕ) → w ≡ kind * kind_unit + left * side_unit + right → kind < 4 → left < side_unit → right < side_unit
    → Fields w kind left right
fields w kind left right e k l r = record {
  its_kind = omega (arith, e, k, l, r);
  its_left = omega (arith, e, k, l, r);
  its_right = omega (arith, e, k, l, r);
  small = omega (arith, e, k, l, r);
}

pub bit_fields : (e : ℕ) → e < side_unit → Fields (bit_row e) 0 e 0
bit_fields e h = fields (bit_row e) 0 e 0 (omega arith) (omega arith) h (omega arith)

pub not_fields : (a : ℕ) → a < side_unit → Fields (not_row a) 1 a 0
not_fields a h = fields (not_row a) 1 a 0 (omega arith) (omega arith) h (omega arith)

pub both_fields : (a b : ℕ) → a < side_unit → b < side_unit → Fields (both_row a b) 2 a b
both_fields a b h k = fields (both_row a b) 2 a b (omega arith) (omega arith) h k

pub either_fields : (a b : ℕ) → a < side_unit → b < side_unit → Fields (either_row a b) 3 a b
either_fields a b h k = fields (either_row a b) 3 a b (omega arith) (omega arith) h k

module _ (s v : ℕ → Bool) where
  pub bit_says : (e : ℕ) → e < side_unit → says (bit_row e) s v ≡ s e
  unfolding says
  bit_says e h = let f = bit_fields e h in rw (f.its_kind, f.its_left)

  pub not_says : (a : ℕ) → a < side_unit → says (not_row a) s v ≡ not (v a)
  unfolding says
  not_says a h = let f = not_fields a h in rw (f.its_kind, f.its_left)

  pub both_says : (a b : ℕ) → a < side_unit → b < side_unit → says (both_row a b) s v ≡ (v a && v b)
  unfolding says
  both_says a b h k = let f = both_fields a b h k in rw (f.its_kind, f.its_left, f.its_right)

  pub either_says : (a b : ℕ) → a < side_unit → b < side_unit → says (either_row a b) s v ≡ (v a || v b)
  unfolding says
  either_says a b h k = let f = either_fields a b h k in rw (f.its_kind, f.its_left, f.its_right)

pub record RecordFields (w guard first count : ℕ) : Type 0 where
  pub its_guard : guard_of w ≡ guard
  pub its_first : first_of w ≡ first
  pub its_count : count_of w ≡ count
  pub small : w < 2 ^ 32

pub record_fields : (guard first count : ℕ) → guard < 16384 → first < run_unit → count < run_unit → RecordFields (event_record guard first count) guard first count
record_fields guard first count g f c = record {
  its_guard = omega (arith, g, f, c);
  its_first = omega (arith, g, f, c);
  its_count = omega (arith, g, f, c);
  small = omega (arith, g, f, c);
}
