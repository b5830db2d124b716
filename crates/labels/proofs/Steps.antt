-- The definitions by the tests that the code makes: what each of them comes to. Assumes nothing.
use mathlib.Core.Path.{◌≡◌}
use mathlib.Core.Bool.{true, false}
use mathlib.Core.List.{List, ◌∷◌}
use Prim.Native.Nat.{suc, ◌-◌, ◌≤◌, ◌<◌}
use borrow.Author.Tests.{le-leb, lt-leb, eq-eqb, ne_eqb}
use Rattle.std.specs.Prelude.{ℕ, Some, None}
use Rattle.std.specs.declared.ops.ControlFlow.{ControlFlow}
use Rattle.std.specs.declared.ops.ControlFlow.TheVariants.{Continue, Break}
use Rattle.postfix.specs.declared.Code.{Code}
use Rattle.nodes.specs.declared.Form.TheVariants.{Leaf, Loop, Joined}
use Rattle.labels.specs.declared.SearchNode.{SearchNode}
use Rattle.labels.specs.declared.Search.{Search}
use Rattle.labels.specs.declared.Spot.{Spot}
use Rattle.labels.specs.Seeks.{next, into, into_copy, inside, turn, onward, seek}

module _ (r q : SearchNode) (s : Search) where
  -- One node further, by its depth and how many events it has.
  pub turn_other : (r.depth ≡ suc s.above → ⊥) → turn r q s ≡ Continue s
  unfolding turn
  turn_other h = rw (ne_eqb r.depth (suc s.above) h)

  pub turn_past : r.depth ≡ suc s.above → r.weight ≤ s.rest
      → turn r q s ≡ Continue (record { above = s.above; rest = s.rest - r.weight; values = s.values })
  unfolding turn
  turn_past h l = rw (eq-eqb r.depth (suc s.above) h, le-leb r.weight s.rest l)

  pub turn_inside : r.depth ≡ suc s.above → s.rest < r.weight → turn r q s ≡ inside r q s
  unfolding turn
  turn_inside h l = rw (eq-eqb r.depth (suc s.above) h, lt-leb r.weight s.rest l)

  -- The event is one of its own, by its form.
  pub inside_leaf : r.form ≡ Leaf → inside r q s ≡ Break (record { reset = false; place = r.place; values = s.values })
  unfolding inside
  inside_leaf e = rw e

  pub inside_reset : r.form ≡ Loop → q.weight ≤ s.rest → inside r q s ≡ Break (record { reset = true; place = q.place; values = s.values })
  unfolding inside
  inside_reset e l = rw (e, le-leb q.weight s.rest l)

  pub inside_body : r.form ≡ Loop → s.rest < q.weight → inside r q s ≡ Continue (into r.depth s)
  unfolding inside
  inside_body e l = rw (e, lt-leb q.weight s.rest l)

  pub inside_parts : {code : Code} → r.form ≡ Joined code None → inside r q s ≡ Continue (into r.depth s)
  unfolding inside
  inside_parts e = rw e

  pub inside_copies : {code : Code} {size : ℕ} → r.form ≡ Joined code (Some size) → inside r q s ≡ Continue (into_copy r.depth q.weight s)
  unfolding inside
  inside_copies e = rw e

-- One node of a list.
pub seek_turn : (r : SearchNode) (rs : List SearchNode) (s : Search) (t : ControlFlow Spot Search) → turn r (next rs) s ≡ t → seek (r ∷ rs) s ≡ onward t (λ u. seek rs u)
unfolding seek
seek_turn r rs s t e = rw e
