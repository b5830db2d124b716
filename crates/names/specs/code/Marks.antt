-- Names by their marks: the nodes whose names have the same mark are linked, each to the one before it.
use Rattle.std.specs.Prelude.{◌≡◌, Bool, true, not, ◌&&◌, cond, List, ℕ, zero, suc, ◌+◌, ◌-◌, ◌*◌, ◌/◌, ◌%◌, ◌≤◌, ◌<◌, eqb, length, get_or}
use Rattle.diagram.specs.Tree.{Name}
use Rattle.diagram.specs.Names.{same}
use Rattle.tokens.specs.Words.{word_at}
use Rattle.diagram.specs.TreeNodes.{titled}
use Rattle.walked.specs.Rows.{row_of}
use Rattle.walked.specs.declared.Row.{Row}

-- The byte of a name that stands k before its end, or its first one.
abbrev pub from_end : Name → ℕ → ℕ
from_end w k = get_or w (length w - k) 0

-- The mark of a name: a few of its bytes, among them the last ones, in which names that are alike differ, and its length.
unfoldable pub mark_of : Name → ℕ
mark_of w =
    (get_or w 0 0 * 101 + get_or w (length w / 2) 0 * 3 + (from_end w 1 + from_end w 2 * 11 + from_end w 3 * 121) + length w) % 512

-- By its row: whether the node i is a leaf or a flow, and its name.
abbrev pub titled_at : List Row → ℕ → Bool
titled_at rows i = titled ((row_of rows i).node.kind)

abbrev pub title_at : List ℕ → List Row → ℕ → Name
title_at text rows i = word_at text ((row_of rows i).node.name)

-- No leaf or flow before the node i has this name.
unfoldable pub unused_at : List ℕ → List Row → Name → ℕ → Bool
unused_at text rows m zero = true
unused_at text rows m (suc i) = not (titled_at rows i && same m (title_at text rows i)) && unused_at text rows m i

-- One more than the number of the last leaf or flow before the node i whose name has the mark s, and 0 where there is none.
unfoldable pub latest : List ℕ → List Row → ℕ → ℕ → ℕ
latest text rows s zero = 0
latest text rows s (suc i) = cond (titled_at rows i && eqb (mark_of (title_at text rows i)) s) (suc i) (latest text rows s i)

-- The leaves and flows before the node i are linked.
pub record Linked (text : List ℕ) (rows : List Row) (links : List ℕ) (i : ℕ) : Type 0 where
  pub each : (k : ℕ) → k < i → titled_at rows k ≡ true → get_or links k 0 ≡ latest text rows (mark_of (title_at text rows k)) k

-- Every link leads back.
pub record Falling (links : List ℕ) : Type 0 where
  pub each : (k : ℕ) → get_or links k 0 ≤ k
