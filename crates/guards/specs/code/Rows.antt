-- Rows as the code writes them, one after the other: for the contracts of private functions.
use Rattle.std.specs.Prelude.{◌≡◌, List, [], ◌∷◌, ℕ, ◌+◌, ◌*◌, length}
use Rattle.std.specs.Borrow.{MutBor}
use Rattle.base.specs.Packed.{put_word}
use Rattle.guards.specs.declared.Table.{Table}

-- The bytes with rows from row k on, where row 0 stands at `base`.
unfoldable pub put_rows : ℕ → ℕ → List ℕ → List ℕ → List ℕ
put_rows base k [] o = o
put_rows base k (w ∷ ws) o = put_rows base (k + 1) ws (put_word o (base + 4 * k) w)

-- Row 0 stands after the event records.
abbrev pub base_of : ℕ → ℕ
base_of events = 4 + 4 * events

-- Over lent bytes, for so many events: no row yet.
pub record Begins (lent : MutBor (List ℕ)) (events : ℕ) (w : Table) : Type 0 where
  pub same : w.out.ghost_name ≡ lent.ghost_name
  pub its_events : w.events ≡ events
  pub its_next : w.next ≡ 0
  pub its_bytes : w.out.now ≡ lent.now

-- From w to v these rows are added.
pub record Adds (w v : Table) (ws : List ℕ) : Type 0 where
  pub same : v.out.ghost_name ≡ w.out.ghost_name
  pub its_events : v.events ≡ w.events
  pub its_next : v.next ≡ w.next + length ws
  pub its_bytes : v.out.now ≡ put_rows (base_of w.events) w.next ws w.out.now

-- From w to v no row is added, and the bytes are these.
pub record Keeps (w v : Table) (bytes : List ℕ) : Type 0 where
  pub same : v.out.ghost_name ≡ w.out.ghost_name
  pub its_events : v.events ≡ w.events
  pub its_next : v.next ≡ w.next
  pub its_bytes : v.out.now ≡ bytes
