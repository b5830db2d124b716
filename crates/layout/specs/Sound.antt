-- A sound table.
use Rattle.std.specs.Prelude.{◌≡◌, ◌⊎◌, Bool, true, cond, ◌&&◌, List, ℕ, zero, suc, ◌+◌, ◌*◌, ◌≤◌, ◌<◌, leb, ltb, eqb, length}
use Rattle.layout.specs.Fields.{events, rows, event_word, row_word, guard_of, first_of, count_of, kind_of, left_of, right_of}

-- "E 1 to 512, R 1 to 12,288, length exactly 4+4E+4R"
unfoldable pub sized : List ℕ → Bool
sized t =
    leb 1 (events t) && (leb (events t) 512 && (leb 1 (rows t) && (leb (rows t) 12288
    && eqb (length t) (4 + 4 * events t + 4 * rows t))))

-- Of event e's record w, where there are m rows: "every guard below R", "either first and count both 0, or count at least 1 and first+count equal
-- to the event's own number".
unfoldable pub event_sound : ℕ → ℕ → ℕ → Bool
event_sound w m e =
    ltb (guard_of w) m && cond (eqb (count_of w) 0) (eqb (first_of w) 0) (eqb (first_of w + count_of w) e)

-- Of row i, of word w, where there are n events: "every control bit below E, right 0 in kinds 0 and 1, every row named lower than its own".
unfoldable pub row_sound : ℕ → ℕ → ℕ → Bool
row_sound w n i =
    cond (eqb (kind_of w) 0) (ltb (left_of w) n && eqb (right_of w) 0)
    (ltb (left_of w) i && cond (eqb (kind_of w) 1) (eqb (right_of w) 0) (ltb (right_of w) i))

-- The first e event records, and the first i rows.
unfoldable pub events_sound : List ℕ → ℕ → Bool
events_sound t zero = true
events_sound t (suc e) = events_sound t e && event_sound (event_word t e) (rows t) e

unfoldable pub rows_sound : List ℕ → ℕ → Bool
rows_sound t zero = true
rows_sound t (suc i) = rows_sound t i && row_sound (row_word t i) (events t) i

-- A sound table.
unfoldable pub sound : List ℕ → Bool
sound t = sized t && (events_sound t (events t) && rows_sound t (rows t))

-- The same sentence by sentence. Of an event's record: its run of cleared bits.
abbrev pub Run : ℕ → ℕ → Type 0
Run w e = ((first_of w ≡ 0) × (count_of w ≡ 0)) ⊎ ((1 ≤ count_of w) × (first_of w + count_of w ≡ e))

-- Of a row.
pub record RowKeeps (w n i : ℕ) : Type 0 where
  pub bit_below : kind_of w ≡ 0 → left_of w < n
  pub right_zero : kind_of w < 2 → right_of w ≡ 0
  pub left_lower : 1 ≤ kind_of w → left_of w < i
  pub right_lower : 2 ≤ kind_of w → right_of w < i

-- "A sound table has E 1 to 512, R 1 to 12,288, length exactly 4+4E+4R, every guard below R, every control bit below E, right 0 in kinds 0 and 1, every row
-- named lower than its own, and in each event record either first and count both 0, or count at least 1 and first+count equal to the event's own number."
pub record SoundTable (t : List ℕ) : Type 0 where
  pub events_least : 1 ≤ events t
  pub events_most : events t ≤ 512
  pub rows_least : 1 ≤ rows t
  pub rows_most : rows t ≤ 12288
  pub length_exact : length t ≡ 4 + 4 * events t + 4 * rows t
  pub guards : (e : ℕ) → e < events t → guard_of (event_word t e) < rows t
  pub runs : (e : ℕ) → e < events t → Run (event_word t e) e
  pub rows_keep : (i : ℕ) → i < rows t → RowKeeps (row_word t i) (events t) i
