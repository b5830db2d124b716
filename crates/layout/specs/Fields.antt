-- The fields of a guard table: "Table fields are packed most significant first: E, the number of events (16 bits); R, the number of rows (16); E event
-- records; R rows."
use Rattle.std.specs.Prelude.{List, ℕ, ◌+◌, ◌*◌, ◌/◌, ◌%◌}
use Rattle.base.specs.Packed.{field}

-- E, the number of events.
abbrev pub events : List ℕ → ℕ
events t = field 2 t 0

-- R, the number of rows.
abbrev pub rows : List ℕ → ℕ
rows t = field 2 t 2

-- The 32 bits of an event record, and of a row.
abbrev pub event_word : List ℕ → ℕ → ℕ
event_word t e = field 4 t (4 + 4 * e)

abbrev pub row_word : List ℕ → ℕ → ℕ
row_word t i = field 4 t (4 + 4 * events t + 4 * i)

-- Where the fields stand in 32 bits: each is what is left over of the number above it.
-- "An event record: guard row (14 bits), first cleared bit (9), cleared count (9)."
abbrev pub guard_unit : ℕ
guard_unit = 262144

abbrev pub run_unit : ℕ
run_unit = 512

abbrev pub event_record : ℕ → ℕ → ℕ → ℕ
event_record guard first count = guard * guard_unit + first * run_unit + count

abbrev pub guard_of : ℕ → ℕ
guard_of w = w / guard_unit

abbrev pub first_of : ℕ → ℕ
first_of w = w / run_unit % run_unit

abbrev pub count_of : ℕ → ℕ
count_of w = w % run_unit

-- "A row: kind (2 bits), left (15), right (15). Kind 0: control bit `left`, right 0. Kind 1: not row `left`, right 0. Kind 2: both rows. Kind 3: either row."
abbrev pub kind_unit : ℕ
kind_unit = 1073741824

abbrev pub side_unit : ℕ
side_unit = 32768

abbrev pub bit_row : ℕ → ℕ
bit_row e = e * side_unit

abbrev pub not_row : ℕ → ℕ
not_row a = kind_unit + a * side_unit

abbrev pub both_row : ℕ → ℕ → ℕ
both_row a b = 2 * kind_unit + a * side_unit + b

abbrev pub either_row : ℕ → ℕ → ℕ
either_row a b = 3 * kind_unit + a * side_unit + b

abbrev pub kind_of : ℕ → ℕ
kind_of w = w / kind_unit

abbrev pub left_of : ℕ → ℕ
left_of w = w / side_unit % side_unit

abbrev pub right_of : ℕ → ℕ
right_of w = w % side_unit
