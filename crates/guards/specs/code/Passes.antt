-- The two passes over a process in postfix order, as the code makes them: for the contracts of private functions. The first, from the front, writes the rows of each
-- part. The second, from the end, writes for each part the row that lets it go on, and the event records.
use Rattle.std.specs.Prelude.{◌≡◌, None, ℕ, ◌+◌, ◌-◌, ◌*◌, ◌≤◌, length, reverse}
use mathlib.Core.List.{List, [], ◌∷◌, foldl, foldr}
use Rattle.base.specs.Packed.{put_word}
use Rattle.layout.specs.Fields.{both_row, event_record}
use Rattle.postfix.specs.declared.Code.{Code}
use Rattle.postfix.specs.declared.Code.TheVariants.{Leaf, Again, Rounds, Seq, And, Or, Xor}
use Rattle.plan.specs.declared.PartRows.{PartRows}
use Rattle.plan.specs.declared.Needs.{Needs}
use Rattle.plan.specs.Pieces.{constants, part_rows, Piece, event_piece, again_piece, rounds_piece, all_piece, one_piece, some_piece}
use Rattle.guards.specs.declared.Table.{Table}
use Rattle.guards.specs.code.Rows.{put_rows, base_of, Adds}
use Rattle.guards.specs.declared.Added.{Added}
use Rattle.guards.specs.declared.Whole.{Whole}

-- A piece that the code made: from w to v its rows are added.
pub record Makes (p : Piece) (w v : Table) (r : Added) : Type 0 where
  pub its_rows : Adds w v p.words
  pub its_part : r.part ≡ p.part
  pub its_needs : r.needs ≡ p.needs

-- ---- stacks
-- A stack begins with its latest element; the code holds the elements in order.
abbrev pub stacked : {A : Type 0} → List A → List A
stacked = reverse

-- The latest, `none` where there is none, and the others.
abbrev pub top : {A : Type 0} → A → List A → A
top none [] = none
top none (x ∷ s) = x

abbrev pub rest : {A : Type 0} → List A → List A
rest [] = []
rest (x ∷ s) = s

-- The latest is taken.
pub record Pops {A : Type 0} (old new : List A) (none r : A) : Type 0 where
  pub its_top : r ≡ top none (stacked old)
  pub its_rest : stacked new ≡ rest (stacked old)

-- ---- by the code
-- The piece of a code, by the latest two parts, q and before it p.
unfoldable pub piece_of : Code → ℕ → ℕ → PartRows → PartRows → Piece
piece_of Leaf k e q p = event_piece k e
piece_of Again k e q p = again_piece k e
piece_of Rounds k e q p = rounds_piece k e q
piece_of Seq k e q p = all_piece k p q
piece_of And k e q p = all_piece k p q
piece_of Or k e q p = some_piece k p q
piece_of Xor k e q p = one_piece k p q

-- The parts that are not its own: a leaf joins no part, a loop over a flow one, a joint two.
abbrev pub others : {A : Type 0} → Code → List A → List A
others Leaf s = s
others Again s = s
others Rounds s = rest s
others Seq s = rest (rest s)
others And s = rest (rest s)
others Or s = rest (rest s)
others Xor s = rest (rest s)

-- How many events it is: a leaf and a reset is one.
abbrev pub event_count : Code → ℕ
event_count Leaf = 1
event_count Again = 1
event_count Rounds = 1
event_count Seq = 0
event_count And = 0
event_count Or = 0
event_count Xor = 0

-- Its rows in the second pass, where it may go on by row m: the guard of a leaf or a reset, or the gates of the later and the earlier part.
abbrev pub second_words : Code → ℕ → Needs → List ℕ
second_words Leaf m n = both_row m n.later ∷ []
second_words Again m n = []
second_words Rounds m n = both_row m n.later ∷ []
second_words Seq m n = both_row m n.later ∷ both_row m n.earlier ∷ []
second_words And m n = []
second_words Or m n = []
second_words Xor m n = both_row m n.later ∷ both_row m n.earlier ∷ []

-- The gates of its parts over those of others: new rows, k and the next, or its own gate, m.
abbrev pub gates_over : Code → ℕ → ℕ → List ℕ → List ℕ
gates_over Leaf k m s = s
gates_over Again k m s = s
gates_over Rounds k m s = m ∷ s
gates_over Seq k m s = k ∷ (k + 1) ∷ s
gates_over And k m s = m ∷ m ∷ s
gates_over Or k m s = m ∷ m ∷ s
gates_over Xor k m s = k ∷ (k + 1) ∷ s

-- The record of event e. A loop over a leaf goes on by m itself; a reset clears the events from its body's first on. A joint has none.
abbrev pub put_record : Code → (k m e : ℕ) → Needs → List ℕ → List ℕ
put_record Leaf k m e n o = put_word o (4 + 4 * e) (event_record k 0 0)
put_record Again k m e n o = put_word o (4 + 4 * e) (event_record m 0 0)
put_record Rounds k m e n o = put_word o (4 + 4 * e) (event_record k n.earlier (e - n.earlier))
put_record Seq k m e n o = o
put_record And k m e n o = o
put_record Or k m e n o = o
put_record Xor k m e n o = o

-- ---- the first pass
abbrev pub no_rows : PartRows
no_rows = part_rows 0 0 0 None 0

abbrev pub no_needs : Needs
no_needs = record { later = 0; earlier = 0 }

-- Where it stands: the next row, the next event; the parts whose joint is still to come, and what the second pass needs, the latest first; the lent bytes.
pub record FirstAt : Type 0 where
  pub rows : ℕ
  pub event : ℕ
  pub parts : List PartRows
  pub needs : List Needs
  pub out : List ℕ

abbrev pub first_start : ℕ → List ℕ → FirstAt
first_start rows out = record { rows = rows; event = 0; parts = []; needs = []; out = out }

abbrev pub first_with : ℕ → Code → Piece → FirstAt → FirstAt
first_with base op p u = record {
  rows = u.rows + length p.words;
  event = u.event + event_count op;
  parts = p.part ∷ others op u.parts;
  needs = p.needs ∷ u.needs;
  out = put_rows base u.rows p.words u.out;
}

abbrev pub latest_piece : Code → ℕ → ℕ → List PartRows → Piece
latest_piece op k e s = piece_of op k e (top no_rows s) (top no_rows (rest s))

unfoldable pub first_step : ℕ → FirstAt → Code → FirstAt
first_step base u op = first_with base op (latest_piece op u.rows u.event u.parts) u

abbrev pub first_pass : ℕ → List Code → FirstAt → FirstAt
first_pass base ops u = foldl (first_step base) u ops

abbrev pub done_row : FirstAt → ℕ
done_row u = (top no_rows u.parts).done

-- What the code answers and leaves: from w to v its rows are added.
pub record FirstEnds (u : FirstAt) (w v : Table) (needs : List Needs) (r : Whole) : Type 0 where
  pub same : v.out.ghost_name ≡ w.out.ghost_name
  pub its_events : v.events ≡ w.events
  pub its_rows : v.next ≡ u.rows
  pub its_out : v.out.now ≡ u.out
  pub its_event : r.event ≡ u.event
  pub its_done : r.done ≡ done_row u
  pub its_needs : stacked needs ≡ u.needs
  pub few_rows : v.next ≤ 3 + 6 * 1024

-- ---- the second pass
-- Where it stands: the next row, one more than the next event; the gates of parts to come, and what is needed of codes to come, the latest first; the lent bytes.
pub record SecondAt : Type 0 where
  pub rows : ℕ
  pub event : ℕ
  pub gates : List ℕ
  pub needs : List Needs
  pub out : List ℕ

-- The whole may go on always: by row 2.
abbrev pub second_start : ℕ → ℕ → List Needs → List ℕ → SecondAt
second_start rows event needs out = record { rows = rows; event = event; gates = 2 ∷ []; needs = needs; out = out }

-- The gate of a code's part is taken, and the gates of its own parts are put, the later one's over the earlier one's.
abbrev pub second_with : ℕ → Code → ℕ → Needs → SecondAt → SecondAt
second_with base op m n d = record {
  rows = d.rows + length (second_words op m n);
  event = d.event - event_count op;
  gates = gates_over op d.rows m (rest d.gates);
  needs = rest d.needs;
  out = put_rows base d.rows (second_words op m n) (put_record op d.rows m (d.event - event_count op) n d.out);
}

unfoldable pub second_step : ℕ → Code → SecondAt → SecondAt
second_step base op d = second_with base op (top 0 d.gates) (top no_needs d.needs) d

abbrev pub second_pass : ℕ → List Code → SecondAt → SecondAt
second_pass base ops d = foldr (second_step base) d ops

-- What a code leaves in the second pass, where it needs n: from w to v its record and its rows.
pub record Guarded (op : Code) (event : ℕ) (n : Needs) (old new : List ℕ) (w v : Table) (r : ℕ) : Type 0 where
  pub same : v.out.ghost_name ≡ w.out.ghost_name
  pub its_events : v.events ≡ w.events
  pub its_event : r ≡ event - event_count op
  pub its_gates : stacked new ≡ gates_over op w.next (top 0 (stacked old)) (rest (stacked old))
  pub its_rows : v.next ≡ w.next + length (second_words op (top 0 (stacked old)) n)
  pub its_out : v.out.now
      ≡ put_rows (base_of w.events) w.next (second_words op (top 0 (stacked old)) n) (put_record op w.next (top 0 (stacked old)) r n w.out.now)

pub record SecondEnds (d : SecondAt) (w v : Table) : Type 0 where
  pub same : v.out.ghost_name ≡ w.out.ghost_name
  pub its_events : v.events ≡ w.events
  pub its_rows : v.next ≡ d.rows
  pub its_out : v.out.now ≡ d.out
  pub few_rows : v.next ≤ 3 + 8 * 1024

-- ---- both
unfoldable pub first_of : List Code → ℕ → List ℕ → FirstAt
first_of ops events lent = first_pass (base_of events) ops (first_start 3 (put_rows (base_of events) 0 constants lent))

unfoldable pub second_of : List Code → ℕ → FirstAt → SecondAt
second_of ops events u = second_pass (base_of events) ops (second_start u.rows u.event u.needs u.out)

-- "Row R−1 says finished": one row more, which says that the whole is complete; and E and R.
abbrev pub finish : ℕ → FirstAt → SecondAt → List ℕ
finish events u d =
    put_word (put_rows (base_of events) d.rows (both_row (done_row u) (done_row u) ∷ []) d.out) 0 (events * 65536 + (d.rows + 1))

pub record Passes (ops : List Code) (events : ℕ) (lent : List ℕ) (size : ℕ) (left : List ℕ) : Type 0 where
  pub its_size : size ≡ base_of events + 4 * ((second_of ops events (first_of ops events lent)).rows + 1)
  pub its_bytes : left ≡ finish events (first_of ops events lent) (second_of ops events (first_of ops events lent))
