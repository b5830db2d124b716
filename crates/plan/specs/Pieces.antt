-- The rows that say of each part of a process what the control bits say of it: whether it is begun, not begun, complete. A part is a leaf, a loop, or two parts
-- joined.
use Rattle.std.specs.Prelude.{Option, None, Some, unwrap_or, List, [], ◌∷◌, ◌++◌, ℕ, ◌+◌, length}
use Rattle.process.specs.Process.{Joint, seq, and, or, xor}
use Rattle.layout.specs.Fields.{bit_row, not_row, both_row, either_row}
use Rattle.plan.specs.declared.PartRows.{PartRows}
use Rattle.plan.specs.declared.Needs.{Needs}

-- Three rows before all others, of which the third, row 2, says yes always.
abbrev pub constants : List ℕ
constants = bit_row 0 ∷ not_row 0 ∷ either_row 0 1 ∷ []

-- The rows of a part: that it is begun; that it is not; that it is complete; that it is complete or not begun, if a row says so yet; and the part's first event.
abbrev pub part_rows : ℕ → ℕ → ℕ → Option ℕ → ℕ → PartRows
part_rows begun idle done settled first = record { begun = begun; idle = idle; done = done; settled = settled; first = first }

-- What a part adds to those of its own parts: its rows, the rows that speak of it, and what the second pass needs.
pub record Piece : Type 0 where
  pub words : List ℕ
  pub part : PartRows
  pub needs : Needs

abbrev pub piece : List ℕ → PartRows → ℕ → ℕ → Piece
piece ws m later earlier = record { words = ws; part = m; needs = record { later = later; earlier = earlier } }

-- In each of these k is the first free row.
-- A leaf, event e, which is complete by row `done`.
abbrev pub leaf_piece : ℕ → ℕ → ℕ → ℕ → Piece
leaf_piece k e done later = piece (bit_row e ∷ not_row k ∷ []) (part_rows k (k + 1) done (Some 2) e) later 0

-- A leaf copy: complete if begun. Its guard needs the row that it is not begun.
abbrev pub event_piece : ℕ → ℕ → Piece
event_piece k e = leaf_piece k e k (k + 1)

-- A loop over a leaf: always complete.
abbrev pub again_piece : ℕ → ℕ → Piece
again_piece k e = leaf_piece k e 2 0

-- The row that a part is complete or not begun, where there is none yet.
abbrev pub settling : PartRows → List ℕ
settling m = elim m.settled [ None ↦ either_row m.done m.idle ∷ [] | Some row ↦ [] ]

abbrev pub settled_row : ℕ → PartRows → ℕ
settled_row k m = unwrap_or m.settled k

-- A loop over a flow, whose reset is event e: begun also where only the reset's bit is set, complete, and so settled, where the body is complete or not begun. The
-- reset's guard needs the row that the body is complete, and its record the body's first event.
abbrev pub rounds_piece : ℕ → ℕ → PartRows → Piece
rounds_piece k e m =
    let settled = settled_row (k + 3) m in
    piece (bit_row e ∷ either_row m.begun k ∷ not_row (k + 1) ∷ settling m) (part_rows (k + 1) (k + 2) settled (Some settled) m.first) m.done m.first

-- Two parts, p before q: begun where either is, complete by a row of its own, `done`. The earlier part needs that the later is not begun.
abbrev pub pair_piece : ℕ → PartRows → PartRows → ℕ → ℕ → Piece
pair_piece k p q done later =
    piece (either_row p.begun q.begun ∷ not_row k ∷ done ∷ []) (part_rows k (k + 1) (k + 2) None p.first) later q.idle

-- One part and then the other, or both of them: complete where both are. In a flow the later one needs that the earlier is complete.
abbrev pub all_piece : ℕ → PartRows → PartRows → Piece
all_piece k p q = pair_piece k p q (both_row p.done q.done) p.done

-- One part of two: complete where either is. The later one needs that the earlier is not begun.
abbrev pub one_piece : ℕ → PartRows → PartRows → Piece
one_piece k p q = pair_piece k p q (either_row p.done q.done) p.idle

-- Either part or both: begun, and each part complete or not begun. k is the first row after those that settle the parts, a and b.
abbrev pub settled_piece : ℕ → PartRows → PartRows → ℕ → ℕ → Piece
settled_piece k p q a b =
    piece (either_row p.begun q.begun ∷ not_row k ∷ both_row a b ∷ both_row k (k + 2) ∷ []) (part_rows k (k + 1) (k + 3) (Some (k + 2)) p.first) 0 0

abbrev pub after_words : List ℕ → Piece → Piece
after_words ws p = record { words = ws ++ p.words; part = p.part; needs = p.needs }

abbrev pub some_piece : ℕ → PartRows → PartRows → Piece
some_piece k p q =
    after_words (settling p ++ settling q)
    (settled_piece (k + length (settling p) + length (settling q)) p q (settled_row k p) (settled_row (k + length (settling p)) q))

-- Two parts, by how they are joined.
abbrev pub join_piece : Joint → ℕ → PartRows → PartRows → Piece
join_piece seq = all_piece
join_piece and = all_piece
join_piece or = some_piece
join_piece xor = one_piece
