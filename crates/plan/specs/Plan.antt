-- The table of a process, by its parts: the rows that each part adds, and where they stand. "Open here is a translation's choice of rows": this is the choice, and it is made
-- from the process alone. That it is right is proved, not read here.
use Rattle.std.specs.Prelude.{List, [], ◌∷◌, ◌++◌, ℕ, suc, ◌+◌, ◌-◌, ◌*◌, length}
use Rattle.process.specs.Process.{Joint, seq, and, or, xor, Process, event, join, again, rounds}
use Rattle.postfix.specs.Fold.{Algebra, fold}
use Rattle.base.specs.Packed.{packed}
use Rattle.layout.specs.Fields.{both_row, event_record}
use Rattle.plan.specs.Pieces.{constants, Piece, event_piece, again_piece, rounds_piece, join_piece}
use Rattle.plan.specs.declared.PartRows.{PartRows}
use Rattle.plan.specs.declared.Needs.{Needs}

-- ---- the first pass: what each part has begun and completed
-- The rows of a process, those that speak of it, and what the second pass needs of each number in postfix order.
pub record Plan : Type 0 where
  pub words : List ℕ
  pub part : PartRows
  pub needs : List Needs

-- A part's own piece after the plans of its parts.
abbrev pub leaf_plan : Piece → Plan
leaf_plan p = record { words = p.words; part = p.part; needs = p.needs ∷ [] }

abbrev pub over_plan : Plan → Piece → Plan
over_plan a p = record { words = a.words ++ p.words; part = p.part; needs = a.needs ++ (p.needs ∷ []) }

abbrev pub join_plan : Plan → Plan → Piece → Plan
join_plan a b p =
    record { words = a.words ++ (b.words ++ p.words); part = p.part; needs = a.needs ++ (b.needs ++ (p.needs ∷ [])) }

-- The piece of a joint whose parts have these plans, the first of them from row k on.
abbrev pub joined : Joint → ℕ → Plan → Plan → Piece
joined j k a b = join_piece j (k + length a.words + length b.words) a.part b.part

-- The plan of a process, by its first row k.
abbrev pub planning : Algebra (ℕ → Plan)
planning = record {
  leaf = λ n k. leaf_plan (event_piece k n);
  loop = λ n k. leaf_plan (again_piece k n);
  turns = λ a r k. over_plan (a k) (rounds_piece (k + length (a k).words) r (a k).part);
  both = λ j a b k. let later = b (k + length (a k).words) in join_plan (a k) later (joined j k (a k) later);
}

abbrev pub plan_of : Process → ℕ → Plan
plan_of = fold planning

-- ---- the second pass: what lets each part go on
-- The rows of a process, and its event records in the order of the events.
pub record Guards : Type 0 where
  pub words : List ℕ
  pub records : List ℕ

abbrev pub guards : List ℕ → List ℕ → Guards
guards ws rs = record { words = ws; records = rs }

-- After the rows ws of a joint, those of the later part and then those of the earlier one.
abbrev pub join_guards : List ℕ → Guards → Guards → Guards
join_guards ws b a = guards (ws ++ (b.words ++ a.words)) (a.records ++ b.records)

-- The rows of a joint itself, where it may go on by row m: in a flow, and where one part of two runs, each part needs something of the other.
abbrev pub joint_words : Joint → ℕ → Needs → List ℕ
joint_words seq m n = both_row m n.later ∷ both_row m n.earlier ∷ []
joint_words and m n = []
joint_words or m n = []
joint_words xor m n = both_row m n.later ∷ both_row m n.earlier ∷ []

-- The gate of the later part of a joint, the row by which it may go on, and that of the earlier, where the joint's own rows begin at k.
abbrev pub later_gate : Joint → ℕ → ℕ → ℕ
later_gate seq k m = k
later_gate and k m = m
later_gate or k m = m
later_gate xor k m = k

abbrev pub earlier_gate : Joint → ℕ → ℕ → ℕ
earlier_gate seq k m = k + 1
earlier_gate and k m = m
earlier_gate or k m = m
earlier_gate xor k m = k + 1

-- The guards of a process whose first row in the first pass was u, whose first row now is k, and which may go on by row m. A leaf's row says that it may go on and is
-- not begun, a reset's that it may go on and the body is complete; a loop over a leaf goes on by m itself. A reset clears the events of its body.
unfoldable pub guards_of : Process → (u k m : ℕ) → Guards
unfolding fold
guards_of (event n l) u k m = guards (both_row m (u + 1) ∷ []) (event_record k 0 0 ∷ [])
guards_of (join j p q) u k m =
    let v = u + length (plan_of p u).words in
    let ws = joint_words j m (joined j u (plan_of p u) (plan_of q v)).needs in
    let later = guards_of q v (k + length ws) (later_gate j k m) in
    join_guards ws later (guards_of p u (k + length ws + length later.words) (earlier_gate j k m))
guards_of (again n l) u k m = guards [] (event_record m 0 0 ∷ [])
guards_of (rounds p r l) u k m =
    let n = (rounds_piece (u + length (plan_of p u).words) r (plan_of p u).part).needs in
    let body = guards_of p u (suc k) m in
    guards (both_row m n.later ∷ body.words) (body.records ++ (event_record k n.earlier (r - n.earlier) ∷ []))

-- ---- the whole table
-- The first row of the second pass.
abbrev pub middle : Process → ℕ
middle p = 3 + length (plan_of p 3).words

-- All rows: the constants, those of the two passes, where the whole may go on by row 2, and the one that says finished.
abbrev pub rows_of : Process → List ℕ
rows_of p =
    constants
    ++ ((plan_of p 3).words ++ ((guards_of p 3 (middle p) 2).words ++ (both_row (plan_of p 3).part.done (plan_of p 3).part.done ∷ [])))

abbrev pub records_of : Process → List ℕ
records_of p = (guards_of p 3 (middle p) 2).records

-- "Table fields are packed most significant first: E, the number of events (16 bits); R, the number of rows (16); E event records; R rows."
unfoldable pub planned : Process → List ℕ
planned p = packed ((length (records_of p) * 65536 + length (rows_of p)) ∷ (records_of p ++ rows_of p))
