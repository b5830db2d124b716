-- What reading answers, stage by stage: the checks of document 01, "Numbers for what is turned away", in their order. What it means stands in
-- Accepted.antt (`Accepted`) and Refused.antt (`RefusedAt`): a text is read exactly if some diagram is `Accepted` for it, and is refused with a number
-- at a place exactly if it is `RefusedAt` so. This file only says how the stages lead there; the two theorems are
-- `reading.proofs.Exact.accepted_exactly` and `reading.proofs.Exact.refused_exactly`.
use Rattle.std.specs.Prelude.{List, ℕ, Result, Ok, Err, replicate}
use Rattle.base.specs.Refusals.{refusal}
use Rattle.base.specs.declared.Refusal.{Refusal}
use Rattle.diagram.specs.TreeNodes.{TextNode}
use Rattle.tokens.specs.Scanned.{scan_of}
use Rattle.walked.specs.Walk.{blank_row, End, whole, stop, ending}
use Rattle.walked.specs.Rows.{row_nodes}
use Rattle.rules.specs.Judged.{Verdict, verdict}
use Rattle.reading.specs.Nodes.{stored}
use Rattle.diagram.specs.declared.Diagram.{Diagram}

-- What reading answers. "A refused answer carries number and place, and all its counts are 0": it has no diagram, so no counts.
abbrev pub Read : Type 0
Read = Result Diagram Refusal

-- Numbers 7 to 11, and the diagram.
abbrev pub judged : List ℕ → List TextNode → Verdict → Read
judged text hs (Err r) = Err r
judged text hs (Ok counts) = Ok (stored text hs counts.copies counts.events)

-- The nodes by the rows that the walk leaves.
abbrev pub judged_nodes : List ℕ → List TextNode → Read
judged_nodes text hs = judged text hs (verdict text hs)

-- Numbers 5 and 6, and those after them.
abbrev pub parsed : List ℕ → End → Read
parsed text (stop reason place) = Err (refusal reason place)
parsed text (whole n st) = judged_nodes text (row_nodes text st.rows 0 n)

-- Numbers 2 to 4, and those after them. The walk begins with rows that are not used yet.
abbrev pub scanned : List ℕ → Result ℕ Refusal → Read
scanned text (Err r) = Err r
scanned text (Ok n) = parsed text (ending text (replicate 257 blank_row))

-- What reading a text answers.
unfoldable pub read_of : List ℕ → Read
read_of text = scanned text (scan_of text)
