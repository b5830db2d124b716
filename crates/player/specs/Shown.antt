-- What is shown of a run: the answer to each event that is said, the control bits that are set, and what may come next.
use Rattle.std.specs.Prelude.{Bool, true, false, cond, List, [], ◌∷◌, ◌++◌, ℕ, suc, replicate, ⊤, Result, Ok, Err}
use Rattle.base.specs.Text.{bytes}
use Rattle.base.specs.Refusals.{number}
use Rattle.base.specs.declared.Refusal.{Refusal}
use Rattle.record.specs.Bits.{bit_at}
use Rattle.record.specs.Bytes.{words_of}
use Rattle.record.specs.Blank.{blank_record}
use Rattle.record.specs.declared.Record.{Record}
use Rattle.table.specs.Steps.{step_of, finished_of, offer_of, offer_left}
use Rattle.table.specs.declared.Stepped.{Stepped}
use Rattle.output.specs.Lines.{refused_line}
use Rattle.said.specs.Lines.{lines, first, event_lines}
use Rattle.said.specs.Said.{event_said}

-- An event's line in brackets, after a space; or nothing.
abbrev pub item : Bool → List ℕ → List ℕ
item there line = cond there (bytes " [" ++ (line ++ bytes "]")) []

-- The lines whose bits are set, of lines the first of which has bit e.
unfoldable pub chosen : List (List ℕ) → List ℕ → ℕ → List ℕ
chosen [] bits e = []
chosen (l ∷ ls) bits e = item (bit_at bits e) l ++ chosen ls bits (suc e)

-- A line: a word, and the events of a listing whose bits are set.
unfoldable pub events_line : List ℕ → List ℕ → List ℕ → List ℕ
events_line word listing bits = (word ++ chosen (event_lines listing) bits 0) ++ bytes "\n"

-- The words of what a step would take; none are set where the offer is refused.
unfoldable pub next_bits : List ℕ → Record → List ℕ
next_bits table r = words_of (offer_left table r (replicate 64 0) (offer_of table r (replicate 64 0)))

-- `bits` and the events whose control bits are set, `next` and the events that may come next.
unfoldable pub state_text : List ℕ → List ℕ → Record → List ℕ
state_text listing table r = events_line (bytes "bits") listing r.bits ++ events_line (bytes "next") listing (next_bits table r)

-- `done`, or `refused`, number and place.
abbrev pub answer_text : Result ⊤ Refusal → List ℕ
answer_text (Ok done) = bytes "done\n"
answer_text (Err r) = refused_line (number r.reason) r.place

-- What was said, and the answer to it.
unfoldable pub answer_line : List ℕ → Result ⊤ Refusal → List ℕ
answer_line said a = said ++ (bytes ": " ++ answer_text a)

-- What was said, the answer to it, and the state after it.
unfoldable pub stepped_text : List ℕ → List ℕ → List ℕ → Stepped → List ℕ
stepped_text listing table said s = answer_line said s.answer ++ state_text listing table s.after

-- A step with the event that is said.
unfoldable pub said_step : List ℕ → List ℕ → Record → List ℕ → Stepped
said_step listing table before said = step_of table before (event_said listing said)

-- The listing's first line, and the state of the blank record.
unfoldable pub opening_text : List ℕ → List ℕ → List ℕ
opening_text listing table = (first (lines listing) ++ bytes "\n") ++ state_text listing table blank_record

-- `finished` or `not finished`, or `refused`, number and place.
abbrev pub finish_text : Result Bool Refusal → List ℕ
finish_text (Ok true) = bytes "finished\n"
finish_text (Ok false) = bytes "not finished\n"
finish_text (Err r) = refused_line (number r.reason) r.place

unfoldable pub closing_text : List ℕ → Record → List ℕ
closing_text table r = finish_text (finished_of table r)
