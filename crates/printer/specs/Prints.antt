-- What printing answers and leaves in the lent buffer.
use Rattle.std.specs.Prelude.{cond, List, ℕ, ltb, length, Ok, Err}
use Rattle.base.specs.Fill.{fill}
use Rattle.base.specs.Refusals.{refusal}
use Rattle.base.specs.Reports.{Written}
use Rattle.base.specs.declared.Reason.{Reason}
use Rattle.grammar.specs.Printed.{printed}
use Rattle.reading.specs.Answers.{Read, read_of}

-- The answer to a text by what reading it answers.
abbrev pub print_answer : List ℕ → Read → Written
print_answer text (Ok g) = Ok (length (printed text))
print_answer text (Err r) = Err r

-- Number 1, "printing lent under 16,384 bytes", before all others; then reading's.
unfoldable pub print_of : List ℕ → List ℕ → Written
print_of text lent = cond (ltb (length lent) 16384) (Err (refusal Reason.Buffer 0)) (print_answer text (read_of text))

-- The lent bytes: the text without its blanks over their front, or as they were where the text is refused. "On success, bytes past those
-- written stay too."
abbrev pub left_by : List ℕ → List ℕ → Written → List ℕ
left_by text lent (Ok n) = fill lent (printed text)
left_by text lent (Err r) = lent
