-- The record that a list of events leads to: "the starting one with, for each event of the book in order, its bit set and, at a reset, those of its
-- loop's body cleared".
use Rattle.std.specs.Prelude.{cond, List, [], ◌∷◌, ℕ, zero, suc}
use Rattle.diagram.specs.Tree.{Flow}
use Rattle.process.specs.Process.{Process}
use Rattle.process.specs.Expand.{expand}
use Rattle.process.specs.Bits.{clears}
use Rattle.record.specs.Bits.{set_bit, clear_bit}
use Rattle.record.specs.Blank.{blank_record}
use Rattle.record.specs.declared.Record.{Record}

-- The words with the bits cleared, of those below n, that taking x clears: for a reset those of its loop's body, for any other event none.
unfoldable pub cleared : Process → ℕ → List ℕ → ℕ → List ℕ
cleared p x ws zero = ws
cleared p x ws (suc n) = cond (clears p x n) (clear_bit (cleared p x ws n) n) (cleared p x ws n)

-- One event. A record has 512 bits.
abbrev pub marked : Process → List ℕ → ℕ → List ℕ
marked p ws x = cleared p x (set_bit ws x) 512

unfoldable pub marked_all : Process → List ℕ → List ℕ → List ℕ
marked_all p ws [] = ws
marked_all p ws (x ∷ book) = marked_all p (marked p ws x) book

-- The record after the events of a book, from the blank one.
abbrev pub record_after : Flow → List ℕ → Record
record_after d book = record { bits = marked_all (expand d) blank_record.bits book }
