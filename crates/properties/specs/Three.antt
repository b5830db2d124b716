-- Property 3, whole, from a text and a lent buffer to the last call: "For an accepted, translated diagram and any list of calls from the blank record, an event is
-- taken exactly when the events taken so far, followed by it, begin a whole run; finished is reported exactly when they are one; the record is always the one
-- they lead to." It is "one statement about the whole list of calls".
use Rattle.std.specs.Prelude.{◌≡◌, ◌⊎◌, Bool, List, map, ℕ, ◌≤◌, length, take, replicate, Result, Ok, ⊤}
use Rattle.base.specs.Reports.{Written}
use Rattle.base.specs.declared.Refusal.{Refusal}
use Rattle.diagram.specs.Tree.{Flow}
use Rattle.record.specs.Blank.{blank_record}
use Rattle.record.specs.declared.Record.{Record}
use Rattle.table.specs.declared.Stepped.{Stepped}
use Rattle.reading.specs.Accepted.{Accepted}
use Rattle.plays.specs.Plays.{Line, Played}
use Rattle.book.specs.Calls.{Call, step, finished, Reply, stepped, reported}
use Rattle.book.specs.Book.{ByBook}
use Rattle.properties.specs.InC.{in_c}
use Rattle.properties.specs.Calls.{Translates, Steps, Finishes, Updates, CSteps, CFinishes}

-- A step by value, the record handed on; or through the thin call on a lent record. A list may mix the two.
abbrev pub SteppedByValue : List ℕ → Record → ℕ → Line Reply Record → Type 0
SteppedByValue t before e l = (r : Stepped) × Steps t before e r × (l ≡ record { reply = stepped r.answer; after = r.after })

abbrev pub SteppedInPlace : List ℕ → Record → ℕ → Line Reply Record → Type 0
SteppedInPlace t before e l = (a : Result ⊤ Refusal) × (r : Record) × Updates t before e a r × (l ≡ record { reply = stepped a; after = r })

-- "The calls are step, with any event number, and finished": what a call may have answered on a record, and the record after it.
abbrev pub Makes : List ℕ → Record → Call → Line Reply Record → Type 0
Makes t before (step e) l = SteppedByValue t before e l ⊎ SteppedInPlace t before e l
Makes t before finished l = (f : Result Bool Refusal) × Finishes t before f × (l ≡ record { reply = reported f; after = before })

-- The same through the C calls step and finished, on a record's bytes.
abbrev pub CMakes : List ℕ → List ℕ → Call → Line ℕ (List ℕ) → Type 0
CMakes t bytes (step e) l = CSteps t bytes e l.reply l.after
CMakes t bytes finished l = CFinishes t bytes l.reply × (l.after ≡ bytes)

-- The bytes that translation wrote at the front of the lent buffer play by the book of the diagram.
pub record Runs (d : Flow) (r : Written) (left : List ℕ) : Type 0 where
  -- "The table is exactly the bytes that translation wrote."
  pub count : ℕ
  pub written : r ≡ Ok count
  -- the book, from the diagram and the calls alone, admits one list of answers and records, and no other
  pub lines : List Call → List (Line Reply Record)
  pub kept : (calls : List Call) → ByBook d calls (lines calls)
  pub only : (calls : List Call) (other : List (Line Reply Record)) → ByBook d calls other → other ≡ lines calls
  -- "The first call gets the blank record, each later one what the call before returned or left; nobody else writes table or record meanwhile": whatever the calls then
  -- answered and left, by value and through the thin call, is that list
  pub by_book : (calls : List Call) (made : List (Line Reply Record)) → Played (Makes (take count left)) blank_record calls made → made ≡ lines calls
  -- and through the C calls, from 64 zero bytes on, the numbers and bytes that stand for it
  pub by_book_in_c : (calls : List Call) (made : List (Line ℕ (List ℕ))) → Played (CMakes (take count left)) (replicate 64 0) calls made → made ≡ map in_c (lines calls)

-- "For an accepted, translated diagram": any text with its diagram, any buffer that is long enough, and whatever translation answered and left.
abbrev pub Property3 : Type 0
Property3 =
    (text : List ℕ) (d : Flow) → Accepted text d → (lent : List ℕ) → 51204 ≤ length lent → (r : Written) (left : List ℕ) → Translates text lent r left → Runs d r left
