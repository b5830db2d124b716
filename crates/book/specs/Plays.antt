-- Property 3 of a diagram and a table: for any list of calls every answer and every record is the book's. "The first call gets the blank record, each later one what the
-- call before returned or left; nobody else writes table or record meanwhile."
use Rattle.std.specs.Prelude.{List, ℕ}
use Rattle.diagram.specs.Tree.{Flow}
use Rattle.plays.specs.Plays.{play}
use Rattle.record.specs.Blank.{blank_record}
use Rattle.book.specs.Calls.{Call, call}
use Rattle.book.specs.Book.{ByBook}

abbrev pub PlaysByBook : Flow → List ℕ → Type 0
PlaysByBook d t = (calls : List Call) → ByBook d calls (play (call t) blank_record calls)
