-- Drawings worked through: the starred lines of document 01 as card 1 of document 02 changes them, and lines of our own, where the paper's drawings would not show that
-- a constructor or a last round is misread. A drawing is given by its text, and its diagram is the one that the text is accepted with.
use Rattle.std.specs.Prelude.{◌≡◌, ℕ, get_or}
use mathlib.Core.List.{List, [], ◌∷◌, ◌++◌, Memᴰ}
use Prim.Native.String.{String}
use Rattle.base.specs.Text.{bytes}
use Rattle.diagram.specs.Tree.{Flow}
use Rattle.reading.specs.Accepted.{Accepted}
use Rattle.process.specs.Expand.{expand}
use Rattle.process.specs.Runs.{Whole, Begins}
use Rattle.record.specs.Bytes.{bytes_of}
use Rattle.book.specs.Marked.{record_after}

-- A line: these events are a whole run; these begin one and are none; these begin one, and the next is turned away; these begin one, and the first byte of the record after
-- them is this.
pub data Line : Type 0 where
  whole : List ℕ → Line
  part : List ℕ → Line
  refused : List ℕ → ℕ → Line
  byte : List ℕ → ℕ → Line

pub record Drawing : Type 0 where
  pub text : String
  pub lines : List Line

-- Document 01's T, and its U: "events a 0, b 1, reset 2, c 3".
abbrev T : String
T = "flow(trip,1)(leaf(take)(0)loop(leaf(fill))(0)xor(leaf(send)leaf(drop))(0)leaf(free)(1))"

abbrev U : String
U = "flow(t,1)(loop(flow(r,1)(leaf(a)(0)leaf(b)(1)))(0)leaf(c)(1))"

-- The starred lines of document 01. Card 1: "In drawing U, 0 1 3 becomes whole and is starred as such; 0 1 2 3 remains whole."
abbrev pub table : List Drawing
table =
    record {
      text = T;
      lines =
          whole (0 ∷ 2 ∷ 4 ∷ []) ∷ whole (0 ∷ 1 ∷ 1 ∷ 3 ∷ 4 ∷ []) ∷ refused (0 ∷ 2 ∷ []) 3 ∷ refused (0 ∷ 2 ∷ 4 ∷ []) 4 ∷ refused (0 ∷ 2 ∷ []) 1 ∷ [];
    }
    ∷ record {
      text = U;
      lines =
          whole (3 ∷ []) ∷ whole (0 ∷ 1 ∷ 2 ∷ 3 ∷ []) ∷ whole (0 ∷ 1 ∷ 3 ∷ []) ∷ refused (0 ∷ []) 3
          ∷ byte (0 ∷ 1 ∷ []) 192 ∷ byte (0 ∷ 1 ∷ 2 ∷ []) 32 ∷ byte (0 ∷ 1 ∷ 2 ∷ 3 ∷ []) 48 ∷ [];
    }
    ∷ []

-- Two parts, 0 and 1, and then 2: each part runs; a nonempty choice; one.
abbrev both_run : List Line
both_run = whole (0 ∷ 1 ∷ 2 ∷ []) ∷ whole (1 ∷ 0 ∷ 2 ∷ []) ∷ refused (0 ∷ []) 2 ∷ refused (1 ∷ []) 2 ∷ refused (0 ∷ []) 0 ∷ []

-- The last line is a slip of document 01: "Letting an `or` member start after the successor has."
abbrev some_run : List Line
some_run =
    whole (0 ∷ 1 ∷ 2 ∷ []) ∷ whole (1 ∷ 0 ∷ 2 ∷ []) ∷ whole (0 ∷ 2 ∷ []) ∷ whole (1 ∷ 2 ∷ []) ∷ refused [] 2 ∷ refused (0 ∷ []) 0 ∷ refused (0 ∷ 2 ∷ []) 1 ∷ []

abbrev one_runs : List Line
one_runs = whole (0 ∷ 2 ∷ []) ∷ whole (1 ∷ 2 ∷ []) ∷ refused [] 2 ∷ refused (0 ∷ []) 1 ∷ refused (1 ∷ []) 0 ∷ []

-- Lines of our own.
abbrev pub ours : List Drawing
ours =
    -- two members, a 0 and b 1, or two copies, a 0 and a 1, and then c 2
    record { text = "flow(t,1)(and(leaf(a)leaf(b))(0)leaf(c)(1))"; lines = both_run }
    ∷ record { text = "flow(t,1)(all(p:2)(leaf(a))(0)leaf(c)(1))"; lines = both_run }
    ∷ record { text = "flow(t,1)(or(leaf(a)leaf(b))(0)leaf(c)(1))"; lines = some_run }
    ∷ record { text = "flow(t,1)(some(p:2)(leaf(a))(0)leaf(c)(1))"; lines = some_run }
    ∷ record { text = "flow(t,1)(xor(leaf(a)leaf(b))(0)leaf(c)(1))"; lines = one_runs }
    ∷ record { text = "flow(t,1)(one(p:2)(leaf(a))(0)leaf(c)(1))"; lines = one_runs }
    -- A slip of document 01: "Taking a loop whose body's bits are clear for one that never began: after a reset its own bit must still shut the other branch of an xor."
    -- a 0, reset 1, b 2, c 3
    ∷ record {
      text = "flow(t,1)(xor(flow(s,1)(loop(flow(r,1)(leaf(a)(1)))(0)leaf(b)(1))leaf(c))(1))";
      lines =
          whole (2 ∷ []) ∷ whole (3 ∷ []) ∷ whole (0 ∷ 1 ∷ 2 ∷ []) ∷ whole (0 ∷ 2 ∷ []) ∷ byte (0 ∷ 1 ∷ []) 64 ∷ refused (0 ∷ 1 ∷ []) 3 ∷ refused (0 ∷ []) 3 ∷ [];
    }
    -- A slip of document 01: "Calling `or` complete once some member is complete, though another begun member is halfway." a 0, b 1, c 2, d 3; and d 0, a 1, b 2, c 3
    ∷ record {
      text = "flow(t,1)(or(flow(s,1)(leaf(a)(0)leaf(b)(1))leaf(c))(0)leaf(d)(1))";
      lines = whole (2 ∷ 3 ∷ []) ∷ whole (2 ∷ 0 ∷ 1 ∷ 3 ∷ []) ∷ refused (2 ∷ 0 ∷ []) 3 ∷ [];
    }
    ∷ record {
      text = "flow(t,1)(leaf(d)(1)or(flow(s,1)(leaf(a)(0)leaf(b)(1))leaf(c))(0))";
      lines = whole (0 ∷ 3 ∷ []) ∷ whole (0 ∷ 3 ∷ 1 ∷ 2 ∷ []) ∷ part (0 ∷ 3 ∷ 1 ∷ []) ∷ [];
    }
    -- A slip of document 01: "Leaving an inner loop's reset bit set at the outer reset." a 0, inner reset 1, b 2, outer reset 3, c 4
    ∷ record {
      text = "flow(t,1)(loop(flow(s,1)(loop(flow(r,1)(leaf(a)(1)))(0)leaf(b)(1)))(0)leaf(c)(1))";
      lines =
          byte (0 ∷ 1 ∷ 2 ∷ []) 96 ∷ byte (0 ∷ 1 ∷ 2 ∷ 3 ∷ []) 16 ∷ whole (0 ∷ 1 ∷ 2 ∷ 3 ∷ 4 ∷ []) ∷ whole (0 ∷ 1 ∷ 2 ∷ 3 ∷ 0 ∷ 1 ∷ 2 ∷ 3 ∷ 4 ∷ [])
          ∷ whole (0 ∷ 2 ∷ 4 ∷ []) ∷ whole (0 ∷ 2 ∷ 3 ∷ 0 ∷ 1 ∷ 2 ∷ 4 ∷ []) ∷ byte (0 ∷ 2 ∷ []) 160 ∷ byte (0 ∷ 2 ∷ 3 ∷ []) 16 ∷ refused (0 ∷ 2 ∷ []) 1 ∷ [];
    }
    -- two rounds of U, the second with its reset and without; none without the reset of the one before; no reset after c, after a reset, or halfway
    ∷ record {
      text = U;
      lines =
          byte (0 ∷ 1 ∷ 2 ∷ 0 ∷ []) 160 ∷ whole (0 ∷ 1 ∷ 2 ∷ 0 ∷ 1 ∷ 2 ∷ 3 ∷ []) ∷ byte (0 ∷ 1 ∷ 2 ∷ 0 ∷ 1 ∷ 2 ∷ 3 ∷ []) 48
          ∷ whole (0 ∷ 1 ∷ 2 ∷ 0 ∷ 1 ∷ 3 ∷ []) ∷ byte (0 ∷ 1 ∷ 2 ∷ 0 ∷ 1 ∷ 3 ∷ []) 240 ∷ refused (0 ∷ 1 ∷ 2 ∷ 0 ∷ []) 3
          ∷ refused (0 ∷ 1 ∷ []) 0 ∷ refused (0 ∷ 1 ∷ 3 ∷ []) 2 ∷ refused (0 ∷ 1 ∷ 3 ∷ []) 0 ∷ refused (0 ∷ 1 ∷ 2 ∷ []) 2 ∷ refused [] 2 ∷ refused (0 ∷ []) 2
          ∷ [];
    }
    -- The loop at the end: finished between rounds and after one, and not halfway. c 0, a 1, b 2, reset 3
    ∷ record {
      text = "flow(t,1)(leaf(c)(1)loop(flow(r,1)(leaf(a)(0)leaf(b)(1)))(0))";
      lines =
          whole (0 ∷ []) ∷ whole (0 ∷ 1 ∷ 2 ∷ []) ∷ whole (0 ∷ 1 ∷ 2 ∷ 3 ∷ []) ∷ whole (0 ∷ 1 ∷ 2 ∷ 3 ∷ 1 ∷ 2 ∷ []) ∷ part (0 ∷ 1 ∷ [])
          ∷ part (0 ∷ 1 ∷ 2 ∷ 3 ∷ 1 ∷ []) ∷ refused (0 ∷ 1 ∷ 2 ∷ []) 1 ∷ [];
    }
    -- The loop in an `or`, whose member is halfway while the last round is. a 0, b 1, c 2, reset 3, d 4, e 5
    ∷ record {
      text = "flow(t,1)(or(flow(s,1)(leaf(a)(1)loop(flow(r,1)(leaf(b)(0)leaf(c)(1)))(0))leaf(d))(0)leaf(e)(1))";
      lines =
          whole (4 ∷ 0 ∷ 1 ∷ 2 ∷ 5 ∷ []) ∷ whole (0 ∷ 1 ∷ 2 ∷ 3 ∷ 4 ∷ 5 ∷ []) ∷ whole (0 ∷ 1 ∷ 4 ∷ 2 ∷ 3 ∷ 1 ∷ 2 ∷ 5 ∷ []) ∷ refused (4 ∷ 0 ∷ 1 ∷ []) 5
          ∷ refused (4 ∷ 0 ∷ 1 ∷ 2 ∷ 5 ∷ []) 3 ∷ refused [] 1 ∷ [];
    }
    ∷ []

-- The first byte of the record after events.
abbrev pub first_byte : Flow → List ℕ → ℕ
first_byte d w = get_or (bytes_of (record_after d w).bits) 0 0

-- What a line says of a diagram.
abbrev pub Says : Flow → Line → Type 0
Says d (whole w) = Whole (expand d) w
Says d (part w) = Begins (expand d) w × (Whole (expand d) w → ⊥)
Says d (refused w e) = Begins (expand d) w × (Begins (expand d) (w ++ (e ∷ [])) → ⊥)
Says d (byte w b) = Begins (expand d) w × (first_byte d w ≡ b)

-- The text of each drawing is accepted, and each of its lines holds of the diagram.
abbrev pub Worked : List Drawing → Type 0
Worked xs = (x : Drawing) → Memᴰ x xs → (d : Flow) × Accepted (bytes x.text) d × ((l : Line) → Memᴰ l x.lines → Says d l)
