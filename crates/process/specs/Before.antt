-- Whole runs by document 01 alone, before card 1 of document 02: for the statements that every whole run of before is one still, and that the
-- card lets resets be left out and nothing else.
use Rattle.std.specs.Prelude.{◌≡◌, Bool, true, List, [], ◌∷◌, ℕ, eqb}
use Rattle.process.specs.Process.{Process, event, join, again, rounds}
use Rattle.process.specs.Runs.{Runs, All, Rounds, Joined}

-- It differs from `Runs.Whole` in a loop over a flow.
unfoldable pub WholeBefore : Process → Runs
WholeBefore (event n l) = λ w. w ≡ n ∷ []
WholeBefore (join j p q) = Joined j (WholeBefore p) (WholeBefore q)
WholeBefore (again n l) = All (eqb n)
-- "A loop over a flow: zero or more rounds, each a run of the flow and then the reset"
WholeBefore (rounds p r l) = Rounds (WholeBefore p) r

-- The first list is the second with some elements left out, each of which passes the test.
pub data LeavesOut (I : ℕ → Bool) : List ℕ → List ℕ → Type 0 where
  empty : LeavesOut I [] []
  keep : {x : ℕ} {w v : List ℕ} → LeavesOut I w v → LeavesOut I (x ∷ w) (x ∷ v)
  omit : {x : ℕ} {w v : List ℕ} → I x ≡ true → LeavesOut I w v → LeavesOut I w (x ∷ v)
