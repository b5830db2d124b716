-- Whole runs, and the lists that begin one. Document 01, "Events and whole runs", second paragraph, with card 1 of document 02.
use Rattle.std.specs.Prelude.{◌≡◌, ◌⊎◌, Bool, true, List, [], ◌∷◌, ◌++◌, ℕ, eqb}
use Rattle.process.specs.Process.{Joint, seq, and, or, xor, Process, event, join, again, rounds}

-- A set of lists of event numbers.
abbrev pub Runs : Type 1
Runs = List ℕ → Type 0

-- One of the first and then one of the second.
abbrev pub Then : Runs → Runs → Runs
Then A B w = (u : List ℕ) × (v : List ℕ) × A u × B v × (w ≡ u ++ v)

-- The third list is an interleaving of the first two.
pub data Mix : List ℕ → List ℕ → List ℕ → Type 0 where
  done : Mix [] [] []
  left : {x : ℕ} {u v w : List ℕ} → Mix u v w → Mix (x ∷ u) v (x ∷ w)
  right : {x : ℕ} {u v w : List ℕ} → Mix u v w → Mix u (x ∷ v) (x ∷ w)

-- Any interleaving of one of the first and one of the second.
abbrev pub Both : Runs → Runs → Runs
Both A B w = (u : List ℕ) × (v : List ℕ) × A u × B v × Mix u v w

-- One of the first or one of the second.
abbrev pub Either : Runs → Runs → Runs
Either A B w = A w ⊎ B w

-- Either or both.
abbrev pub Or : Runs → Runs → Runs
Or A B = Either (Either A B) (Both A B)

-- Every element passes the test.
abbrev pub All : (ℕ → Bool) → Runs
All I [] = Unit {0}
All I (x ∷ w) = (I x ≡ true) × All I w

-- Zero or more rounds, each a run and then the reset.
pub data Rounds (A : List ℕ → Type 0) (r : ℕ) : List ℕ → Type 0 where
  stop : Rounds A r []
  more : {w : List ℕ} (u v : List ℕ) → A u → Rounds A r v → w ≡ u ++ (r ∷ v) → Rounds A r w

-- One of them, or nothing.
abbrev pub Optional : Runs → Runs
Optional A w = (w ≡ []) ⊎ A w

-- Rounds, and then optionally one further run.
abbrev pub Loop : Runs → ℕ → Runs
Loop A r = Then (Rounds A r) (Optional A)

-- What two parts give by how they are joined.
abbrev pub Joined : Joint → Runs → Runs → Runs
-- "A flow gives a whole run of each child, in order"
Joined seq A B = Then A B
-- "`and`: any interleaving of one run of each member"
Joined and A B = Both A B
-- "`or`: the same over any nonempty choice of members"
Joined or A B = Or A B
-- "`xor`: a run of one member"; "`all`, `some`, `one` do so over the copies for each value"
Joined xor A B = Either A B

-- The whole runs of a process.
unfoldable pub Whole : Process → Runs
-- "a leaf gives that one event"
Whole (event n l) = λ w. w ≡ n ∷ []
Whole (join j p q) = Joined j (Whole p) (Whole q)
-- "A loop over a leaf: that event zero or more times"
Whole (again n l) = All (eqb n)
-- Card 1: "zero or more rounds, each ended by its reset, and then optionally one further run of the flow without it"
Whole (rounds p r l) = Loop (Whole p) r

-- "A list of events begins a whole run if adding events after it, or none, gives one."
abbrev pub Begins : Process → Runs
Begins p w = (v : List ℕ) × Whole p (w ++ v)
