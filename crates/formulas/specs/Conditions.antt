-- The formulas that are chosen for the guards of an event: "one guard line for each condition from the root down". Card 2 leaves open how the conditions are put; which
-- ones are chosen depends on the process and the event alone, and that they say what has to be said is proved (`formulas.proofs.True`).
use Rattle.std.specs.Prelude.{true, false, cond, List, [], ◌∷◌, ◌++◌, ℕ, zero, suc, ◌-◌, length}
use Rattle.process.specs.Process.{Joint, seq, and, or, xor, Process, event, join, again, rounds, owns, events}
use Rattle.process.specs.Bodies.{first}
use Rattle.formulas.specs.Formulas.{Formula, is, both, either}

-- Of the variables from event `from` on and of so many after it: some is TRUE; each is FALSE.
unfoldable pub some_true : ℕ → ℕ → Formula
some_true from zero = is from true
some_true from (suc after) = either (is from true) (some_true (suc from) after)

unfoldable pub all_false : ℕ → ℕ → Formula
all_false from zero = is from false
all_false from (suc after) = both (is from false) (all_false (suc from) after)

-- An event of the process has been taken; none has.
abbrev pub begun_when : Process → Formula
begun_when p = some_true (first p) (length (events p) - 1)

abbrev pub idle_when : Process → Formula
idle_when p = all_false (first p) (length (events p) - 1)

-- A condition: it always holds, or where a formula does.
pub data Condition : Type 0 where
  always : Condition
  when : Formula → Condition

-- Both conditions; either of them.
abbrev pub meet : Condition → Condition → Condition
meet always d = d
meet (when f) always = when f
meet (when f) (when g) = when (both f g)

abbrev pub choice : Condition → Condition → Condition
choice always d = always
choice (when f) always = always
choice (when f) (when g) = when (either f g)

unfoldable mutual
  -- The process is complete: what `process.specs.Guards.complete` tests. A loop over a leaf always is.
  pub complete_when : Process → Condition
  complete_when (event n l) = when (is n true)
  complete_when (join seq p q) = meet (complete_when p) (complete_when q)
  complete_when (join and p q) = meet (complete_when p) (complete_when q)
  complete_when (join or p q) = meet (when (begun_when (join or p q))) (meet (settled_when p) (settled_when q))
  complete_when (join xor p q) = choice (complete_when p) (complete_when q)
  complete_when (again n l) = always
  complete_when (rounds p r l) = settled_when p

  -- It is complete or not begun. A leaf and a loop over one always are; an `or` is where each of its parts is.
  pub settled_when : Process → Condition
  settled_when (event n l) = always
  settled_when (join seq p q) = choice (meet (complete_when p) (complete_when q)) (when (idle_when (join seq p q)))
  settled_when (join and p q) = choice (meet (complete_when p) (complete_when q)) (when (idle_when (join and p q)))
  settled_when (join or p q) = meet (settled_when p) (settled_when q)
  settled_when (join xor p q) = choice (choice (complete_when p) (complete_when q)) (when (idle_when (join xor p q)))
  settled_when (again n l) = always
  settled_when (rounds p r l) = settled_when p

-- A condition that always holds needs no guard.
abbrev pub guarded : Condition → List Formula
guarded always = []
guarded (when f) = f ∷ []

-- What a joint asks of its second part where the event is in the first, and of its first where it is in the second.
abbrev pub of_second : Joint → Process → List Formula
of_second seq q = idle_when q ∷ []
of_second and q = []
of_second or q = []
of_second xor q = idle_when q ∷ []

abbrev pub of_first : Joint → Process → List Formula
of_first seq p = guarded (complete_when p)
of_first and p = []
of_first or p = []
of_first xor p = idle_when p ∷ []

-- The guards of event x, from the root down: what `process.specs.Guards.enabled` tests, one formula for each test.
unfoldable pub conditions : Process → ℕ → List Formula
unfolding owns complete_when
conditions (event n l) x = is n false ∷ []
conditions (join j p q) x = cond (owns p x) (of_second j q ++ conditions p x) (of_first j p ++ conditions q x)
conditions (again n l) x = []
conditions (rounds p r l) x = cond (owns p x) (conditions p x) (guarded (complete_when p))
