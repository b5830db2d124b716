-- For any list of calls the book admits exactly one list of lines.
use mathlib.Core.Path.{◌≡◌, refl, sym, ◌∙◌}
use mathlib.Core.List.{List, [], ◌∷◌, ◌++◌}
use Prim.Native.Nat.{ℕ}
use native.Mathlib.Omega.{arith}
use lib.Dec.{ltb}
use borrow.Author.Tests.{ltb-true, ltb-false}
use Rattle.base.proofs.Truth.{by_cases, clash}
use Rattle.diagram.specs.Tree.{Flow}
use Rattle.diagram.specs.Count.{flow_events}
use Rattle.diagram.specs.Rules.{Keeps}
use Rattle.process.specs.Expand.{expand}
use Rattle.process.specs.Runs.{Begins}
use Rattle.process.specs.Decide.{begins?, whole?}
use Rattle.process.proofs.Theorem.{run_exists, begins_decided, whole_decided}
use Rattle.plays.specs.Plays.{Line}
use Rattle.plays.proofs.Played.{admits_once, admits_some}
use Rattle.record.specs.declared.Record.{Record}
use Rattle.book.specs.Calls.{Call, step, finished, Reply}
use Rattle.book.specs.Marked.{record_after}
use Rattle.book.specs.Book.{StepEntry, begins, past, below, FinishEntry, whole, part, Entry, ByBook}

-- ---- at most one
-- The book answers a call in one way, and goes on as one book.
module _ (d : Flow) (book : List ℕ) (l m : Line Reply (List ℕ)) where
  step_once : (e : ℕ) → StepEntry d book e l → StepEntry d book e m → l ≡ m
  step_once e (begins b q) (begins c v) = q ∙ sym v
  step_once e (begins b q) (past never h v) = absurd (never b)
  step_once e (begins b q) (below never h v) = absurd (never b)
  step_once e (past never h q) (begins c v) = absurd (never c)
  step_once e (past never h q) (past never' k v) = q ∙ sym v
  step_once e (past never h q) (below never' k v) = let z : ⊥ = omega arith in absurd z
  step_once e (below never h q) (begins c v) = absurd (never c)
  step_once e (below never h q) (past never' k v) = let z : ⊥ = omega arith in absurd z
  step_once e (below never h q) (below never' k v) = q ∙ sym v

  finish_once : FinishEntry d book l → FinishEntry d book m → l ≡ m
  finish_once (whole w q) (whole x v) = q ∙ sym v
  finish_once (whole w q) (part never v) = absurd (never w)
  finish_once (part never q) (whole x v) = absurd (never x)
  finish_once (part never q) (part never' v) = q ∙ sym v

entry_once : (d : Flow) (book : List ℕ) (c : Call) (l m : Line Reply (List ℕ)) → Entry d book c l → Entry d book c m → l ≡ m
entry_once d book (step e) l m a b = step_once d book l m e a b
entry_once d book finished l m a b = finish_once d book l m a b

-- The book admits at most one list of lines.
pub by_book_once : (d : Flow) (calls : List Call) (lines other : List (Line Reply Record)) → ByBook d calls lines → ByBook d calls other → lines ≡ other
by_book_once d calls lines other = admits_once (Entry d) (record_after d) (entry_once d) [] calls lines other

-- ---- the book begins a whole run
-- So it does before the first call,
pub blank_begins : (d : Flow) → Begins (expand d) []
blank_begins d = run_exists d

-- and after every call, if it did before it.
pub book_begins : (d : Flow) (book : List ℕ) (c : Call) (l : Line Reply (List ℕ)) → Begins (expand d) book → Entry d book c l
    → Begins (expand d) l.after
book_begins d book (step e) l h (begins b q) = rw q b
book_begins d book (step e) l h (past never k q) = rw q h
book_begins d book (step e) l h (below never k q) = rw q h
book_begins d book finished l h (whole w q) = rw q h
book_begins d book finished l h (part never q) = rw q h

-- ---- at least one
module _ (d : Flow) (k : Keeps d) where
  -- The book has an answer to every call.
  entry_some : (book : List ℕ) (c : Call) → (l : Line Reply (List ℕ)) × Entry d book c l
  entry_some book (step e) =
      by_cases (begins? (expand d) (book ++ (e ∷ [])))
      (λ y. (_, begins ((begins_decided d k (book ++ (e ∷ []))).0 y) refl))
      (λ y. let never : Begins (expand d) (book ++ (e ∷ [])) → ⊥ = λ b. clash ((begins_decided d k (book ++ (e ∷ []))).1 b) y in
      by_cases (ltb e (flow_events d)) (λ l. (_, below never (ltb-true e (flow_events d) l) refl)) (λ l. (_, past never (ltb-false e (flow_events d) l) refl)))
  entry_some book finished =
      by_cases (whole? (expand d) book) (λ y. (_, whole ((whole_decided d k book).0 y) refl)) (λ y. (_, part (λ w. clash ((whole_decided d k book).1 w) y) refl))

  -- For any list of calls, exactly one list of answers and records is the book's.
  pub exactly_one : (calls : List Call)
      → (lines : List (Line Reply Record)) × ByBook d calls lines × ((other : List (Line Reply Record)) → ByBook d calls other → other ≡ lines)
  exactly_one calls =
      let (lines, A) = admits_some (Entry d) (record_after d) entry_some [] calls in
      (lines, A, λ other B. by_book_once d calls other lines B A)
