-- What is asked at each code of a process on the way from the root down to an event, and what is written of it: for the contracts of the functions.
use Rattle.std.specs.Prelude.{◌≡◌, false, cond, List, [], ◌∷◌, ◌++◌, ℕ, ◌+◌, ◌≤◌, length}
use Rattle.base.specs.Text.{bytes}
use Rattle.output.specs.Decimal.{decimal}
use Rattle.output.specs.Writes.{Writes}
use Rattle.output.specs.declared.Writer.{Writer}
use Rattle.process.specs.Process.{Process, event, join, again, rounds, owns}
use Rattle.process.specs.Bodies.{first}
use Rattle.process.proofs.Numbered.{Numbered}
use Rattle.postfix.specs.declared.Code.{Code}
use Rattle.postfix.specs.declared.Code.TheVariants.{Rounds, Seq, Xor}
use Rattle.parts.specs.code.Cuts.{second_begins}
use Rattle.formulas.specs.Formulas.{Formula}
use Rattle.formulas.specs.Lines.{Naming, guard_lines}
use Rattle.formulas.specs.Conditions.{idle_when, complete_when, guarded, conditions}
use Rattle.variables.specs.code.Spelled.{over}

abbrev pub label : ℕ → List ℕ
label k = bytes "@grd_" ++ (decimal k ++ bytes " ")

-- Where the event is in the first part: of the second, whose variables are those from `from` on and of so many after it, that it has not begun, in a sequence and a choice.
abbrev pub second_asked : Code → ℕ → ℕ → List Formula
second_asked Seq from after = over false from after ∷ []
second_asked Xor from after = over false from after ∷ []
second_asked _ from after = []

-- Where it is not: of the first part that it is complete, in a sequence and for a reset, or that it has not begun, in a choice.
abbrev pub first_asked : Code → Process → List Formula
first_asked Xor p = idle_when p ∷ []
first_asked Seq p = guarded (complete_when p)
first_asked Rounds p = guarded (complete_when p)
first_asked _ p = []

-- Where the second part begins among the codes before a process's own; a loop over a flow has none.
abbrev pub cut_at : Code → List Code → ℕ
cut_at Rounds cs = length cs
cut_at _ cs = second_begins cs

-- The codes are those of the process, whose first event is `from`; there are at most 512 events.
pub record Fits (p : Process) (cs : List Code) (from : ℕ) : Type 0 where
  pub numbered : Numbered p from
  pub few : from + length cs ≤ 512

-- Guards from number k on, written by the writer w, which is then u; and the number of the next guard.
pub record Wrote (v : Naming) (k : ℕ) (guards : List Formula) (w u : Writer) (next : ℕ) : Type 0 where
  pub its_lines : Writes w u (guard_lines v k guards)
  pub its_next : next ≡ k + length guards

-- The first event that taking event x clears; x itself where it clears none.
unfoldable pub clears_from : Process → ℕ → ℕ
clears_from (event n l) x = x
clears_from (join j p q) x = cond (owns p x) (clears_from p x) (clears_from q x)
clears_from (again n l) x = x
clears_from (rounds p r l) x = cond (owns p x) (clears_from p x) (first p)

-- The guards of event x of a process from number k on, and the first event that it clears.
pub record Guarded (v : Naming) (k : ℕ) (p : Process) (x : ℕ) (w u : Writer) (clears : ℕ) : Type 0 where
  pub its_lines : Writes w u (guard_lines v k (conditions p x))
  pub its_clears : clears ≡ clears_from p x
