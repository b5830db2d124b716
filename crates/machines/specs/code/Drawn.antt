-- A diagram that was read from a text, and the front of an event's text: for the contracts of private functions.
use Rattle.std.specs.Prelude.{◌≡◌, true, false, List, ◌++◌, ℕ, Result, Ok, Err}
use Rattle.base.specs.Text.{bytes}
use Rattle.base.specs.Refusals.{number, refusal}
use Rattle.base.specs.declared.Reason.{Reason}
use Rattle.base.specs.declared.Refusal.{Refusal}
use Rattle.diagram.specs.Tree.{Flow}
use Rattle.diagram.specs.declared.Diagram.{Diagram}
use Rattle.reading.specs.Accepted.{Accepted}
use Rattle.reading.specs.Refused.{RefusedAt}
use Rattle.reading.specs.Answers.{read_of}
use Rattle.formulas.specs.Lines.{Naming}
use Rattle.modelling.specs.Profile.{in_profile}

-- An event's text up to its guards.
abbrev pub head : Naming → ℕ → List ℕ
head v e = bytes "event " ++ (v e ++ bytes "\nwhere\n")

-- The diagram that reading the text answers, in the profile.
pub record Drawn (text : List ℕ) (g : Diagram) : Type 0 where
  pub tree : Flow
  pub accepted : Accepted text tree
  pub profile : in_profile tree ≡ true
  pub its_diagram : read_of text ≡ Ok g

-- A text that is turned away whatever is asked of it, or one that has a machine.
pub data Admission (text : List ℕ) (a : Result Diagram Refusal) : Type 0 where
  unread : (r : Refusal) → RefusedAt text (number r.reason) r.place → a ≡ Err r → Admission text a
  outside : (d : Flow) → Accepted text d → in_profile d ≡ false → a ≡ Err (refusal Reason.Profile 0) → Admission text a
  inside : (g : Diagram) → Drawn text g → a ≡ Ok g → Admission text a
