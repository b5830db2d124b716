-- What is asked of a process, and how the condition on a joint is put together from those on its parts: for the contracts of the functions.
use Rattle.std.specs.Prelude.{Bool, true, false, not, ◌&&◌, ◌||◌, cond, List, [], ◌++◌, ℕ, ◌-◌, ◌≤◌, length}
use Rattle.base.specs.Text.{bytes}
use Rattle.process.specs.Process.{Joint, Process, join}
use Rattle.postfix.specs.declared.Code.{Code}
use Rattle.postfix.specs.declared.Code.TheVariants.{Or, Xor}
use Rattle.postfix.specs.Postfix.{postfix, joint_code}
use Rattle.parts.specs.code.Cuts.{event_count}
use Rattle.formulas.specs.Lines.{Naming, formula}
use Rattle.formulas.specs.Conditions.{Condition, always, when, complete_when, settled_when}
use Rattle.variables.specs.code.Spelled.{connective, over}
use Rattle.conditions.specs.declared.Frame.{Frame}
use Rattle.conditions.specs.declared.Frame.TheVariants.{Nothing, OrIdle, Begun, AndBegun}
use Rattle.conditions.specs.declared.Shape.{Shape}

-- A condition that always holds is not written.
abbrev pub absent : Condition → Bool
absent always = true
absent (when f) = false

abbrev pub condition : Naming → Condition → List ℕ
condition v always = []
condition v (when f) = formula v f

-- That a process is settled, or that it is complete.
abbrev pub wanted : Bool → Process → Condition
wanted settled p = cond settled (settled_when p) (complete_when p)

-- Of the parts of an `or` it is asked that they are settled, of others that they are complete.
abbrev pub of_parts : Code → Bool
of_parts Or = true
of_parts _ = false

-- In a choice either of the conditions on the parts is enough.
abbrev pub choosing : Code → Bool
choosing Xor = true
choosing _ = false

-- Whether what is asked of a joint always holds, where what is asked of its first and of its second part does.
abbrev pub joint_lacks : Code → Bool → Bool → Bool → Bool
joint_lacks Xor settled a b = a || b
joint_lacks Or settled a b = settled && (a && b)
joint_lacks _ settled a b = a && b

-- What stands around the condition on the parts: of an `or` that is asked to be complete that a part has begun, and there may be no such condition; where another joint is
-- asked to be settled, or else none has begun.
abbrev pub around : Code → Bool → Bool → Frame
around Or settled lack = cond settled Nothing (cond lack Begun AndBegun)
around _ settled lack = cond settled OrIdle Nothing

-- How what is asked of a joint is put: by its parts, and by whether what is asked of them always holds.
abbrev pub shape_by : Bool → Code → ℕ → ℕ → ℕ → Bool → Bool → Shape
shape_by settled code second first after a b = record {
  second = second;
  first = first;
  after = after;
  pair = not a && not b;
  either = choosing code;
  around = around code settled (a && b);
}

abbrev pub shape_of : Bool → Joint → Process → Process → Shape
shape_of settled j p q =
    shape_by settled (joint_code j) (length (postfix p)) (event_count (postfix p)) (event_count (postfix (join j p q)) - 1)
    (absent (wanted (of_parts (joint_code j)) p)) (absent (wanted (of_parts (joint_code j)) q))

-- The bounds that it gives are within the codes before the joint's own.
pub record Inside (cs : List Code) (s : Shape) : Type 0 where
  pub its_second : s.second ≤ length cs
  pub its_first : s.first ≤ s.second
  pub its_after : s.after ≤ length cs

-- What is written before the condition on the first part, between the two, and after the second: what stands around them, and signs where both have one. The variables
-- are those from event `from` on and so many after it.
abbrev pub up_to : Naming → Frame → ℕ → ℕ → List ℕ
up_to v Nothing from after = []
up_to v OrIdle from after = bytes "("
up_to v Begun from after = formula v (over true from after)
up_to v AndBegun from after = bytes "(" ++ (formula v (over true from after) ++ bytes " & ")

abbrev pub from_on : Naming → Frame → ℕ → ℕ → List ℕ
from_on v Nothing from after = []
from_on v OrIdle from after = bytes " or " ++ (formula v (over false from after) ++ bytes ")")
from_on v Begun from after = []
from_on v AndBegun from after = bytes ")"

abbrev pub opening : Naming → Shape → ℕ → List ℕ
opening v s from = up_to v s.around from s.after ++ cond s.pair (bytes "(") []

abbrev pub between : Shape → List ℕ
between s = cond s.pair (connective s.either) []

abbrev pub closing : Naming → Shape → ℕ → List ℕ
closing v s from = cond s.pair (bytes ")") [] ++ from_on v s.around from s.after
