-- Guard lines one after the other, and what is asked as the code finds it.
use Rattle.std.proofs.Common.{◌≡◌, ℕ, suc, ◌+◌, ◌≤◌, true, false, List, [], ◌∷◌, ◌++◌, length, refl, sym, ap, ◌∙◌, arith}
use mathlib.Core.Bool.{true≢false}
use mathlib.Core.List.{append_assoc, append-nil}
use Rattle.base.specs.Text.{bytes}
use Rattle.output.specs.Decimal.{decimal}
use Rattle.output.specs.Writes.{Writes}
use Rattle.output.specs.declared.Writer.{Writer}
use Rattle.output.proofs.Writes.{none}
use Rattle.process.specs.Process.{Process}
use Rattle.postfix.specs.declared.Code.{Code}
use Rattle.postfix.specs.declared.Code.TheVariants.{Leaf, Again, Rounds, Seq, And, Or, Xor}
use Rattle.formulas.specs.Formulas.{Formula}
use Rattle.formulas.specs.Lines.{Naming, formula, labelled, guard_lines}
use Rattle.formulas.specs.Conditions.{Condition, always, when, complete_when, guarded}
use Rattle.conditions.specs.code.Asked.{absent, condition}
use Rattle.guarding.specs.code.Asked.{label, second_asked, first_asked, Wrote}

pub lines_append : (v : Naming) (k : ℕ) (fs gs : List Formula) → guard_lines v k (fs ++ gs) ≡ guard_lines v k fs ++ guard_lines v (k + length fs) gs
unfolding guard_lines
lines_append v k [] gs = let e : k + 0 ≡ k = omega arith in rw e
lines_append v k (f ∷ fs) gs =
    let e : suc k + length fs ≡ k + length (f ∷ fs) = omega arith in
    let h = rw e at (lines_append v (suc k) fs gs) in
    rw h (sym (append_assoc (labelled (bytes "@grd_") k (formula v f)) (guard_lines v (suc k) fs) _))

-- No guard has no line.
pub no_lines : (v : Naming) (k : ℕ) → guard_lines v k [] ≡ []
unfolding guard_lines
no_lines v k = refl

-- A label, a text and the line's end.
pub line_text : (v : Naming) (k : ℕ) (f : Formula) → guard_lines v k (f ∷ []) ≡ label k ++ (formula v f ++ bytes "\n")
unfolding guard_lines
line_text v k f =
    sym (append_assoc (bytes "@grd_") (decimal k ++ bytes " ") _
    ∙ (ap (λ (l : List ℕ). bytes "@grd_" ++ l) (append_assoc (decimal k) (bytes " ") _) ∙ sym (append-nil _)))

-- A condition that always holds has no guard, and any other one.
module _ (v : Naming) (k : ℕ) where
  pub no_condition : (c : Condition) (w : Writer) → absent c ≡ true → Wrote v k (guarded c) w w k
  no_condition always w h = record { its_lines = rw (no_lines v k) (none w); its_next = omega arith }
  no_condition (when f) w h = absurd (true≢false (sym h))

  pub condition_wrote : (c : Condition) (w u : Writer) → absent c ≡ false → Writes w u (label k ++ (condition v c ++ bytes "\n")) → Wrote v k (guarded c) w u (k + 1)
  condition_wrote always w u a h = absurd (true≢false a)
  condition_wrote (when f) w u a h = record { its_lines = rw (line_text v k f) h; its_next = refl }

-- Of either part one thing is asked at most.
pub second_few : (code : Code) (from after : ℕ) → length (second_asked code from after) ≤ 1
second_few Leaf from after = omega arith
second_few Again from after = omega arith
second_few Rounds from after = omega arith
second_few Seq from after = omega arith
second_few And from after = omega arith
second_few Or from after = omega arith
second_few Xor from after = omega arith

guarded_few : (c : Condition) → length (guarded c) ≤ 1
guarded_few always = omega arith
guarded_few (when f) = omega arith

pub first_few : (code : Code) (p : Process) → length (first_asked code p) ≤ 1
first_few Leaf p = omega arith
first_few Again p = omega arith
first_few Rounds p = guarded_few (complete_when p)
first_few Seq p = guarded_few (complete_when p)
first_few And p = omega arith
first_few Or p = omega arith
first_few Xor p = omega arith
