-- The condition on a process as the code writes it: by its own code, from what was written of its parts.
use Rattle.std.proofs.Common.{◌≡◌, ℕ, ◌+◌, Bool, true, false, List, ◌++◌, take, drop, sym, ap, ◌∙◌, arith, subst}
use mathlib.Core.Bool.{true≢false}
use Rattle.output.specs.Writes.{Writes}
use Rattle.output.specs.declared.Writer.{Writer}
use Rattle.output.proofs.Writes.{both, none}
use Rattle.process.specs.Process.{Event, Joint, Process, event, join, again, rounds}
use Rattle.process.proofs.Numbered.{size, Numbered}
use Rattle.postfix.specs.declared.Code.{Code}
use Rattle.postfix.specs.declared.Code.TheVariants.{Leaf, Rounds}
use Rattle.postfix.specs.Postfix.{postfix, joint_code}
use Rattle.parts.proofs.Cut.{count_is}
use Rattle.parts.proofs.Ends.{own, inner}
use Rattle.formulas.specs.Formulas.{is}
use Rattle.formulas.specs.Lines.{Naming, formula}
use Rattle.formulas.specs.Conditions.{Condition, always, when, complete_when, settled_when}
use Rattle.conditions.specs.code.Asked.{absent, wanted, condition, of_parts, shape_of, opening, between, closing}
use Rattle.conditions.specs.declared.Shape.{Shape}
use Rattle.conditions.proofs.Split.{second_at, first_part, second_part, not_leaf, not_rounds}
use Rattle.conditions.proofs.Phrases.{joint_text}

-- A condition that always holds is not written.
pub absent_written : (v : Naming) (c : Condition) (w : Writer) → absent c ≡ true → Writes w w (condition v c)
absent_written v always w h = none w
absent_written v (when f) w h = absurd (true≢false (sym h))

-- Nothing is asked of a loop over a leaf.
looped : (settled : Bool) (n : ℕ) (l : Event) → absent (wanted settled (again n l)) ≡ false → ⊥
unfolding complete_when settled_when
looped true n l h = true≢false h
looped false n l h = true≢false h

-- A leaf, of which something is asked.
pub leaf_text : (v : Naming) (from : ℕ) (settled : Bool) (p : Process) → Leaf ≡ own p → Numbered p from → absent (wanted settled p) ≡ false
    → formula v (is from true) ≡ condition v (wanted settled p)
unfolding Numbered complete_when settled_when
leaf_text v from true (event n l) o m h = absurd (true≢false h)
leaf_text v from false (event n l) o m h = rw m
leaf_text v from settled (again n l) o m h = cc
leaf_text v from settled (rounds p r l) o m h = cc
leaf_text v from settled (join j p q) o m h = absurd (not_leaf j o)

-- A loop over a flow: that its body is settled.
pub rounds_written : (v : Naming) (rest : List Code) (from : ℕ) (settled : Bool) (p : Process) → Rounds ≡ own p → rest ≡ inner p → Numbered p from → (w u : Writer)
    → ((q : Process) → rest ≡ postfix q → Numbered q from → Writes w u (condition v (wanted true q))) → Writes w u (condition v (wanted settled p))
unfolding Numbered complete_when settled_when
rounds_written v rest from true (rounds p r l) o i m w u f = f p i m.0
rounds_written v rest from false (rounds p r l) o i m w u f = f p i m.0
rounds_written v rest from settled (event n l) o i m w u f = cc
rounds_written v rest from settled (again n l) o i m w u f = cc
rounds_written v rest from settled (join j p q) o i m w u f = absurd (not_rounds j o)

-- A joint.
module _ (v : Naming) (code : Code) (rest : List Code) (from : ℕ) (settled : Bool) (s : Shape) (shaped : (j : Joint) (q r : Process) → code ≡ joint_code j → rest ≡ postfix q ++ postfix r → s ≡ shape_of settled j q r)
    {w₀ w₁ w₂ w₃ w₄ w₅ : Writer}
    (opened : Writes w₀ w₁ (opening v s from))
    (first : (q : Process) → take s.second rest ≡ postfix q → Numbered q from → Writes w₁ w₂ (condition v (wanted (of_parts code) q)))
    (between_them : Writes w₂ w₃ (between s))
    (second : (q : Process) → drop s.second rest ≡ postfix q → Numbered q (from + s.first) → Writes w₃ w₄ (condition v (wanted (of_parts code) q)))
    (closed : Writes w₄ w₅ (closing v s from)) where
  of_joint : (j : Joint) (q r : Process) → code ≡ joint_code j → rest ≡ postfix q ++ postfix r → Numbered (join j q r) from → absent (wanted settled (join j q r)) ≡ false
      → Writes w₀ w₅ (condition v (wanted settled (join j q r)))
  unfolding Numbered
  of_joint j q r o i m h =
      let S = shaped j q r o i in
      let at = ap (λ (t : Shape). t.second) S ∙ sym (second_at rest q r i) in
      let over : from + s.first ≡ from + size q = omega (arith, ap (λ (t : Shape). t.first) S, count_is q) in
      let x = rw o at (first q (first_part rest q r i s.second at) m.0) in
      let y = rw o at (second r (second_part rest q r i s.second at) (rw over m.1)) in
      let k = of_parts (joint_code j) in
      let shape_text = ap (λ (t : Shape). opening v t from ++ (condition v (wanted k q) ++ (between t ++ (condition v (wanted k r) ++ closing v t from)))) S in
      subst (Writes w₀ w₅) (shape_text ∙ joint_text v q r from settled j m h)
      (both _ _ _ _ _ opened (both _ _ _ _ _ x (both _ _ _ _ _ between_them (both _ _ _ _ _ y closed))))

  pub joint_written : (p : Process) → code ≡ own p → rest ≡ inner p → Numbered p from → absent (wanted settled p) ≡ false → (code ≡ Leaf → ⊥) → (code ≡ Rounds → ⊥)
      → Writes w₀ w₅ (condition v (wanted settled p))
  joint_written (event n l) o i m h x y = absurd (x o)
  joint_written (again n l) o i m h x y = absurd (looped settled n l h)
  joint_written (rounds p r l) o i m h x y = absurd (y o)
  joint_written (join j q r) o i m h x y = of_joint j q r o i m h
