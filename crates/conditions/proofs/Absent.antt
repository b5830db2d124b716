-- Whether a condition always holds, by a process's own code and by its parts.
use mathlib.Core.Path.{◌≡◌, refl, sym, ◌∙◌}
use mathlib.Core.Bool.{Bool, true, false, ◌&&◌, ◌||◌, or-false}
use mathlib.Core.List.{List}
use Prim.Native.Nat.{ℕ}
use lib.ListN.{take, drop}
use Rattle.process.specs.Process.{Joint, seq, and, or, xor, Process, event, join, again, rounds}
use Rattle.postfix.specs.declared.Code.{Code}
use Rattle.postfix.specs.declared.Code.TheVariants.{Leaf, Again, Rounds}
use Rattle.postfix.specs.Postfix.{postfix, joint_code}
use Rattle.parts.specs.code.Cuts.{second_begins}
use Rattle.parts.proofs.Ends.{own, inner}
use Rattle.formulas.specs.Conditions.{begun_when, idle_when, Condition, always, when, meet, choice, complete_when, settled_when}
use Rattle.conditions.specs.code.Asked.{absent, wanted, of_parts, joint_lacks}
use Rattle.conditions.proofs.Split.{first_part, second_part, not_leaf, not_again, not_rounds}

-- ---- conditions joined
meet_absent : (c d : Condition) → (absent c && absent d) ≡ absent (meet c d)
meet_absent always d = refl
meet_absent (when f) always = refl
meet_absent (when f) (when g) = refl

choice_absent : (c d : Condition) → (absent c || absent d) ≡ absent (choice c d)
choice_absent always d = refl
choice_absent (when f) always = refl
choice_absent (when f) (when g) = refl

-- ---- by the own code
pub leaf_lacks : (p : Process) (settled : Bool) → Leaf ≡ own p → settled ≡ absent (wanted settled p)
unfolding complete_when settled_when
leaf_lacks (event n l) true h = refl
leaf_lacks (event n l) false h = refl
leaf_lacks (again n l) settled h = cc
leaf_lacks (rounds p r l) settled h = cc
leaf_lacks (join j p q) settled h = absurd (not_leaf j h)

pub again_lacks : (p : Process) (settled : Bool) → Again ≡ own p → true ≡ absent (wanted settled p)
unfolding complete_when settled_when
again_lacks (again n l) true h = refl
again_lacks (again n l) false h = refl
again_lacks (event n l) settled h = cc
again_lacks (rounds p r l) settled h = cc
again_lacks (join j p q) settled h = absurd (not_again j h)

pub rounds_lacks : (p : Process) (settled lack : Bool) → Rounds ≡ own p → ((q : Process) → inner p ≡ postfix q → lack ≡ absent (wanted true q)) → lack ≡ absent (wanted settled p)
unfolding complete_when settled_when
rounds_lacks (rounds p r l) true lack h f = f p refl
rounds_lacks (rounds p r l) false lack h f = f p refl
rounds_lacks (event n l) settled lack h f = cc
rounds_lacks (again n l) settled lack h f = cc
rounds_lacks (join j p q) settled lack h f = absurd (not_rounds j h)

joint_absent : (j : Joint) (settled a b : Bool) (p q : Process) → a ≡ absent (wanted (of_parts (joint_code j)) p) → b ≡ absent (wanted (of_parts (joint_code j)) q)
    → joint_lacks (joint_code j) settled a b ≡ absent (wanted settled (join j p q))
unfolding complete_when settled_when
joint_absent seq false a b p q g h = rw (g, h) (meet_absent (complete_when p) (complete_when q))
joint_absent and false a b p q g h = rw (g, h) (meet_absent (complete_when p) (complete_when q))
joint_absent or false a b p q g h = meet_absent (when (begun_when (join or p q))) (meet (settled_when p) (settled_when q))
joint_absent xor false a b p q g h = rw (g, h) (choice_absent (complete_when p) (complete_when q))
joint_absent seq true a b p q g h =
    rw (g, h) (meet_absent (complete_when p) (complete_when q) ∙ (sym (or-false _) ∙ choice_absent (meet (complete_when p) (complete_when q)) (when (idle_when (join seq p q)))))
joint_absent and true a b p q g h =
    rw (g, h) (meet_absent (complete_when p) (complete_when q) ∙ (sym (or-false _) ∙ choice_absent (meet (complete_when p) (complete_when q)) (when (idle_when (join and p q)))))
joint_absent or true a b p q g h = rw (g, h) (meet_absent (settled_when p) (settled_when q))
joint_absent xor true a b p q g h =
    rw (g, h) (choice_absent (complete_when p) (complete_when q) ∙ (sym (or-false _) ∙ choice_absent (choice (complete_when p) (complete_when q)) (when (idle_when (join xor p q)))))

-- ---- by the parts
pub parts_lack : (code : Code) (rest : List Code) (settled a b : Bool) (m : ℕ) (p : Process) → code ≡ own p → rest ≡ inner p
    → (code ≡ Leaf → ⊥) → (code ≡ Again → ⊥) → (code ≡ Rounds → ⊥) → m ≡ second_begins rest
    → ((q : Process) → take m rest ≡ postfix q → a ≡ absent (wanted (of_parts code) q))
    → ((q : Process) → drop m rest ≡ postfix q → b ≡ absent (wanted (of_parts code) q))
    → joint_lacks code settled a b ≡ absent (wanted settled p)
parts_lack code rest settled a b m (event n l) o i x y z s f g = absurd (x o)
parts_lack code rest settled a b m (again n l) o i x y z s f g = absurd (y o)
parts_lack code rest settled a b m (rounds p r l) o i x y z s f g = absurd (z o)
parts_lack code rest settled a b m (join j p q) o i x y z s f g =
    rw o (joint_absent j settled a b p q (rw o at (f p (first_part rest p q i m s))) (rw o at (g q (second_part rest p q i m s))))
