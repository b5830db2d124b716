-- The chosen guards say of all control bits what the tests of the process say: an event's guards hold exactly where it is enabled.
use mathlib.Core.Path.{◌≡◌, refl, sym, ap, ap₂, ◌∙◌}
use mathlib.Core.Bool.{Bool, true, false, not, ◌&&◌, ◌||◌, cond, and-true, and_comm, or-true, or-false, or_assoc, or_comm, or-not_self, and_assoc}
use mathlib.Core.List.{List, [], ◌∷◌, ◌++◌}
use Prim.Native.Nat.{ℕ, zero, suc, ◌+◌, ◌-◌}
use native.Mathlib.Omega.{arith}
use lib.ListN.{length}
use Rattle.process.specs.Process.{seq, and, or, xor, Process, event, join, again, rounds, owns, events}
use Rattle.process.specs.Bits.{Bits}
use Rattle.process.specs.Bodies.{first}
use Rattle.process.specs.Guards.{begun, complete, enabled}
use Rattle.process.proofs.Numbered.{size, Numbered, size_events}
use Rattle.process.proofs.Cleared.{first_lowest, size_positive}
use Rattle.process.proofs.Settled.{loop_settled, some_settled}
use Rattle.formulas.specs.Formulas.{Formula, holds, all_hold}
use Rattle.formulas.specs.Conditions.{some_true, all_false, begun_when, idle_when, Condition, always, when, meet, choice, complete_when, settled_when, guarded, conditions}

-- ---- whether an event of a run of numbers has been taken
unfoldable any_set : Bits → ℕ → ℕ → Bool
any_set s from zero = false
any_set s from (suc n) = s from || any_set s (suc from) n

any_append : (s : Bits) (from m n : ℕ) → any_set s from (m + n) ≡ (any_set s from m || any_set s (from + m) n)
unfolding any_set
any_append s from zero n =
    let e : 0 + n ≡ n = omega arith in
    let f : from + 0 ≡ from = omega arith in
    rw (e, f)
any_append s from (suc m) n =
    let e : suc from + m ≡ from + suc m = omega arith in
    let q : suc m + n ≡ suc (m + n) = omega arith in
    rw (q, any_append s (suc from) m n, e) (sym (or_assoc (s from) (any_set s (suc from) m) (any_set s (from + suc m) n)))

any_begun : (s : Bits) (p : Process) (lo : ℕ) → Numbered p lo → any_set s lo (size p) ≡ begun p s
unfolding any_set Numbered size begun
any_begun s (event n l) lo m = rw m (or-false (s lo))
any_begun s (join j p q) lo m = any_append s lo (size p) (size q) ∙ ap₂ ◌||◌ (any_begun s p lo m.0) (any_begun s q (lo + size p) m.1)
any_begun s (again n l) lo m = rw m (or-false (s lo))
any_begun s (rounds p r l) lo m =
    any_append s lo (size p) 1 ∙ ap₂ ◌||◌ (any_begun s p lo m.0) (or-false (s (lo + size p)) ∙ ap s (sym m.1))

some_true_holds : (s : Bits) (from n : ℕ) → holds (some_true from n) s ≡ any_set s from (suc n)
unfolding some_true holds any_set
some_true_holds s from zero = sym (or-false (s from))
some_true_holds s from (suc n) = ap (λ (b : Bool). s from || b) (some_true_holds s (suc from) n)

neither : (a b : Bool) → (not a && not b) ≡ not (a || b)
neither true b = refl
neither false b = refl

all_false_holds : (s : Bits) (from n : ℕ) → holds (all_false from n) s ≡ not (any_set s from (suc n))
unfolding all_false holds any_set
all_false_holds s from zero = ap not (sym (or-false (s from)))
all_false_holds s from (suc n) = ap (λ (b : Bool). not (s from) && b) (all_false_holds s (suc from) n) ∙ neither (s from) (any_set s (suc from) (suc n))

module _ (p : Process) (lo : ℕ) (m : Numbered p lo) (s : Bits) where
  its_range : any_set s (first p) (suc (length (events p) - 1)) ≡ begun p s
  its_range =
      let e : suc (length (events p) - 1) ≡ size p = omega (arith, size_events p, size_positive p) in
      rw (first_lowest p lo m, e) (any_begun s p lo m)

  pub begun_true : holds (begun_when p) s ≡ begun p s
  begun_true = some_true_holds s (first p) (length (events p) - 1) ∙ its_range

  pub idle_true : holds (idle_when p) s ≡ not (begun p s)
  idle_true = all_false_holds s (first p) (length (events p) - 1) ∙ ap not its_range

-- ---- conditions
abbrev met : Condition → Bits → Bool
met always s = true
met (when f) s = holds f s

meet_met : (c d : Condition) (s : Bits) → met (meet c d) s ≡ (met c s && met d s)
unfolding holds
meet_met always d s = refl
meet_met (when f) always s = sym (and-true (holds f s))
meet_met (when f) (when g) s = refl

choice_met : (c d : Condition) (s : Bits) → met (choice c d) s ≡ (met c s || met d s)
unfolding holds
choice_met always d s = refl
choice_met (when f) always s = sym (or-true (holds f s))
choice_met (when f) (when g) s = refl

-- Both parts, or either, and a further condition: as the definitions put them.
meet_as : (c d : Condition) (s : Bits) {a b : Bool} → met c s ≡ a → met d s ≡ b → met (meet c d) s ≡ (a && b)
meet_as c d s p q = meet_met c d s ∙ ap₂ ◌&&◌ p q

choice_as : (c d : Condition) (s : Bits) {a b : Bool} → met c s ≡ a → met d s ≡ b → met (choice c d) s ≡ (a || b)
choice_as c d s p q = choice_met c d s ∙ ap₂ ◌||◌ p q

module _ (s : Bits) where
  mutual
    unfolding complete_when settled_when Numbered complete begun holds

    pub complete_true : (p : Process) (lo : ℕ) → Numbered p lo → met (complete_when p) s ≡ complete p s
    complete_true (event n l) lo m = refl
    complete_true (join seq p q) lo m = meet_as (complete_when p) (complete_when q) s (complete_true p lo m.0) (complete_true q (lo + size p) m.1)
    complete_true (join and p q) lo m = meet_as (complete_when p) (complete_when q) s (complete_true p lo m.0) (complete_true q (lo + size p) m.1)
    complete_true (join or p q) lo m =
        meet_as (when (begun_when (join or p q))) (meet (settled_when p) (settled_when q)) s (begun_true (join or p q) lo m s)
        (meet_as (settled_when p) (settled_when q) s (settled_true p lo m.0) (settled_true q (lo + size p) m.1))
    complete_true (join xor p q) lo m = choice_as (complete_when p) (complete_when q) s (complete_true p lo m.0) (complete_true q (lo + size p) m.1)
    complete_true (again n l) lo m = refl
    complete_true (rounds p r l) lo m = settled_true p lo m.0 ∙ or_comm (complete p s) (not (begun p s))

    pub settled_true : (p : Process) (lo : ℕ) → Numbered p lo → met (settled_when p) s ≡ (complete p s || not (begun p s))
    settled_true (event n l) lo m = sym (or-not_self (s n))
    settled_true (join seq p q) lo m =
        choice_as (meet (complete_when p) (complete_when q)) (when (idle_when (join seq p q))) s
        (meet_as (complete_when p) (complete_when q) s (complete_true p lo m.0) (complete_true q (lo + size p) m.1)) (idle_true (join seq p q) lo m s)
    settled_true (join and p q) lo m =
        choice_as (meet (complete_when p) (complete_when q)) (when (idle_when (join and p q))) s
        (meet_as (complete_when p) (complete_when q) s (complete_true p lo m.0) (complete_true q (lo + size p) m.1)) (idle_true (join and p q) lo m s)
    settled_true (join or p q) lo m =
        meet_as (settled_when p) (settled_when q) s (settled_true p lo m.0) (settled_true q (lo + size p) m.1)
        ∙ some_settled (begun p s) (begun q s) (complete p s) (complete q s)
    settled_true (join xor p q) lo m =
        choice_as (choice (complete_when p) (complete_when q)) (when (idle_when (join xor p q))) s
        (choice_as (complete_when p) (complete_when q) s (complete_true p lo m.0) (complete_true q (lo + size p) m.1)) (idle_true (join xor p q) lo m s)
    settled_true (again n l) lo m = refl
    settled_true (rounds p r l) lo m = settled_true p lo m.0 ∙ loop_settled (begun p s) (complete p s) (s r)

-- ---- the guards of an event
all_hold_append : (fs gs : List Formula) (s : Bits) → all_hold (fs ++ gs) s ≡ (all_hold fs s && all_hold gs s)
unfolding all_hold
all_hold_append [] gs s = refl
all_hold_append (f ∷ fs) gs s = ap (λ (b : Bool). holds f s && b) (all_hold_append fs gs s) ∙ sym (and_assoc (holds f s) (all_hold fs s) (all_hold gs s))

guarded_hold : (c : Condition) (s : Bits) → all_hold (guarded c) s ≡ met c s
unfolding all_hold
guarded_hold always s = refl
guarded_hold (when f) s = and-true (holds f s)

-- What is asked of one part, and then what is asked of the event in the other.
asked_first : (fs gs : List Formula) (s : Bits) {a b : Bool} → all_hold fs s ≡ b → all_hold gs s ≡ a → all_hold (fs ++ gs) s ≡ (a && b)
asked_first fs gs s {a} {b} p q = all_hold_append fs gs s ∙ (ap₂ ◌&&◌ p q ∙ and_comm b a)

one_holds : (f : Formula) (s : Bits) {b : Bool} → holds f s ≡ b → all_hold (f ∷ []) s ≡ b
unfolding all_hold
one_holds f s p = and-true (holds f s) ∙ p

either_part : (b : Bool) (fs gs : List Formula) (s : Bits) {x y : Bool} → all_hold fs s ≡ x → all_hold gs s ≡ y → all_hold (cond b fs gs) s ≡ cond b x y
either_part true fs gs s p q = p
either_part false fs gs s p q = q

-- An event's guards hold exactly where it is enabled, whatever the bits are.
pub guards_true : (p : Process) (lo : ℕ) → Numbered p lo → (s : Bits) (x : ℕ) → all_hold (conditions p x) s ≡ enabled p s x
unfolding conditions enabled Numbered all_hold holds
guards_true (event n l) lo m s x = and-true (not (s n))
guards_true (join seq p q) lo m s x =
    either_part (owns p x) _ _ s
    (asked_first (idle_when q ∷ []) (conditions p x) s (one_holds (idle_when q) s (idle_true q (lo + size p) m.1 s)) (guards_true p lo m.0 s x))
    (asked_first (guarded (complete_when p)) (conditions q x) s (guarded_hold (complete_when p) s ∙ complete_true s p lo m.0)
    (guards_true q (lo + size p) m.1 s x))
guards_true (join and p q) lo m s x = either_part (owns p x) _ _ s (guards_true p lo m.0 s x) (guards_true q (lo + size p) m.1 s x)
guards_true (join or p q) lo m s x = either_part (owns p x) _ _ s (guards_true p lo m.0 s x) (guards_true q (lo + size p) m.1 s x)
guards_true (join xor p q) lo m s x =
    either_part (owns p x) _ _ s
    (asked_first (idle_when q ∷ []) (conditions p x) s (one_holds (idle_when q) s (idle_true q (lo + size p) m.1 s)) (guards_true p lo m.0 s x))
    (asked_first (idle_when p ∷ []) (conditions q x) s (one_holds (idle_when p) s (idle_true p lo m.0 s)) (guards_true q (lo + size p) m.1 s x))
guards_true (again n l) lo m s x = refl
guards_true (rounds p r l) lo m s x =
    either_part (owns p x) _ _ s (guards_true p lo m.0 s x) (guarded_hold (complete_when p) s ∙ complete_true s p lo m.0)
