-- 65,536 bytes suffice for the text of every event of a process with at most 32 events, the names having at most 26 bytes: the guards of an event
-- together name at most as many variables as the square of the number of events.
use mathlib.Core.Path.{◌≡◌, refl}
use mathlib.Core.Bool.{Bool, true, false, cond}
use mathlib.Core.List.{List, [], ◌∷◌, ◌++◌}
use Prim.Native.Nat.{ℕ, zero, suc, ◌+◌, ◌-◌, ◌*◌, ◌≤◌, ◌<◌}
use native.Mathlib.Nat.{mul-le-mul}
use native.Mathlib.Omega.{arith}
use lib.ListN.{length, length-append}
use Rattle.base.specs.Text.{bytes}
use Rattle.base.proofs.Truth.{by_cases}
use Rattle.output.proofs.Decimals.{decimal_most}
use Rattle.process.specs.Process.{Joint, seq, and, or, xor, Process, event, join, again, rounds, owns, events}
use Rattle.process.specs.Bits.{clears}
use Rattle.process.specs.Bodies.{first}
use Rattle.process.proofs.Numbered.{size, Numbered, size_events}
use Rattle.process.proofs.Cleared.{size_positive}
use Rattle.formulas.specs.Formulas.{Formula, is, both, either, Speaks, AllSpeak}
use Rattle.formulas.specs.Conditions.{some_true, all_false, begun_when, idle_when, Condition, always, when, meet, choice, complete_when, settled_when, guarded, of_second, of_first, conditions}
use Rattle.formulas.specs.Actions.{Action, cleared, actions, AllSet}
use Rattle.formulas.specs.Lines.{Naming, truth, formula, labelled, guard_lines, action, action_lines, event_lines}
use Rattle.formulas.specs.Opening.{variable_lines, invariant_lines, cleared_all, opening_lines}
use Rattle.formulas.proofs.Spoken.{conditions_speak, actions_below, all_below}

-- ---- how often variables are named
unfoldable atoms : Formula → ℕ
atoms (is m b) = 1
atoms (both f g) = atoms f + atoms g
atoms (either f g) = atoms f + atoms g

unfoldable total : List Formula → ℕ
unfolding atoms
total [] = 0
total (f ∷ fs) = atoms f + total fs

total_append : (fs gs : List Formula) → total (fs ++ gs) ≡ total fs + total gs
unfolding total
total_append [] gs = omega arith
total_append (f ∷ fs) gs = omega (arith, total_append fs gs)

total_either : (b : Bool) (fs gs : List Formula) (n : ℕ) → total fs ≤ n → total gs ≤ n → total (cond b fs gs) ≤ n
total_either true fs gs n h k = h
total_either false fs gs n h k = k

range_atoms : (from after : ℕ) → (atoms (some_true from after) ≡ suc after) × (atoms (all_false from after) ≡ suc after)
unfolding some_true all_false atoms
range_atoms from zero = (refl, refl)
range_atoms from (suc after) = let r = range_atoms (suc from) after in (omega arith, omega arith)

-- That a process is begun, or not begun, names each of its events once.
own_atoms : (p : Process) → (total (begun_when p ∷ []) ≡ size p) × (total (idle_when p ∷ []) ≡ size p)
unfolding total
own_atoms p =
    let r = range_atoms (first p) (length (events p) - 1) in
    let s = size_events p in
    let z = size_positive p in
    (omega arith, omega arith)

meet_total : (c d : Condition) → total (guarded (meet c d)) ≤ total (guarded c) + total (guarded d)
unfolding total atoms
meet_total always d = omega arith
meet_total (when f) always = omega arith
meet_total (when f) (when g) = omega arith

choice_total : (c d : Condition) → total (guarded (choice c d)) ≤ total (guarded c) + total (guarded d)
unfolding total atoms
choice_total always d = omega arith
choice_total (when f) always = omega arith
choice_total (when f) (when g) = omega arith

-- The squares of two numbers, and the numbers, are at most the square of the sum.
squares : (a b : ℕ) → 1 ≤ a → 1 ≤ b → a * a + b * b + (a + b) ≤ (a + b) * (a + b)
squares a b h k =
    let x : a * 1 ≤ a * b = mul-le-mul {n₁ = a} {m₁ = 1} {n₂ = a} {m₂ = b} (omega arith) k in
    let y : 1 * b ≤ a * b = mul-le-mul {n₁ = 1} {m₁ = b} {n₂ = a} {m₂ = b} h (omega arith) in
    omega arith

-- ---- the tests of a process
abbrev WithinSquare : Process → Condition → Type 0
WithinSquare p c = total (guarded c) ≤ size p * size p

module _ (p q : Process) where
  parts_squared : size p * size p + size q * size q + (size p + size q) ≤ (size p + size q) * (size p + size q)
  parts_squared = squares (size p) (size q) (size_positive p) (size_positive q)

  -- A condition over those of the two parts, and one that names each event once besides.
  joined_within : (j : Joint) (c d e f : Condition) → WithinSquare p c → WithinSquare q d → total (guarded e) ≤ total (guarded c) + total (guarded d)
      → total (guarded f) ≤ total (guarded e) + size (join j p q) → WithinSquare (join j p q) e × WithinSquare (join j p q) f
  unfolding size
  joined_within j c d e f hc hd he hf = let s = parts_squared in (omega arith, omega arith)

  idle_besides : (j : Joint) (c : Condition) → total (guarded (choice c (when (idle_when (join j p q))))) ≤ total (guarded c) + size (join j p q)
  idle_besides j c = omega (arith, choice_total c (when (idle_when (join j p q))), (own_atoms (join j p q)).1)

  begun_besides : (j : Joint) (c : Condition) → total (guarded (meet (when (begun_when (join j p q))) c)) ≤ total (guarded c) + size (join j p q)
  begun_besides j c = omega (arith, meet_total (when (begun_when (join j p q))) c, (own_atoms (join j p q)).0)

-- That a process is complete, and that it is settled, names at most the square of its events.
tests_total : (p : Process) → WithinSquare p (complete_when p) × WithinSquare p (settled_when p)
unfolding size complete_when settled_when total atoms
tests_total (event k l) = (omega arith, omega arith)
tests_total (join j p q) = go j (tests_total p) (tests_total q)
  where
    go : (j : Joint) → WithinSquare p (complete_when p) × WithinSquare p (settled_when p)
        → WithinSquare q (complete_when q) × WithinSquare q (settled_when q)
        → WithinSquare (join j p q) (complete_when (join j p q)) × WithinSquare (join j p q) (settled_when (join j p q))
    go seq (a, s) (b, t) =
        joined_within p q seq (complete_when p) (complete_when q) (complete_when (join seq p q)) (settled_when (join seq p q)) a b
        (meet_total (complete_when p) (complete_when q)) (idle_besides p q seq (complete_when (join seq p q)))
    go and (a, s) (b, t) =
        joined_within p q and (complete_when p) (complete_when q) (complete_when (join and p q)) (settled_when (join and p q)) a b
        (meet_total (complete_when p) (complete_when q)) (idle_besides p q and (complete_when (join and p q)))
    go or (a, s) (b, t) =
        let r = joined_within p q or (settled_when p) (settled_when q) (settled_when (join or p q)) (complete_when (join or p q)) s t
        (meet_total (settled_when p) (settled_when q)) (begun_besides p q or (settled_when (join or p q))) in
        (r.1, r.0)
    go xor (a, s) (b, t) =
        joined_within p q xor (complete_when p) (complete_when q) (complete_when (join xor p q)) (settled_when (join xor p q)) a b
        (choice_total (complete_when p) (complete_when q)) (idle_besides p q xor (complete_when (join xor p q)))
tests_total (again k l) = (omega arith, omega arith)
tests_total (rounds p r l) = let s = tests_total p in (omega arith, omega arith)

-- ---- the guards of an event
-- What a joint asks of the part in which the event is not.
second_total : (j : Joint) (q : Process) → total (of_second j q) ≤ size q
unfolding total
second_total seq q = omega (arith, (own_atoms q).1)
second_total and q = omega arith
second_total or q = omega arith
second_total xor q = omega (arith, (own_atoms q).1)

first_total : (j : Joint) (p : Process) → total (of_first j p) ≤ size p * size p + size p
unfolding total
first_total seq p = omega (arith, (tests_total p).0)
first_total and p = omega arith
first_total or p = omega arith
first_total xor p = omega (arith, (own_atoms p).1)

-- The guards of an event name at most the square of the events.
conditions_total : (p : Process) (x : ℕ) → total (conditions p x) ≤ size p * size p
unfolding conditions size total atoms
conditions_total (event k l) x = omega arith
conditions_total (join j p q) x =
    let s = parts_squared p q in
    total_either (owns p x) (of_second j q ++ conditions p x) (of_first j p ++ conditions q x) _
    (omega (arith, total_append (of_second j q) (conditions p x), second_total j q, conditions_total p x))
    (omega (arith, total_append (of_first j p) (conditions q x), first_total j p, conditions_total q x))
conditions_total (again k l) x = omega arith
conditions_total (rounds p r l) x =
    total_either (owns p x) (conditions p x) (guarded (complete_when p)) _ (omega (arith, conditions_total p x)) (omega (arith, (tests_total p).0))

-- ---- bytes
truth_short : (b : Bool) → length (truth b) ≤ 5
truth_short true = omega arith
truth_short false = omega arith

labelled_short : (label : List ℕ) (k : ℕ) (line : List ℕ) → length label ≡ 5 → length (labelled label k line) ≤ 27 + length line
labelled_short label k line h = simp length-append (omega (arith, decimal_most k))

cleared_count : (clear : ℕ → Bool) (from n : ℕ) → length (cleared clear from n) ≤ n
unfolding cleared
cleared_count clear from zero = omega arith
cleared_count clear from (suc n) =
    let r = cleared_count clear (suc from) n in
    by_cases (clear from) (λ c. rw c (omega arith)) (λ c. rw c (omega arith))

module _ (v : Naming) (n : ℕ) (short : (m : ℕ) → m < n → length (v m) ≤ 26) where
  -- 40 bytes for each variable that a formula names, less 6; 61 with the label and the end of its line.
  formula_short : (f : Formula) → Speaks n f → length (formula v f) + 6 ≤ 40 * atoms f
  unfolding Speaks formula atoms
  formula_short (is m b) h = simp length-append (omega (arith, short m h, truth_short b))
  formula_short (both f g) h = simp length-append (omega (arith, formula_short f h.0, formula_short g h.1))
  formula_short (either f g) h = simp length-append (omega (arith, formula_short f h.0, formula_short g h.1))

  guards_short : (k : ℕ) (gs : List Formula) → AllSpeak n gs → length (guard_lines v k gs) ≤ 61 * total gs
  unfolding AllSpeak guard_lines total
  guards_short k [] h = omega arith
  guards_short k (f ∷ fs) h =
      rw (length-append (labelled (bytes "@grd_") k (formula v f)))
      (omega (arith, labelled_short (bytes "@grd_") k (formula v f) refl, formula_short f h.0, guards_short (suc k) fs h.1))

  -- The line of an action: 62 bytes at most.
  action_short : (a : Action) → a.variable < n → length (action v a) ≤ 35
  action_short a h = simp length-append (omega (arith, short a.variable h, truth_short a.value))

  actions_short : (k : ℕ) (acts : List Action) → AllSet n acts → length (action_lines v k acts) ≤ 62 * length acts
  unfolding AllSet action_lines
  actions_short k [] h = omega arith
  actions_short k (a ∷ more) h =
      rw (length-append (labelled (bytes "@act_") k (action v a)))
      (omega (arith, labelled_short (bytes "@act_") k (action v a) refl, action_short a h.0, actions_short (suc k) more h.1))

  event_short : (e : ℕ) → e < n → (gs : List Formula) → AllSpeak n gs → (acts : List Action) → AllSet n acts
      → length (event_lines v e gs acts) ≤ 48 + 61 * total gs + 62 * length acts
  unfolding event_lines
  event_short e h gs a acts b = simp length-append (omega (arith, short e h, guards_short 1 gs a, actions_short 1 acts b))

  -- The opening: for each variable 27 bytes where it is named, 61 for its type, and 62 for its first value.
  variables_short : (from k : ℕ) → from + k ≤ n → length (variable_lines v from k) ≤ 27 * k
  unfolding variable_lines
  variables_short from zero h = omega arith
  variables_short from (suc k) h = simp length-append (omega (arith, short from (omega arith), variables_short (suc from) k (omega arith)))

  invariants_short : (i from k : ℕ) → from + k ≤ n → length (invariant_lines v i from k) ≤ 61 * k
  unfolding invariant_lines
  invariants_short i from zero h = omega arith
  invariants_short i from (suc k) h =
      rw (length-append (labelled (bytes "@inv_") i (v from ++ bytes " : BOOL")))
      (omega (
        arith,
        labelled_short (bytes "@inv_") i (v from ++ bytes " : BOOL") refl,
        length-append (v from) (bytes " : BOOL"),
        short from (omega arith),
        invariants_short (suc i) (suc from) k (omega arith),
      ))

  cleared_all_count : (from k : ℕ) → length (cleared_all from k) ≡ k
  unfolding cleared_all
  cleared_all_count from zero = refl
  cleared_all_count from (suc k) = omega (arith, cleared_all_count (suc from) k)

  -- 65,536 bytes are enough for the opening of a machine.
  pub opening_short : n ≤ 32 → (name : List ℕ) → length name ≤ 24 → length (opening_lines v name n) ≤ 65536
  unfolding opening_lines
  opening_short few name h =
      simp length-append
      (omega (
        arith,
        variables_short 0 n (omega arith),
        invariants_short 1 0 n (omega arith),
        actions_short 1 (cleared_all 0 n) (all_below n 0 n (omega arith)),
        cleared_all_count 0 n,
      ))

-- 65,536 bytes are enough for the text of an event.
pub text_short : (p : Process) (n : ℕ) → Numbered p 0 → size p ≡ n → n ≤ 32 → (v : Naming) → ((m : ℕ) → m < n → length (v m) ≤ 26) → (e : ℕ) → e < n
    → length (event_lines v e (conditions p e) (actions p n e)) ≤ 65536
unfolding actions
text_short p n m s h v short e l =
    let a = conditions_speak p 0 n m (omega arith) e in
    let z : size p * size p ≤ 32 * 32 = mul-le-mul {n₁ = size p} {m₁ = size p} {n₂ = 32} {m₂ = 32} (omega arith) (omega arith) in
    omega (arith, event_short v n short e l (conditions p e) a (actions p n e) (actions_below p n e l), conditions_total p e, cleared_count (clears p e) 0 n)
