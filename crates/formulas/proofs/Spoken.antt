-- The chosen guards and the actions of an event speak of the process's own events only, so the text of an event depends on the names of these alone.
use mathlib.Core.Path.{◌≡◌, refl}
use mathlib.Core.Bool.{Bool, true, false, cond}
use mathlib.Core.List.{List, [], ◌∷◌, ◌++◌}
use Prim.Native.Nat.{ℕ, zero, suc, ◌+◌, ◌-◌, ◌≤◌, ◌<◌}
use native.Mathlib.Omega.{arith}
use lib.ListN.{length}
use Rattle.base.proofs.Truth.{by_cases}
use Rattle.process.specs.Process.{Joint, seq, and, or, xor, Process, event, join, again, rounds, owns, events}
use Rattle.process.specs.Bits.{clears}
use Rattle.process.specs.Bodies.{first}
use Rattle.process.proofs.Numbered.{size, Numbered, size_events}
use Rattle.process.proofs.Cleared.{first_lowest, size_positive}
use Rattle.formulas.specs.Formulas.{Formula, is, both, either, Speaks, AllSpeak}
use Rattle.formulas.specs.Conditions.{some_true, all_false, begun_when, idle_when, Condition, always, when, meet, choice, complete_when, settled_when, guarded, of_second, of_first, conditions}
use Rattle.formulas.specs.Actions.{Action, cleared, actions, AllSet}
use Rattle.formulas.specs.Lines.{Naming, formula, guard_lines, action_lines, event_lines}
use Rattle.formulas.specs.Opening.{variable_lines, invariant_lines, cleared_all, opening_lines}

-- ---- conditions
module _ (n : ℕ) where
  range_speaks : (from after : ℕ) → from + after < n → Speaks n (some_true from after) × Speaks n (all_false from after)
  unfolding some_true all_false Speaks
  range_speaks from zero h = (omega arith, omega arith)
  range_speaks from (suc after) h =
      let f : from < n = omega arith in
      let r = range_speaks (suc from) after (omega arith) in
      ((f, r.0), (f, r.1))

  -- A process is begun, or not begun, by its own events.
  own_range : (p : Process) (lo : ℕ) → Numbered p lo → lo + size p ≤ n → Speaks n (begun_when p) × Speaks n (idle_when p)
  own_range p lo m h = range_speaks (first p) (length (events p) - 1) (omega (arith, first_lowest p lo m, size_events p, size_positive p))

  append_speaks : (fs gs : List Formula) → AllSpeak n fs → AllSpeak n gs → AllSpeak n (fs ++ gs)
  unfolding AllSpeak
  append_speaks [] gs a b = b
  append_speaks (f ∷ fs) gs a b = (a.0, append_speaks fs gs a.1 b)

  meet_speaks : (c d : Condition) → AllSpeak n (guarded c) → AllSpeak n (guarded d) → AllSpeak n (guarded (meet c d))
  unfolding AllSpeak Speaks
  meet_speaks always d a b = b
  meet_speaks (when f) always a b = a
  meet_speaks (when f) (when g) a b = ((a.0, b.0), tt)

  choice_speaks : (c d : Condition) → AllSpeak n (guarded c) → AllSpeak n (guarded d) → AllSpeak n (guarded (choice c d))
  unfolding AllSpeak Speaks
  choice_speaks always d a b = tt
  choice_speaks (when f) always a b = tt
  choice_speaks (when f) (when g) a b = ((a.0, b.0), tt)

  -- That a process is complete, and that it is settled, speaks of its own events.
  tests_speak : (p : Process) (lo : ℕ) → Numbered p lo → lo + size p ≤ n
      → AllSpeak n (guarded (complete_when p)) × AllSpeak n (guarded (settled_when p))
  unfolding Numbered size complete_when settled_when AllSpeak Speaks
  tests_speak (event k l) lo m h = ((omega arith, tt), tt)
  tests_speak (join j p q) lo m h =
      go j (own_range (join j p q) lo m h) (tests_speak p lo m.0 (omega arith)) (tests_speak q (lo + size p) m.1 (omega arith))
    where
      go : (j : Joint) → Speaks n (begun_when (join j p q)) × Speaks n (idle_when (join j p q))
          → AllSpeak n (guarded (complete_when p)) × AllSpeak n (guarded (settled_when p))
          → AllSpeak n (guarded (complete_when q)) × AllSpeak n (guarded (settled_when q))
          → AllSpeak n (guarded (complete_when (join j p q))) × AllSpeak n (guarded (settled_when (join j p q)))
      go seq r a b =
          let c = meet_speaks (complete_when p) (complete_when q) a.0 b.0 in
          (c, choice_speaks (meet (complete_when p) (complete_when q)) (when (idle_when (join seq p q))) c (r.1, tt))
      go and r a b =
          let c = meet_speaks (complete_when p) (complete_when q) a.0 b.0 in
          (c, choice_speaks (meet (complete_when p) (complete_when q)) (when (idle_when (join and p q))) c (r.1, tt))
      go or r a b =
          let c = meet_speaks (settled_when p) (settled_when q) a.1 b.1 in
          (meet_speaks (when (begun_when (join or p q))) (meet (settled_when p) (settled_when q)) (r.0, tt) c, c)
      go xor r a b =
          let c = choice_speaks (complete_when p) (complete_when q) a.0 b.0 in
          (c, choice_speaks (choice (complete_when p) (complete_when q)) (when (idle_when (join xor p q))) c (r.1, tt))
  tests_speak (again k l) lo m h = (tt, tt)
  tests_speak (rounds p r l) lo m h = let s = (tests_speak p lo m.0 (omega arith)).1 in (s, s)

  -- What a joint asks of the part in which the event is not.
  second_speaks : (j : Joint) (q : Process) → Speaks n (idle_when q) → AllSpeak n (of_second j q)
  unfolding AllSpeak
  second_speaks seq q h = (h, tt)
  second_speaks and q h = tt
  second_speaks or q h = tt
  second_speaks xor q h = (h, tt)

  first_speaks : (j : Joint) (p : Process) → Speaks n (idle_when p) → AllSpeak n (guarded (complete_when p)) → AllSpeak n (of_first j p)
  unfolding AllSpeak
  first_speaks seq p h k = k
  first_speaks and p h k = tt
  first_speaks or p h k = tt
  first_speaks xor p h k = (h, tt)

either_speaks : (b : Bool) (n : ℕ) (fs gs : List Formula) → AllSpeak n fs → AllSpeak n gs → AllSpeak n (cond b fs gs)
either_speaks true n fs gs a b = a
either_speaks false n fs gs a b = b

-- The guards of an event speak of the process's own events.
pub conditions_speak : (p : Process) (lo n : ℕ) → Numbered p lo → lo + size p ≤ n → (x : ℕ) → AllSpeak n (conditions p x)
unfolding conditions Numbered size AllSpeak Speaks
conditions_speak (event k l) lo n m h x = (omega arith, tt)
conditions_speak (join j p q) lo n m h x =
    let hp : lo + size p ≤ n = omega arith in
    let hq : lo + size p + size q ≤ n = omega arith in
    either_speaks (owns p x) n _ _
    (append_speaks n (of_second j q) (conditions p x) (second_speaks n j q (own_range n q (lo + size p) m.1 hq).1) (conditions_speak p lo n m.0 hp x))
    (append_speaks n (of_first j p) (conditions q x) (first_speaks n j p (own_range n p lo m.0 hp).1 (tests_speak n p lo m.0 hp).0)
    (conditions_speak q (lo + size p) n m.1 hq x))
conditions_speak (again k l) lo n m h x = tt
conditions_speak (rounds p r l) lo n m h x =
    let hp : lo + size p ≤ n = omega arith in
    either_speaks (owns p x) n _ _ (conditions_speak p lo n m.0 hp x) (tests_speak n p lo m.0 hp).0

-- ---- actions
cleared_below : (n : ℕ) (clear : ℕ → Bool) (from k : ℕ) → from + k ≤ n → AllSet n (cleared clear from k)
unfolding AllSet cleared
cleared_below n clear from zero h = tt
cleared_below n clear from (suc k) h =
    let f : from < n = omega arith in
    let r = cleared_below n clear (suc from) k (omega arith) in
    by_cases (clear from) (λ c. rw c (f, r)) (λ c. rw c r)

-- The actions of an event set the process's own variables.
pub actions_below : (p : Process) (n e : ℕ) → e < n → AllSet n (actions p n e)
unfolding AllSet actions
actions_below p n e h = (h, cleared_below n (clears p e) 0 n (omega arith))

-- So do those that a machine begins with.
pub all_below : (n from k : ℕ) → from + k ≤ n → AllSet n (cleared_all from k)
unfolding AllSet cleared_all
all_below n from zero h = tt
all_below n from (suc k) h = (omega arith, all_below n (suc from) k (omega arith))

-- ---- the text, by two namings that agree on the first n events
module _ (v w : Naming) (n : ℕ) (same : (m : ℕ) → m < n → v m ≡ w m) where
  same_formula : (f : Formula) → Speaks n f → formula v f ≡ formula w f
  unfolding Speaks formula
  same_formula (is m b) h = rw (same m h)
  same_formula (both f g) h = rw (same_formula f h.0, same_formula g h.1)
  same_formula (either f g) h = rw (same_formula f h.0, same_formula g h.1)

  pub same_guards : (k : ℕ) (gs : List Formula) → AllSpeak n gs → guard_lines v k gs ≡ guard_lines w k gs
  unfolding AllSpeak guard_lines
  same_guards k [] h = refl
  same_guards k (f ∷ fs) h = rw (same_formula f h.0, same_guards (suc k) fs h.1)

  pub same_actions : (k : ℕ) (acts : List Action) → AllSet n acts → action_lines v k acts ≡ action_lines w k acts
  unfolding AllSet action_lines
  same_actions k [] h = refl
  same_actions k (a ∷ more) h = rw (same a.variable h.0, same_actions (suc k) more h.1)

  -- The text of an event depends on the names of the process's own events.
  pub same_text : (e : ℕ) → e < n → (gs : List Formula) → AllSpeak n gs → (acts : List Action) → AllSet n acts
      → event_lines v e gs acts ≡ event_lines w e gs acts
  unfolding event_lines
  same_text e h gs a acts b = rw (same e h, same_guards 1 gs a, same_actions 1 acts b)

  same_variables : (from k : ℕ) → from + k ≤ n → variable_lines v from k ≡ variable_lines w from k
  unfolding variable_lines
  same_variables from zero h = refl
  same_variables from (suc k) h = rw (same from (omega arith), same_variables (suc from) k (omega arith))

  same_invariants : (i from k : ℕ) → from + k ≤ n → invariant_lines v i from k ≡ invariant_lines w i from k
  unfolding invariant_lines
  same_invariants i from zero h = refl
  same_invariants i from (suc k) h = rw (same from (omega arith), same_invariants (suc i) (suc from) k (omega arith))

  -- So does the opening of the machine.
  pub same_opening : (name : List ℕ) → opening_lines v name n ≡ opening_lines w name n
  unfolding opening_lines
  same_opening name =
      rw (same_variables 0 n (omega arith), same_invariants 1 0 n (omega arith), same_actions 1 (cleared_all 0 n) (all_below n 0 n (omega arith)))
