-- The machine of a diagram, with the chosen guards and the actions, takes exactly the lists of events that begin a whole run. Its actions do to the variables
-- what taking the event does to the control bits, and set no variable twice, so it is the same whether they happen at once or one after another.
use mathlib.Core.Path.{◌≡◌, refl, sym, ◌∙◌, ap}
use mathlib.Core.Logic.{◌↔◌}
use mathlib.Core.Bool.{Bool, true, false, cond, ◌&&◌, and-true, and-false}
use mathlib.Core.List.{List, [], ◌∷◌, ◌++◌, map, append-nil, append_assoc}
use Prim.Native.Nat.{ℕ, zero, suc, ◌+◌, ◌≤◌, ◌<◌}
use native.Mathlib.Omega.{arith}
use lib.Dec.{eqb, leb}
use borrow.Author.Tests.{eqb-true, eqb-false, ne_eqb, leb-true, le-leb, lt-leb}
use Rattle.base.proofs.Truth.{by_cases, clash, agree}
use Rattle.diagram.specs.Tree.{Flow}
use Rattle.diagram.specs.Count.{flow_events}
use Rattle.diagram.specs.Rules.{Keeps}
use Rattle.process.specs.Process.{Process, event, join, again, rounds}
use Rattle.process.specs.Expand.{expand}
use Rattle.process.specs.Runs.{Begins}
use Rattle.process.specs.Bits.{Bits, blank, clears, taking, after}
use Rattle.process.specs.Guards.{enabled}
use Rattle.process.specs.Once.{times}
use Rattle.process.proofs.Local.{enabled_local, run_append}
use Rattle.process.proofs.Seen.{begins_nil, begins_shorter}
use Rattle.process.proofs.Numbered.{size, Numbered, reset_out}
use Rattle.process.proofs.Events.{expand_laid, expand_events}
use Rattle.process.proofs.Theorem.{next_iff_enabled}
use Rattle.formulas.specs.Formulas.{all_hold}
use Rattle.formulas.specs.Conditions.{conditions}
use Rattle.formulas.specs.Actions.{Action, cleared, actions, perform}
use Rattle.formulas.specs.Machine.{Takes}
use Rattle.formulas.proofs.True.{guards_true}

-- ---- what the actions do
-- Of the variables from `from` on, the first is cleared if it is to be, and then those after it.
cleared_first : (clear : ℕ → Bool) (from k : ℕ) (s : Bits)
    → perform (cleared clear from (suc k)) s ≡ perform (cleared clear (suc from) k) (λ i. cond (clear from && eqb from i) false (s i))
unfolding cleared perform
cleared_first clear from k s = by_cases (clear from) (λ c. rw c) (λ c. rw c)

first_or_later : (clear : ℕ → Bool) (from i : ℕ) (b : Bool)
    → cond (leb (suc from) i && clear i) false (cond (clear from && eqb from i) false b) ≡ cond (leb from i && clear i) false b
first_or_later clear from i b =
    by_cases (eqb from i)
    (λ q. let e = eqb-true from i q in rw (q, lt-leb (suc from) i (omega arith), le-leb from i (omega arith), ap clear e, and-true (clear i)))
    (λ q. let d = eqb-false from i q in
    let r : leb (suc from) i ≡ leb from i = agree (leb (suc from) i) (leb from i)
    (λ l. le-leb from i (omega (arith, leb-true (suc from) i l))) (λ l. le-leb (suc from) i (omega (arith, leb-true from i l, d))) in
    rw (q, and-false (clear from), r))

-- Those that are to be cleared are, and the others are kept.
cleared_bit : (clear : ℕ → Bool) (from k i : ℕ) (s : Bits) → i < from + k → perform (cleared clear from k) s i ≡ cond (leb from i && clear i) false (s i)
unfolding cleared perform
cleared_bit clear from zero i s h = rw (lt-leb from i (omega arith))
cleared_bit clear from (suc k) i s h =
    ap (λ (t : Bits). t i) (cleared_first clear from k s)
    ∙ (cleared_bit clear (suc from) k i (λ j. cond (clear from && eqb from j) false (s j)) (omega arith) ∙ first_or_later clear from i (s i))

-- No event clears its own bit: a reset is none of its body's events.
own_kept : (p : Process) (lo : ℕ) → Numbered p lo → (x : ℕ) → clears p x x ≡ false
unfolding clears Numbered
own_kept (event n l) lo m x = refl
own_kept (join j p q) lo m x = rw (own_kept p lo m.0 x, own_kept q (lo + size p) m.1 x)
own_kept (again n l) lo m x = refl
own_kept (rounds p r l) lo m x =
    rw (own_kept p lo m.0 x)
    (by_cases (eqb r x) (λ q. rw (q, ← (eqb-true r x q), reset_out p lo r m.0 m.1)) (λ q. rw q))

-- ---- which variables they set
-- The variables that are set, in order.
abbrev pub set_by : List Action → List ℕ
set_by acts = map (λ a. a.variable) acts

-- A variable below the first, or one that is not to be cleared, is not set.
not_cleared : (clear : ℕ → Bool) (from k x : ℕ) → (from ≤ x → clear x ≡ false) → times x (set_by (cleared clear from k)) ≡ 0
unfolding cleared
not_cleared clear from zero x f = refl
not_cleared clear from (suc k) x f =
    let r = not_cleared clear (suc from) k x (λ l. f (omega arith)) in
    by_cases (clear from)
    (λ c. rw (c, ne_eqb x from (λ q. clash c (ap clear (sym q) ∙ f (omega arith)))) r)
    (λ c. rw c r)

cleared_once : (clear : ℕ → Bool) (from k x : ℕ) → times x (set_by (cleared clear from k)) ≤ 1
unfolding cleared
cleared_once clear from zero x = omega arith
cleared_once clear from (suc k) x =
    let r = cleared_once clear (suc from) k x in
    by_cases (clear from)
    (λ c. rw c (by_cases (eqb x from)
    (λ q. rw q (omega (arith, not_cleared clear (suc from) k x (λ l. absurd (omega (arith, eqb-true x from q))))))
    (λ q. rw q r)))
    (λ c. rw c r)

module _ (p : Process) (lo : ℕ) (m : Numbered p lo) where
  -- The actions of an event do to the variables what taking it does to the bits.
  pub performed : (n e i : ℕ) → i < n → (s : Bits) → perform (actions p n e) s i ≡ taking (clears p) s e i
  unfolding actions perform
  performed n e i h s =
      cleared_bit (clears p e) 0 n i (λ j. cond (eqb e j) true (s j)) (omega arith)
      ∙ rw (le-leb 0 i (omega arith)) (by_cases (eqb e i)
      (λ q. rw (q, ← (eqb-true e i q), own_kept p lo m e))
      (λ q. rw q (by_cases (clears p e i) (λ c. rw c) (λ c. rw c))))

  -- No variable is set twice by the actions of an event.
  pub once : (n e x : ℕ) → times x (set_by (actions p n e)) ≤ 1
  unfolding actions
  once n e x =
      by_cases (eqb x e)
      (λ q. rw q (omega (arith, not_cleared (clears p e) 0 n x (λ l. ap (clears p e) (eqb-true x e q) ∙ own_kept p lo m e))))
      (λ q. rw q (cleared_once (clears p e) 0 n x))

-- ---- the lists that it takes
module _ (d : Flow) (k : Keeps d) where
  numbered : Numbered (expand d) 0
  numbered = (expand_laid d k.sizes).numbered

  -- The bits of the diagram's events are those after the events of u.
  abbrev After : List ℕ → Bits → Type 0
  After u s = (i : ℕ) → i < flow_events d → s i ≡ after (expand d) u i

  abbrev MachineTakes : Bits → List ℕ → Type 0
  MachineTakes s w = Takes (flow_events d) (conditions (expand d)) (actions (expand d) (flow_events d)) s w

  guards_after : (u : List ℕ) (s : Bits) (e : ℕ) → After u s → all_hold (conditions (expand d) e) s ≡ enabled (expand d) (after (expand d) u) e
  guards_after u s e a =
      guards_true (expand d) 0 numbered s e ∙ enabled_local (expand d) e (λ i o. a i ((expand_events d k.sizes i).0 o))

  after_next : (u : List ℕ) (s : Bits) (e : ℕ) → After u s → After (u ++ (e ∷ [])) (perform (actions (expand d) (flow_events d) e) s)
  after_next u s e a i h =
      performed (expand d) 0 numbered (flow_events d) e i h s
      ∙ rw (a i h, run_append (clears (expand d)) u (e ∷ []) blank)

  takes_after : (v u : List ℕ) (s : Bits) → After u s → Begins (expand d) u → MachineTakes s v ↔ Begins (expand d) (u ++ v)
  unfolding Takes
  takes_after [] u s a h = (λ t. rw append-nil h, λ b. tt)
  takes_after (e ∷ v) u s a h = (
    λ (l, g, t).
        let i = (next_iff_enabled d k u e h).1 (l, sym (guards_after u s e a) ∙ g) in
        rw append_assoc at ((takes_after v (u ++ (e ∷ [])) (perform (actions (expand d) (flow_events d) e) s) (after_next u s e a) i).0 t),
    λ b.
        let c : Begins (expand d) ((u ++ (e ∷ [])) ++ v) = rw append_assoc b in
        let i = begins_shorter (expand d) (u ++ (e ∷ [])) v c in
        let n = (next_iff_enabled d k u e h).0 i in
        (n.0, guards_after u s e a ∙ n.1, (takes_after v (u ++ (e ∷ [])) (perform (actions (expand d) (flow_events d) e) s) (after_next u s e a) i).1 c),
  )

  -- The machine takes a list of events exactly if it begins a whole run.
  pub takes_iff_begins : (w : List ℕ) → Takes (flow_events d) (conditions (expand d)) (actions (expand d) (flow_events d)) blank w ↔ Begins (expand d) w
  takes_iff_begins w = takes_after w [] blank (λ i h. refl) (begins_nil (expand d))
