-- The events of a diagram: every node copy owns an interval of numbers, a reset stands right after its body and clears exactly it, and a
-- number's event is the one at its place in the order.
use mathlib.Core.Path.{◌≡◌, refl, sym, ◌∙◌, subst}
use mathlib.Core.Logic.{◌↔◌}
use mathlib.Core.Bool.{true}
use mathlib.Core.List.{List, []}
use Prim.Native.Nat.{ℕ, ◌+◌, ◌≤◌, ◌<◌}
use native.Mathlib.Nat.{zero-add}
use native.Mathlib.Omega.{arith}
use lib.ListN.{length, get_or}
use Rattle.diagram.specs.Tree.{Flow, Child, Member, inner}
use Rattle.diagram.specs.Count.{flow_events, child_events, member_events}
use Rattle.diagram.specs.Sizes.{flow_sized, child_sized, member_sized}
use Rattle.process.specs.Process.{Event, Process, rounds, owns, event_of, events}
use Rattle.process.specs.Expand.{expand, reset_of, flow_process, child_process, loop_process, member_process}
use Rattle.process.specs.Bodies.{first, Body, Effect}
use Rattle.process.proofs.Numbered.{size, interval, size_events, event_at}
use Rattle.process.proofs.Expanded.{Laid, flow_laid, child_laid, member_laid}
use Rattle.process.proofs.Labels.{flow_marked}
use Rattle.process.proofs.Cleared.{first_lowest, effect, body_once}

abbrev pub OwnsFromTo : Process → ℕ → ℕ → Type 0
OwnsFromTo p lo hi = (x : ℕ) → (owns p x ≡ true) ↔ ((lo ≤ x) × (x < hi))

laid_interval : (p : Process) (lo hi : ℕ) → Laid p lo hi → OwnsFromTo p lo hi
laid_interval p lo hi L x = rw L.end at (interval p lo x L.numbered)

-- The copy of a node for the values `vs`, whose first event is number `e`: its events are a run of numbers from `e` on. As every copy
-- of a node stands in the process with its values and its first event, this is said of every node copy.
module _ (vs : List ℕ) (e : ℕ) where
  pub flow_interval : (f : Flow) → flow_sized f ≡ true → OwnsFromTo (flow_process f vs e) e (e + flow_events f)
  flow_interval f h = laid_interval (flow_process f vs e) e (e + flow_events f) (flow_laid f h vs e)

  pub child_interval : (c : Child) → child_sized c ≡ true → OwnsFromTo (child_process c vs e) e (e + child_events c)
  child_interval c h = laid_interval (child_process c vs e) e (e + child_events c) (child_laid c h vs e)

  pub member_interval : (m : Member) → member_sized m ≡ true → OwnsFromTo (member_process m vs e) e (e + member_events m)
  member_interval m h = laid_interval (member_process m vs e) e (e + member_events m) (member_laid m h vs e)

  -- A loop over a flow: its body's events from the first one on, and right after them its reset.
  pub reset_after_body : (f : Flow) → flow_sized f ≡ true
      → (loop_process (inner f) vs e ≡ rounds (flow_process f vs e) (e + flow_events f) (reset_of f vs))
      × (first (flow_process f vs e) ≡ e) × OwnsFromTo (flow_process f vs e) e (e + flow_events f)
  unfolding loop_process
  reset_after_body f h = (refl, first_lowest (flow_process f vs e) e (flow_laid f h vs e).numbered, flow_interval f h)

module _ (d : Flow) (h : flow_sized d ≡ true) where
  pub expand_laid : Laid (expand d) 0 (flow_events d)
  expand_laid = subst (Laid (expand d) 0) (zero-add (flow_events d)) (flow_laid d h [] 0)

  -- The events of a diagram are the numbers below their count.
  pub expand_events : (x : ℕ) → (owns (expand d) x ≡ true) ↔ (x < flow_events d)
  expand_events x =
      let i = laid_interval (expand d) 0 (flow_events d) expand_laid x in
      (λ k. (i.0 k).1, λ k. i.1 (omega arith))

  pub events_counted : length (events (expand d)) ≡ flow_events d
  events_counted = sym (size_events (expand d)) ∙ (sym (zero-add (size (expand d))) ∙ expand_laid.end)

  -- The event of a number is the one at its place in the order.
  pub event_in_order : (x : ℕ) (l : Event) → x < flow_events d → event_of (expand d) x ≡ get_or (events (expand d)) x l
  event_in_order x l k =
      let e = expand_laid.end in
      rw (zero-add x) at (event_at (expand d) 0 x l expand_laid.numbered (omega arith))

  -- Taking a leaf copy clears nothing; taking a reset clears the bits of the events of its loop's body and no others: those from the
  -- body's first event up to the reset.
  pub event_effect : (x : ℕ) → x < flow_events d → Effect (expand d) x
  event_effect x k = effect (expand d) 0 x expand_laid.numbered (flow_marked d [] 0) ((expand_events x).1 k)

  -- No two loops have one reset.
  pub one_body : (x : ℕ) (a b : Process) → Body (expand d) x a → Body (expand d) x b → a ≡ b
  one_body x a b = body_once (expand d) 0 expand_laid.numbered a b x
