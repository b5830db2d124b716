-- What the rules answer for the nodes of a tree, by the tree.
use mathlib.Core.Path.{◌≡◌, sym, ◌∙◌}
use mathlib.Core.Logic.{◌⊎◌, inl, inr, ⊎_elim}
use mathlib.Core.Bool.{or-true, ◌||◌, cond}
use mathlib.Core.List.{List, []}
use Prim.Native.Nat.{ℕ, ◌≤◌, ◌<◌}
use native.Mathlib.Omega.{arith}
use lib.Dec.{ltb}
use borrow.Author.Tests.{lt-ltb, le-ltb, ltb-true, ltb-false}
use Rattle.std.specs.Prelude.{Option, Ok, Err}
use Rattle.base.specs.Refusals.{refusal}
use Rattle.base.specs.declared.Reason.{Reason}
use Rattle.diagram.specs.Tree.{Flow}
use Rattle.diagram.specs.Count.{flow_copies, flow_events}
use Rattle.diagram.specs.TreeNodes.{own, nodes_by}
use Rattle.base.proofs.Truth.{cases}
use Rattle.grammar.specs.Keys.{keyword_at, name_at}
use Rattle.rules.specs.Counted.{capped}
use Rattle.rules.specs.Judged.{Verdict, refuse, counted, verdict}
use Rattle.rules.specs.Broken.{first_twice, parameters_fit, solids_fit, strongs_fit, first_broken}
use Rattle.rules.proofs.NamesPlaced.{names_placed}
use Rattle.rules.proofs.ParametersPlaced.{parameters_placed}
use Rattle.rules.proofs.SolidsPlaced.{solids_placed}
use Rattle.rules.proofs.StrongsPlaced.{strongs_placed}
use Rattle.rules.proofs.Totals.{copies_counted, events_counted}

-- Where each rule is broken first.
abbrev pub twice : Flow → Option ℕ
twice d = first_twice [] (nodes_by (λ h. h) d)

abbrev pub misplaced : Flow → Option ℕ
misplaced d = first_broken parameters_fit (nodes_by (λ h. h) d)

abbrev pub unsolid : Flow → Option ℕ
unsolid d = first_broken solids_fit (nodes_by (λ h. h) d)

abbrev pub weak : Flow → Option ℕ
weak d = first_broken strongs_fit (nodes_by (λ h. h) d)

abbrev pub tree_verdict : List ℕ → Flow → Verdict
tree_verdict text d =
    refuse Reason.Name (name_at text) (twice d)
    (refuse Reason.Parameter (keyword_at text) (misplaced d)
    (refuse Reason.Solid (keyword_at text) (unsolid d)
    (refuse Reason.Weak (keyword_at text) (weak d) (counted (capped (flow_copies d)) (capped (flow_events d))))))

pub tree_judged : (text : List ℕ) (d : Flow) → verdict text (nodes_by own d) ≡ tree_verdict text d
unfolding verdict
tree_judged text d =
    rw (names_placed d, parameters_placed d, solids_placed d, strongs_placed d, copies_counted d, events_counted d)

-- A count over the cap is over every limit up to it.
capped_over : (k n : ℕ) → k ≤ 768 → ltb k (capped n) ≡ ltb k n
capped_over k n h = ⊎_elim (λ e. let l = ltb-true 768 n e in rw e (lt-ltb k 769 (omega arith) ∙ sym (lt-ltb k n (omega arith)))) (λ e. rw e) (cases (ltb 768 n))

capped_small : (n : ℕ) → n ≤ 768 → capped n ≡ n
capped_small n h = rw (le-ltb 768 n h)

abbrev pub kept : ℕ → ℕ → Verdict
kept x y = Ok (record { copies = x; events = y })

abbrev many : Verdict
many = Err (refusal Reason.Count 0)

-- The limits of number 11.
pub counted_few : (x y : ℕ) → x ≤ 768 → y ≤ 512 → counted (capped x) (capped y) ≡ kept x y
counted_few x y h k = rw (capped_small x h, capped_small y (omega arith), le-ltb 768 x h, le-ltb 512 y k)

pub counted_many : (x y : ℕ) → (768 < x) ⊎ (512 < y) → counted (capped x) (capped y) ≡ many
counted_many x y h = rw (capped_over 768 x (omega arith), capped_over 512 y (omega arith)) (over h)
  where
    over : (768 < x) ⊎ (512 < y) → cond (ltb 768 x || ltb 512 y) many (kept (capped x) (capped y)) ≡ many
    over (inl l) = rw (lt-ltb 768 x l)
    over (inr l) = rw (lt-ltb 512 y l, or-true (ltb 768 x))

-- Which of the two holds.
pub few_or_many : (x y : ℕ) → ((x ≤ 768) × (y ≤ 512)) ⊎ ((768 < x) ⊎ (512 < y))
few_or_many x y =
    ⊎_elim (λ e. inr (inl (ltb-true 768 x e)))
    (λ e. ⊎_elim (λ q. inr (inr (ltb-true 512 y q))) (λ q. inl (ltb-false 768 x e, ltb-false 512 y q)) (cases (ltb 512 y)))
    (cases (ltb 768 x))
