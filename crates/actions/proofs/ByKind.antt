-- The lines of each kind are those of the machine's text.
use mathlib.Core.Path.{◌≡◌, refl, ap, ap₂, sym, ◌∙◌}
use mathlib.Core.Bool.{true, false}
use mathlib.Core.List.{List, [], ◌∷◌, ◌++◌, append_assoc, append-nil}
use Prim.Native.Nat.{ℕ, zero, suc, ◌+◌, ◌-◌, ◌≤◌}
use native.Mathlib.Omega.{arith}
use Rattle.std.proofs.Common.{zero-add}
use Rattle.base.specs.Text.{bytes}
use Rattle.output.specs.Decimal.{decimal}
use Rattle.formulas.specs.Lines.{Naming, labelled, action, action_lines}
use Rattle.formulas.specs.Actions.{becomes}
use Rattle.formulas.specs.Opening.{variable_lines, invariant_lines, cleared_all, opening_lines}
use Rattle.actions.specs.declared.Kind.{Kind}
use Rattle.actions.specs.declared.Kind.TheVariants.{Named, Typed, Set, Cleared}
use Rattle.actions.specs.code.Written.{line, lines, declarations}

-- ---- one line
-- A label and a number, and then what they label, with the line's end.
labelled_line : (label name rest : List ℕ) (k : ℕ) → (label ++ (decimal k ++ bytes " ")) ++ (name ++ (rest ++ bytes "\n")) ≡ labelled label k (name ++ rest)
labelled_line label name rest k =
    append_assoc label (decimal k ++ bytes " ") _
    ∙ ap (λ (l : List ℕ). label ++ l)
    (append_assoc (decimal k) (bytes " ") _
    ∙ ap (λ (l : List ℕ). decimal k ++ (bytes " " ++ l)) (sym (append_assoc name rest (bytes "\n"))))

module _ (v : Naming) (k n : ℕ) where
  typed_line : line v Typed k n ≡ labelled (bytes "@inv_") k (v n ++ bytes " : BOOL")
  typed_line = labelled_line (bytes "@inv_") (v n) (bytes " : BOOL") k

  set_line : line v Set k n ≡ labelled (bytes "@act_") k (action v (becomes n true))
  set_line = labelled_line (bytes "@act_") (v n) (bytes " := TRUE") k

  cleared_line : line v Cleared k n ≡ labelled (bytes "@act_") k (action v (becomes n false))
  cleared_line = labelled_line (bytes "@act_") (v n) (bytes " := FALSE") k

-- ---- one after the other
module _ (v : Naming) where
  named_lines : (k from n : ℕ) → lines v Named k from n ≡ variable_lines v from n
  unfolding lines variable_lines
  named_lines k from zero = refl
  named_lines k from (suc n) = ap (λ (l : List ℕ). (v from ++ bytes "\n") ++ l) (named_lines (suc k) (suc from) n)

  typed_lines : (k from n : ℕ) → lines v Typed k from n ≡ invariant_lines v k from n
  unfolding lines invariant_lines
  typed_lines k from zero = refl
  typed_lines k from (suc n) = ap₂ (λ (l m : List ℕ). l ++ m) (typed_line v k from) (typed_lines (suc k) (suc from) n)

  cleared_lines : (k from n : ℕ) → lines v Cleared k from n ≡ action_lines v k (cleared_all from n)
  unfolding lines action_lines cleared_all
  cleared_lines k from zero = refl
  cleared_lines k from (suc n) = ap₂ (λ (l m : List ℕ). l ++ m) (cleared_line v k from) (cleared_lines (suc k) (suc from) n)

  -- An event's actions.
  pub event_actions : (e from n : ℕ) → action_lines v 1 (becomes e true ∷ cleared_all from n) ≡ line v Set 1 e ++ lines v Cleared 2 from n
  unfolding action_lines
  event_actions e from n = sym (ap₂ (λ (l m : List ℕ). l ++ m) (set_line v 1 e) (cleared_lines 2 from n))

  -- A machine up to its first event.
  pub opened : (name : List ℕ) (n : ℕ)
      → opening_lines v name n ≡ declarations v name n ++ (bytes "events\nevent INITIALISATION\nthen\n" ++ (lines v Cleared 1 0 n ++ bytes "end\n"))
  unfolding opening_lines
  opened name n =
      rw (named_lines 0 0 n, typed_lines 1 0 n, cleared_lines 1 0 n)
      (sym (ap (λ (l : List ℕ). bytes "machine " ++ l)
      (append_assoc name _ _
      ∙ ap (λ (l : List ℕ). name ++ (bytes "\nvariables\n" ++ l))
      (append_assoc (variable_lines v 0 n) _ _))))

-- ---- as the code goes, from event `from` to event i
module _ (v : Naming) (kind : Kind) where
  -- The last of n + 1 lines.
  last_line : (k from n : ℕ) → lines v kind k from (suc n) ≡ lines v kind k from n ++ line v kind (n + k) (n + from)
  unfolding lines
  last_line k from zero = rw (zero-add k, zero-add from) (append-nil (line v kind k from))
  last_line k from (suc n) =
      let a : n + suc k ≡ suc n + k = omega arith in
      let b : n + suc from ≡ suc n + from = omega arith in
      ap (λ (l : List ℕ). line v kind k from ++ l) (rw (a, b) at (last_line (suc k) (suc from) n)) ∙ sym (append_assoc (line v kind k from) _ _)

  pub lines_none : (k from : ℕ) → lines v kind k from (from - from) ≡ []
  unfolding lines
  lines_none k from = let e : from - from ≡ 0 = omega arith in rw e

  pub lines_more : (k from i : ℕ) → from ≤ i → lines v kind k from (i + 1 - from) ≡ lines v kind k from (i - from) ++ line v kind (i - from + k) i
  lines_more k from i h =
      let e : i + 1 - from ≡ suc (i - from) = omega arith in
      let f : i - from + from ≡ i = omega arith in
      rw e (rw f at (last_line k from (i - from)))
