-- Whether a search finds nothing, as a test, and what that comes to part by part of a tree.
use Rattle.std.specs.Prelude.{Option, Some, None}
use mathlib.Core.Path.{◌≡◌, refl, sym, ◌∙◌, ap}
use mathlib.Core.Logic.{◌↔◌}
use mathlib.Core.Bool.{Bool, true, false, false≢true, ◌&&◌, and-true, and_assoc, cond}
use mathlib.Core.List.{List, [], ◌∷◌}
use Prim.Native.Nat.{ℕ}
use Rattle.diagram.specs.TreeNodes.{TreeNode}
use Rattle.rules.specs.Broken.{first_broken}

abbrev pub clean : Option ℕ → Bool
clean (Some i) = false
clean None = true

pub clean_cond : (t : Bool) (x : Option ℕ) (i : ℕ) → clean (cond t x (Some i)) ≡ (t && clean x)
clean_cond true x i = refl
clean_cond false x i = refl

clean_nothing : (x : Option ℕ) → clean x ≡ true → x ≡ None
clean_nothing (Some i) e = absurd (false≢true e)
clean_nothing None e = refl

pub clean_iff : (x : Option ℕ) (b : Bool) → clean x ≡ b → (x ≡ None) ↔ (b ≡ true)
clean_iff x b e = (λ h. sym e ∙ ap clean h, λ h. clean_nothing x (e ∙ h))

module _ (fit : TreeNode → Bool) where
  -- The nodes that p puts first all pass just where `ok` is true, whatever comes after them.
  pub record Passes (p : List TreeNode → List TreeNode) (ok : Bool) : Type 0 where
    pub law : (vs : List TreeNode) → clean (first_broken fit (p vs)) ≡ (ok && clean (first_broken fit vs))

  pub passes_none : Passes (λ vs. vs) true
  passes_none = record { law = λ vs. refl }

  pub passes_then : {p q : List TreeNode → List TreeNode} {a b : Bool} → Passes p a → Passes q b → Passes (λ vs. p (q vs)) (a && b)
  passes_then {q = q} {a = a} {b = b} x y = record {
    law = λ vs. x.law (q vs) ∙ (rw (y.law vs) (sym (and_assoc a b (clean (first_broken fit vs)))));
  }

  pub passes_node : (h : TreeNode) {ok : Bool} → fit h ≡ ok → Passes (λ vs. h ∷ vs) ok
  unfolding first_broken
  passes_node h e = record { law = λ vs. clean_cond (fit h) (first_broken fit vs) h.own.number ∙ rw e }

  pub passes_iff : {p : List TreeNode → List TreeNode} {ok : Bool} → Passes p ok → (first_broken fit (p []) ≡ None) ↔ (ok ≡ true)
  unfolding first_broken
  passes_iff {p} {ok} x = clean_iff (first_broken fit (p [])) ok (x.law [] ∙ and-true ok)
