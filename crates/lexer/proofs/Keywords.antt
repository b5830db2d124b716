-- The place of a word among the keywords, found by comparing words. Assumes nothing.
use Rattle.std.proofs.Common.{◌≡◌, ℕ, suc, ◌+◌, ◌<◌, not, Option, List, [], ◌∷◌, map, length, position, Some, None, cond, ltb, refl, ap, ◌∙◌, arith, tests}
use Rattle.std.specs.List.{position_or_len}
use Rattle.base.proofs.Truth.{by_cases}
use Rattle.diagram.specs.Tree.{Name}
use Rattle.diagram.specs.Names.{same}
use Rattle.tokens.specs.Words.{place_in}

-- The place of the first that is a word, by what each is.
module _ {A : Type 0} (f : A → Name) (w : Name) where
  first_same : (xs : List A)
      → (position_or_len (λ x. same w (f x)) xs ≡ position_or_len (same w) (map f xs)) × (length xs ≡ length (map f xs))
  first_same [] = (refl, refl)
  first_same (x ∷ xs) =
      let h = first_same xs in
      (ap (λ (n : ℕ). cond (not (same w (f x))) (1 + n) 0) h.0, ap suc h.1)

  pub first_alike : {r xs : List A} → r ≡ xs → (ns : List Name) → map f xs ≡ ns → position (λ x. same w (f x)) xs ≡ position (same w) ns
  first_alike {xs = xs} s ns q = let h = first_same xs in rw (← q, h.0, h.1) refl

module _ (w : Name) where
  abbrev place : List Name → ℕ
  place = position_or_len (same w)

  placed : (ns : List Name) (k none : ℕ) → place_in ns k none w ≡ cond (ltb (place ns) (length ns)) (k + place ns) none
  placed [] k none = refl
  placed (n ∷ ns) k none =
      by_cases (same w n) (λ e. rw e (grind (arith, tests))) (λ e. rw e (placed ns (suc k) none ∙ grind (arith, tests)))

  -- A word that is found is that many after the first; one that is not found is none of them.
  pub found_at : (ns : List Name) (k none i : ℕ) → Some i ≡ position (same w) ns → (i < length ns) × (k + i ≡ place_in ns k none w)
  found_at ns k none i e = grind (arith, tests, placed ns k none)

  pub not_found : (ns : List Name) (k none : ℕ) → ◌≡◌ {A = Option ℕ} None (position (same w) ns) → place_in ns k none w ≡ none
  not_found ns k none e = grind (arith, tests, placed ns k none)
