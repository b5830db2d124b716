-- `lexer::numeral` meets its contract: by the number of its bytes.
use Rattle.std.proofs.Common.{◌≡◌, ℕ, Some, None, ◌+◌, ◌-◌, ◌<◌, ◌≤◌, cond, List, [], ◌∷◌, length, get_or, sym, ap, ◌∙◌, refl, arith, rules}
use native.Mathlib.Nat.{add-zero}
use Rattle.tokens.specs.Classes.{between}
use Rattle.tokens.specs.Token.{numeral_in}
use Rattle.tokens.proofs.WordKinds.{one_digit, two_digits, no_one, no_longer}
use Rattle.lexer.proofs.numeral.Goals as goal

empty : (w : List ℕ) → length w < 1 → None ≡ numeral_in w
unfolding numeral_in
empty [] h = refl
empty (x ∷ w) h = absurd (omega arith)

one : (w : List ℕ) → 1 ≤ length w → length w < 2 → numeral_in w ≡ cond (between 48 57 (get_or w 0 0)) (Some (get_or w 0 0 - 48 + 0)) None
one [] h l = absurd (omega arith)
one (x ∷ []) h l = rw (add-zero (x - 48)) (one_digit x)
one (x ∷ y ∷ w) h l = absurd (omega arith)

two : (w : List ℕ) → 2 ≤ length w → length w < 3 → w ≡ get_or w 0 0 ∷ get_or w 1 0 ∷ []
two [] h l = absurd (omega arith)
two (x ∷ []) h l = absurd (omega arith)
two (x ∷ y ∷ []) h l = refl
two (x ∷ y ∷ z ∷ w) h l = absurd (omega arith)

pub returns-in-len1 : goal.returns-in-len1
returns-in-len1 c = c.digit.ensures ∙ sym (one _ c.in-len1.len_at_least c.in-len1.len_below)

pub returns-in-49 : goal.returns-in-49
returns-in-49 c =
    let one : get_or c.args.word.now 0 0 ≡ 49 = search rules in
    let e = two _ c.in-49.len_at_least c.in-49.len_below in
    c.digit-in-49.ensures ∙ sym (ap numeral_in e ∙ rw one (two_digits _))

pub returns-in_default : goal.returns-in_default
returns-in_default c = empty _ c.in_default.len_below

pub returns-in_default-2 : goal.returns-in_default-2
returns-in_default-2 c =
    let e = two _ c.in_default.len_at_least c.in_default.len_below in
    sym (ap numeral_in e ∙ no_one _ _ (λ q. search rules))

pub returns-in_default-3 : goal.returns-in_default-3
returns-in_default-3 c = sym (no_longer _ (omega (arith, c.in_default.len_at_least)))
