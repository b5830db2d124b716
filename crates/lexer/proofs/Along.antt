-- The loops over tokens: the first that fails a test, with no record of the code. Assumes nothing.
use mathlib.Core.Path.{◌≡◌, refl, sym, ap, ◌∙◌}
use mathlib.Core.Bool.{Bool, true, false}
use mathlib.Core.List.{List, [], ◌∷◌}
use Prim.Native.Nat.{ℕ, ◌+◌, ◌-◌, ◌≤◌, ◌<◌}
use native.Mathlib.Omega.{arith}
use lib.ListN.{length, take, drop, get_or}
use lib.Dec.{eqb, ltb, leb}
use borrow.Author.Tests.{le-ltb, lt-ltb, leb-true, leb-false, eqb-true, eqb-false}
use Rattle.base.proofs.Truth.{by_cases, is_false}
use Rattle.tokens.specs.Classes.{between, foreign}
use Rattle.tokens.proofs.Between.{in_range}
use Rattle.tokens.specs.Remarks.{blanks}
use Rattle.tokens.specs.Spans.{Span, width, spans_of}
use Rattle.tokens.specs.Rest.{rest}
use Rattle.tokens.specs.Scanned.{foreign_in, first_long}
use Rattle.tokens.proofs.Steps.{rest_start, rest_end, rest_skip, rest_token}
use Rattle.tokens.proofs.WordKinds.{part_length, first_byte}
use Rattle.lexer.specs.First.{first_by}
use Rattle.lexer.proofs.Ways.{end_after}

-- What f finds in all tokens is what it finds in those from `at` on, and a token stands there, or the text ends.
abbrev pub SoFar : (List Span → ℕ) → List ℕ → ℕ → Type 0
SoFar f text at = (blanks (drop at text) ≡ 0) × (f (spans_of text) ≡ f (rest text at))

abbrev pub span_at : List ℕ → ℕ → ℕ → Span
span_at text at e = record { place = at; bytes = take (e - at) (drop at text) }

module _ (f : List Span → ℕ) (text : List ℕ) where
  so_start : (i : ℕ) → i ≡ 0 + blanks (drop 0 text) → SoFar f text i
  so_start i e = let s = rest_skip text 0 i e in (s.0, ap f (rest_start text ∙ s.1))

  so_end : (at : ℕ) → SoFar f text at → length text ≤ at → f [] ≡ f (spans_of text)
  so_end at so h = sym (so.1 ∙ ap f (rest_end text at h))

  module _ (at e : ℕ) (so : SoFar f text at) (h : at < length text) (E : e ≡ at + width (drop at text)) where
    so_here : f (spans_of text) ≡ f (span_at text at e ∷ rest text e)
    so_here = so.1 ∙ ap f (rest_token text at e h so.0 E)

    so_on : (i : ℕ) → f (span_at text at e ∷ rest text e) ≡ f (rest text e) → i ≡ e + blanks (drop e text) → SoFar f text i
    so_on i q I = let s = rest_skip text e i I in (s.0, so_here ∙ q ∙ ap f s.1)

-- The first that passes a test.
module _ (t : ℕ → ℕ → Bool) (text : List ℕ) where
  abbrev pub passing : List Span → ℕ
  passing ss = first_by t ss (length text)

  pub first_start : (i : ℕ) → i ≡ 0 + blanks (drop 0 text) → SoFar passing text i
  first_start i e = so_start passing text i e

  pub first_none : (at : ℕ) → SoFar passing text at → length text ≤ at → length text ≡ first_by t (spans_of text) (length text)
  unfolding first_by
  first_none at so h = so_end passing text at so h

  module _ (at e : ℕ) (so : SoFar passing text at) (h : at < length text) (E : e ≡ at + width (drop at text)) where
    tested : {b : Bool} → t (get_or text at 0) (e - at) ≡ b
        → t (get_or (take (e - at) (drop at text)) 0 0) (length (take (e - at) (drop at text))) ≡ b
    tested q = let a = end_after text at e h E in rw (first_byte text at e a.1 a.0, part_length text at e a.1) q

    pub first_here : t (get_or text at 0) (e - at) ≡ true → at ≡ first_by t (spans_of text) (length text)
    unfolding first_by
    first_here q = sym (so_here passing text at e so h E ∙ rw (tested q))

    pub first_again : (i : ℕ) → t (get_or text at 0) (e - at) ≡ false → i ≡ e + blanks (drop e text) → SoFar passing text i
    unfolding first_by
    first_again i q I = so_on passing text at e so h E i (rw (tested q)) I

-- A foreign byte, and a long token.
pub foreign_zero : (c : ℕ) → eqb c 0 ≡ between 0 0 c
foreign_zero c =
    by_cases (eqb c 0) (λ q. rw (eqb-true c 0 q)) (λ q.
    let ne = eqb-false c 0 q in
    rw (q, is_false (between 0 0 c) (λ z. let r = in_range 0 0 c z in ne (omega arith))))

pub foreign_first : (ss : List Span) (n : ℕ) → first_by (λ b k. foreign b) ss n ≡ foreign_in ss n
unfolding first_by foreign_in
foreign_first [] n = refl
foreign_first (s ∷ ss) n = rw (foreign_first ss n)

pub long_first : (ss : List Span) (n : ℕ) → first_by (λ b k. ltb 24 k) ss n ≡ first_long ss n
unfolding first_by first_long
long_first [] n = refl
long_first (s ∷ ss) n =
    by_cases (leb (length s.bytes) 24) (λ q. rw (q, le-ltb 24 (length s.bytes) (leb-true (length s.bytes) 24 q)) (long_first ss n))
    (λ q. rw (q, lt-ltb 24 (length s.bytes) (leb-false (length s.bytes) 24 q)))
