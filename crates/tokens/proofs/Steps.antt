-- The tokens of a text one after the other. `rest text at`, those that stand at `at` or after it, do not depend on the number that bounds
-- `spans`, blanks before them make no difference, and where a token stands it is the first of them.
use mathlib.Core.Path.{◌≡◌, refl, sym, ap, ◌∙◌}
use mathlib.Core.Bool.{Bool, true, false, cond}
use mathlib.Core.List.{List, [], ◌∷◌}
use Prim.Native.Nat.{ℕ, zero, suc, ◌+◌, ◌-◌, ◌≤◌, ◌<◌}
use native.Mathlib.Nat.{add-zero, sub-zero, sub-eq-zero_of_le}
use native.Mathlib.Omega.{arith}
use lib.ListN.{length, take, drop, length-drop}
use lib.Seq.{drop-drop}
use Rattle.tokens.specs.Classes.{worded}
use Rattle.tokens.specs.Remarks.{stretch, blanks}
use Rattle.tokens.specs.Words.{front}
use Rattle.tokens.specs.Spans.{Span, width, cut, spans, spans_of}
use Rattle.tokens.specs.Rest.{rest}
use Rattle.tokens.proofs.Front.{front_le}
use Rattle.tokens.proofs.Remarks.{blanks_again}

wide_if : (v : Bool) (n : ℕ) → 0 < cond v (cond v (suc n) 0) 1
wide_if true n = omega arith
wide_if false n = omega arith

-- A token has a byte at least, and no more than there are.
pub width_some : (l : List ℕ) → 0 < length l → 0 < width l
unfolding width front
width_some [] h = let z : ⊥ = omega arith in absurd z
width_some (b ∷ bs) h = wide_if (worded b) (front worded bs)

narrow_if : (v : Bool) (n m : ℕ) → n ≤ suc m → cond v n 1 ≤ suc m
narrow_if true n m h = h
narrow_if false n m h = omega arith

pub width_le : (l : List ℕ) → width l ≤ length l
unfolding width
width_le [] = omega arith
width_le (b ∷ bs) = narrow_if (worded b) (front worded (b ∷ bs)) (length bs) (front_le worded (b ∷ bs))

cut_same : (r s : ℕ → List ℕ → List Span) (at : ℕ) (l : List ℕ) → ((p : ℕ) (m : List ℕ) → length m < length l → r p m ≡ s p m) → cut r at l ≡ cut s at l
cut_same r s at [] h = refl
cut_same r s at (b ∷ bs) h =
    let w = width_some (b ∷ bs) (omega arith) in
    rw (h (at + width (b ∷ bs)) (drop (width (b ∷ bs)) (b ∷ bs)) (rw (length-drop (width (b ∷ bs)) (b ∷ bs)) (omega arith)))

rest_le : (l : List ℕ) → length (drop (blanks l) l) ≤ length l
rest_le l = rw (length-drop (blanks l) l) (omega arith)

-- Any bound that is no less than the bytes left gives the same tokens.
pub spans_bound : (f g : ℕ) (at : ℕ) (l : List ℕ) → length l ≤ f → length l ≤ g → spans f at l ≡ spans g at l
unfolding spans stretch
spans_bound zero zero at l h k = refl
spans_bound zero (suc g) at [] h k = refl
spans_bound zero (suc g) at (b ∷ l) h k = let z : ⊥ = omega arith in absurd z
spans_bound (suc f) zero at [] h k = refl
spans_bound (suc f) zero at (b ∷ l) h k = let z : ⊥ = omega arith in absurd z
spans_bound (suc f) (suc g) at l h k =
    cut_same (λ at bs. spans f at bs) (λ at bs. spans g at bs) (at + blanks l) (drop (blanks l) l) (λ p m q.
    let e = rest_le l in
    spans_bound f g p m (omega arith) (omega arith))

pub rest_start : (text : List ℕ) → spans_of text ≡ rest text 0
unfolding rest spans_of
rest_start text = rw (sub-zero (length text))

pub rest_end : (text : List ℕ) (at : ℕ) → length text ≤ at → rest text at ≡ []
unfolding rest spans
rest_end text at h = rw (sub-eq-zero_of_le h)

rest_bound : (f : ℕ) (text : List ℕ) (at : ℕ) → length text - at ≤ f → spans f at (drop at text) ≡ rest text at
unfolding rest
rest_bound f text at h = spans_bound f (length text - at) at (drop at text) (rw (length-drop at text) h) (rw (length-drop at text) (omega arith))

rest_cut : (text : List ℕ) (at : ℕ)
    → rest text at ≡ cut (λ p m. spans (length text) p m) (at + blanks (drop at text)) (drop (at + blanks (drop at text)) text)
unfolding spans
rest_cut text at = rw (← drop-drop (blanks (drop at text)) at text) (sym (rest_bound (suc (length text)) text at (omega arith)))

-- Blanks make no difference.
pub rest_skip : (text : List ℕ) (at i : ℕ) → i ≡ at + blanks (drop at text) → (blanks (drop i text) ≡ 0) × (rest text at ≡ rest text i)
rest_skip text at i e =
    let z : blanks (drop i text) ≡ 0 = rw e (blanks_again text at) in
    (z, rest_cut text at ∙ rw (← e, rest_cut text i, z, add-zero i))

cut_some : (r : ℕ → List ℕ → List Span) (at : ℕ) (l : List ℕ) → 0 < length l
    → cut r at l ≡ record { place = at; bytes = take (width l) l } ∷ r (at + width l) (drop (width l) l)
cut_some r at [] h = let z : ⊥ = omega arith in absurd z
cut_some r at (b ∷ bs) h = refl

-- Where no blank stands, and anything is left, a token stands and then those after it. `e` is its end.
pub rest_token : (text : List ℕ) (at e : ℕ) → at < length text → blanks (drop at text) ≡ 0 → e ≡ at + width (drop at text)
    → rest text at ≡ record { place = at; bytes = take (e - at) (drop at text) } ∷ rest text e
rest_token text at e h z E =
    let l : 0 < length (drop at text) = rw (length-drop at text) (omega arith) in
    let n : e - at ≡ width (drop at text) = omega arith in
    rest_cut text at
    ∙ rw (z, add-zero at, cut_some (λ p m. spans (length text) p m) at (drop at text) l, n, drop-drop (width (drop at text)) at text, ← E)
    (ap {B = List Span} (λ ss. record { place = at; bytes = take (width (drop at text)) (drop at text) } ∷ ss) (rest_bound (length text) text e (omega arith)))
