-- What a token is by the class of its first byte, and where it ends. Assumes nothing.
use mathlib.Core.Path.{◌≡◌, refl}
use mathlib.Core.Bool.{Bool, true, false, cond}
use mathlib.Core.List.{List, [], ◌∷◌}
use Prim.Native.Nat.{ℕ, suc, ◌+◌, ◌-◌, ◌≤◌, ◌<◌, max}
use native.Mathlib.Omega.{arith}
use Rattle.std.proofs.Common.{⊎_elim, Some}
use Rattle.std.proofs.lemmas.Bool.{cases_lt}
use lib.ListN.{length, drop, get_or, length-drop}
use Rattle.diagram.specs.Tree.{Name}
use Rattle.tokens.specs.Classes.{between, class_of, worded}
use Rattle.tokens.specs.Remarks.{blanks}
use Rattle.tokens.specs.Words.{front, keywords}
use Rattle.tokens.specs.Token.{word_token, token_of}
use Rattle.tokens.specs.Kinds.{kind, token_kind}
use Rattle.tokens.specs.Spans.{width}
use Rattle.tokens.proofs.Between.{between_in, between_high}
use Rattle.tokens.proofs.WordKinds.{byte_kind}
use Rattle.tokens.proofs.Steps.{width_some, width_le}

-- A token whose first byte has the class c.
module _ (w : Name) {b c : ℕ} (B : b ≡ get_or w 0 0) (C : c ≡ class_of b) where
  pub a_sign : between 5 7 c ≡ false → byte_kind c ≡ token_kind w
  unfolding token_kind token_of
  a_sign f = rw (← B, ← C, f)

  pub a_word : 5 ≤ c → c ≤ 7 → token_kind w ≡ Some (kind (word_token keywords w))
  unfolding token_kind token_of
  a_word l u = rw (← B, ← C, between_in 5 7 c l u, between_high 0 0 c (omega arith))

-- Where a token ends: after a byte at least, and within the text.
pub end_after : (text : List ℕ) (at e : ℕ) → at < length text → e ≡ at + width (drop at text) → (at < e) × (e ≤ length text)
end_after text at e h E =
    let l : 0 < length (drop at text) = rw (length-drop at text) (omega arith) in
    let w = width_some (drop at text) l in
    (omega arith, omega (arith, width_le (drop at text), length-drop at text))

-- A loop over tokens goes on: less is left of the text.
pub less_left : (text : List ℕ) (at e i : ℕ) → at < length text → e ≡ at + width (drop at text) → i ≡ e + blanks (drop e text)
    → length text - i < length text - at
less_left text at e i h E I = let a = end_after text at e h E in omega arith

-- How wide the token at the front of a list is, by the run of a word there.
width_if : (v : Bool) (n : ℕ) → 0 < cond v (suc n) 0 → cond v (cond v (suc n) 0) 1 ≡ cond v (suc n) 0
width_if true n h = refl
width_if false n h = let z : ⊥ = omega arith in absurd z

pub width_word : (l : List ℕ) → 0 < front worded l → width l ≡ front worded l
unfolding width front
width_word [] h = refl
width_word (b ∷ bs) h = width_if (worded b) (front worded bs) h

one_if : (v : Bool) (n : ℕ) → cond v (suc n) 0 ≤ 0 → cond v (cond v (suc n) 0) 1 ≡ 1
one_if true n h = let z : ⊥ = omega arith in absurd z
one_if false n h = refl

pub width_sign : (l : List ℕ) → 0 < length l → front worded l ≤ 0 → width l ≡ 1
unfolding width front
width_sign [] h q = let z : ⊥ = omega arith in absurd z
width_sign (b ∷ bs) h q = one_if (worded b) (front worded bs) q

module _ (text : List ℕ) (at e : ℕ) (E : e ≡ at + front worded (drop at text)) where
  pub ends_word : at < e → e ≡ at + width (drop at text)
  ends_word h = let f : 0 < front worded (drop at text) = omega arith in rw (width_word (drop at text) f) E

  pub ends_sign : at < length text → e ≤ at → at + 1 ≡ at + width (drop at text)
  ends_sign h q =
      let f : front worded (drop at text) ≤ 0 = omega arith in
      let l : 0 < length (drop at text) = rw (length-drop at text) (omega arith) in
      rw (width_sign (drop at text) l f)

  pub ends_token : (m : ℕ) → at < length text → m ≡ max e (at + 1) → m ≡ at + width (drop at text)
  ends_token m h M = ⊎_elim (λ l. omega (arith, ends_word l)) (λ l. omega (arith, ends_sign h l)) (cases_lt at e)
