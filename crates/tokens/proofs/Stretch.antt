-- Laws of `stretch`, by places of a text: how many bytes from a place on pass a test.
use mathlib.Core.Path.{◌≡◌, refl, sym, ap, ◌∙◌}
use mathlib.Core.Bool.{Bool, true, false, cond}
use mathlib.Core.List.{List, [], ◌∷◌}
use Prim.Native.Nat.{ℕ, suc, ◌+◌, ◌≤◌, ◌<◌}
use native.Mathlib.Nat.{add-zero, add-suc, suc-add}
use native.Mathlib.Numerals.{add-one}
use native.Mathlib.Omega.{arith}
use lib.ListN.{length, drop, get_or, drop_of_length-le}
use lib.Seq.{drop-cons}
use Rattle.tokens.specs.Remarks.{opened, stretch}

cond_le : (b : Bool) (n m : ℕ) → n ≤ m → cond b (suc n) 0 ≤ suc m
cond_le true n m h = omega arith
cond_le false n m h = omega arith

either : (v : Bool) (f : Bool → ℕ) → cond v (f true) (f false) ≡ f v
either true f = refl
either false f = refl

-- One byte, and then those after it.
pub stretch_cons : (t : Bool → ℕ → Bool) (o : Bool) (b : ℕ) (bs : List ℕ)
    → stretch t o (b ∷ bs) ≡ cond (t o b) (suc (stretch t (opened o b) bs)) 0
unfolding stretch
stretch_cons t o b bs = ap (λ (n : ℕ). cond (t o b) (suc n) 0) (either (opened o b) (λ p. stretch t p bs))

pub stretch_nil : (t : Bool → ℕ → Bool) (o : Bool) → stretch t o [] ≡ 0
unfolding stretch
stretch_nil t o = refl

module _ (t : Bool → ℕ → Bool) where
  pub stretch_le : (o : Bool) (bs : List ℕ) → stretch t o bs ≤ length bs
  stretch_le o [] = rw (stretch_nil t o) (omega arith)
  stretch_le o (b ∷ bs) = rw (stretch_cons t o b bs) (cond_le (t o b) (stretch t (opened o b) bs) (length bs) (stretch_le (opened o b) bs))

  module _ (o : Bool) (text : List ℕ) (at : ℕ) where
    pub stretch_end : length text ≤ at → at + stretch t o (drop at text) ≡ at
    stretch_end h = rw (drop_of_length-le text h, stretch_nil t o) (add-zero at)

    module _ (h : at < length text) where
      pub stretch_stop : t o (get_or text at 0) ≡ false → at + stretch t o (drop at text) ≡ at
      stretch_stop e = rw (drop-cons text at 0 h, stretch_cons t o (get_or text at 0) (drop (suc at) text), e) (add-zero at)

      pub stretch_more : t o (get_or text at 0) ≡ true
          → at + stretch t o (drop at text) ≡ at + 1 + stretch t (opened o (get_or text at 0)) (drop (at + 1) text)
      stretch_more e =
          rw (drop-cons text at 0 h, stretch_cons t o (get_or text at 0) (drop (suc at) text), e, add-one at) (add-suc _ _ ∙ sym (suc-add _ _))
