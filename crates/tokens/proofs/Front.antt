-- Laws of `front`, by places of a text, which the proofs of `past` and the token laws cite: it is a stretch whose test looks at no remark.
use mathlib.Core.Path.{◌≡◌, refl, sym, ap}
use mathlib.Core.Bool.{Bool, true, false, cond}
use mathlib.Core.List.{List, [], ◌∷◌}
use Prim.Native.Nat.{ℕ, suc, ◌+◌, ◌≤◌, ◌<◌}
use native.Mathlib.Omega.{arith}
use lib.ListN.{length, take, drop, get_or}
use Rattle.base.proofs.Truth.{by_cases, is_false}
use Rattle.tokens.specs.Remarks.{opened, stretch}
use Rattle.tokens.specs.Words.{front, every}
use Rattle.tokens.proofs.Stretch.{stretch_nil, stretch_cons, stretch_le, stretch_end, stretch_stop, stretch_more}

abbrev alone : (ℕ → Bool) → Bool → ℕ → Bool
alone t o b = t b

as_stretch : (t : ℕ → Bool) (o : Bool) (bs : List ℕ) → front t bs ≡ stretch (alone t) o bs
unfolding front
as_stretch t o [] = sym (stretch_nil (alone t) o)
as_stretch t o (b ∷ bs) = rw (stretch_cons (alone t) o b bs) (ap (λ (n : ℕ). cond (t b) (suc n) 0) (as_stretch t (opened o b) bs))

module _ (t : ℕ → Bool) where
  pub front_le : (bs : List ℕ) → front t bs ≤ length bs
  front_le bs = rw (as_stretch t false bs) (stretch_le (alone t) false bs)

  module _ (text : List ℕ) (at : ℕ) where
    pub front_end : length text ≤ at → at + front t (drop at text) ≡ at
    front_end h = rw (as_stretch t false (drop at text)) (stretch_end (alone t) false text at h)

    module _ (h : at < length text) where
      pub front_stop : t (get_or text at 0) ≡ false → at + front t (drop at text) ≡ at
      front_stop e = rw (as_stretch t false (drop at text)) (stretch_stop (alone t) false text at h e)

      pub front_more : t (get_or text at 0) ≡ true → at + front t (drop at text) ≡ at + 1 + front t (drop (at + 1) text)
      front_more e =
          let o = opened false (get_or text at 0) in
          rw (as_stretch t false (drop at text), as_stretch t o (drop (at + 1) text)) (stretch_more (alone t) false text at h e)

  -- Each byte of the front passes.
  within_front : (b : ℕ) (bs : List ℕ) (v : Bool) → t b ≡ v → every t (take (front t bs) bs) ≡ true
      → every t (take (cond v (suc (front t bs)) 0) (b ∷ bs)) ≡ true
  within_front b bs true e h = rw e h
  within_front b bs false e h = refl

  pub front_every : (bs : List ℕ) → every t (take (front t bs) bs) ≡ true
  unfolding front
  front_every [] = refl
  front_every (b ∷ bs) = within_front b bs (t b) refl (front_every bs)

  -- The byte after the front does not pass.
  pub front_past : (bs : List ℕ) → front t (drop (front t bs) bs) ≡ 0
  unfolding front
  front_past [] = refl
  front_past (b ∷ bs) = by_cases (t b) (λ e. rw e (front_past bs)) (λ e. rw e (rw e))

  pub front_fails : (b : ℕ) (bs : List ℕ) → front t (b ∷ bs) ≡ 0 → t b ≡ false
  unfolding front
  front_fails b bs e = is_false (t b) (λ q. let z : suc (front t bs) ≡ 0 = rw q at e in omega arith)
