-- Lists of event numbers: their ends, what of them passes a test, and interleavings.
use mathlib.Core.Path.{◌≡◌, refl, sym, ◌∙◌, ap, ap₂}
use mathlib.Core.Logic.{◌⊎◌, inl, inr}
use mathlib.Core.Bool.{Bool, true, false, ◌||◌, true≢false, or_comm}
use mathlib.Core.List.{List, [], ◌∷◌, ◌++◌, append-nil, reverse, reverse-append, reverse-reverse, concat-ne-nil, cons≢nil, head-eq_of_cons-eq, tail-eq_of_cons-eq}
use mathlib.Mathlib.Data.List.Basic.{eq-nil-or-concat'}
use Prim.Native.Nat.{ℕ}
use Rattle.base.proofs.Truth.{cases, is_false, or_l, or_r, or_e}
use Rattle.process.specs.Runs.{All, Mix, done, left, right}

abbrev cons_eq : {x y : ℕ} {u v : List ℕ} → x ≡ y → u ≡ v → x ∷ u ≡ y ∷ v
cons_eq p q = ap₂ (λ (a : ℕ) (l : List ℕ). a ∷ l) p q

-- Has it an element?
abbrev pub filled : List ℕ → Bool
filled [] = false
filled (x ∷ w) = true

pub filled_nil : (w : List ℕ) → filled w ≡ false → w ≡ []
filled_nil [] e = refl
filled_nil (x ∷ w) e = absurd (true≢false e)

pub filled_of : (w : List ℕ) → (w ≡ [] → ⊥) → filled w ≡ true
filled_of [] n = absurd (n refl)
filled_of (x ∷ w) n = refl

pub filled_append : (u v : List ℕ) → filled (u ++ v) ≡ (filled u || filled v)
filled_append [] v = refl
filled_append (x ∷ u) v = refl

pub filled_snoc : (u : List ℕ) (e : ℕ) → filled (u ++ (e ∷ [])) ≡ true
filled_snoc [] e = refl
filled_snoc (x ∷ u) e = refl

pub snoc≢nil : (u : List ℕ) (e : ℕ) → u ++ (e ∷ []) ≡ [] → ⊥
snoc≢nil u e = concat-ne-nil e u

-- Two ways to cut one list: one first part continues the other.
abbrev pub Cut : List ℕ → List ℕ → List ℕ → List ℕ → Type 0
Cut w x a c = ((d : List ℕ) × (a ≡ w ++ d) × (x ≡ d ++ c)) ⊎ ((d : List ℕ) × (w ≡ a ++ d) × (c ≡ d ++ x))

pub cut : (w x a c : List ℕ) → w ++ x ≡ a ++ c → Cut w x a c
cut [] x a c e = inl (a, refl, e)
cut (y ∷ w) x [] c e = inr (y ∷ w, refl, sym e)
cut (y ∷ w) x (z ∷ a) c e = up (cut w x a c (tail-eq_of_cons-eq e))
  where
    h : y ≡ z
    h = head-eq_of_cons-eq e

    up : Cut w x a c → Cut (y ∷ w) x (z ∷ a) c
    up (inl d) = inl (d.0, cons_eq (sym h) d.1, d.2)
    up (inr d) = inr (d.0, cons_eq h d.1, d.2)

-- A list is empty or ends in an element.
pub last : (w : List ℕ) → (w ≡ []) ⊎ ((u : List ℕ) × (e : ℕ) × (w ≡ u ++ (e ∷ [])))
last = eq-nil-or-concat'

pub snoc_eq : (u v : List ℕ) (a b : ℕ) → u ++ (a ∷ []) ≡ v ++ (b ∷ []) → (u ≡ v) × (a ≡ b)
snoc_eq u v a b e =
    let r : a ∷ reverse u ≡ b ∷ reverse v = sym (reverse-append u (a ∷ [])) ∙ (ap reverse e ∙ reverse-append v (b ∷ [])) in
    (sym (reverse-reverse u) ∙ (ap reverse (tail-eq_of_cons-eq r) ∙ reverse-reverse v), head-eq_of_cons-eq r)

-- Tests of all elements.
pub all_append : (I : ℕ → Bool) (u v : List ℕ) → All I u → All I v → All I (u ++ v)
all_append I [] v h k = k
all_append I (x ∷ u) v h k = (h.0, all_append I u v h.1 k)

pub all_left : (I : ℕ → Bool) (u v : List ℕ) → All I (u ++ v) → All I u
all_left I [] v h = tt
all_left I (x ∷ u) v h = (h.0, all_left I u v h.1)

pub all_right : (I : ℕ → Bool) (u v : List ℕ) → All I (u ++ v) → All I v
all_right I [] v h = h
all_right I (x ∷ u) v h = all_right I u v h.1

pub all_map : {I J : ℕ → Bool} → ((e : ℕ) → I e ≡ true → J e ≡ true) → (w : List ℕ) → All I w → All J w
all_map f [] h = tt
all_map f (x ∷ w) h = (f x h.0, all_map f w h.1)

-- No number passes both tests.
abbrev pub Apart : (ℕ → Bool) → (ℕ → Bool) → Type 0
Apart I J = (e : ℕ) → I e ≡ true → J e ≡ true → ⊥

pub apart_sym : {I J : ℕ → Bool} → Apart I J → Apart J I
apart_sym d e h k = d e k h

-- What of a list passes a test.
abbrev pub keep : Bool → ℕ → List ℕ → List ℕ
keep true x w = x ∷ w
keep false x w = w

abbrev pub only : (ℕ → Bool) → List ℕ → List ℕ
only I [] = []
only I (x ∷ w) = keep (I x) x (only I w)

pub only_append : (I : ℕ → Bool) (u v : List ℕ) → only I (u ++ v) ≡ only I u ++ only I v
only_append I [] v = refl
only_append I (x ∷ u) v = go (only_append I u v) (I x)
  where
    go : only I (u ++ v) ≡ only I u ++ only I v → (b : Bool) → keep b x (only I (u ++ v)) ≡ keep b x (only I u) ++ only I v
    go ih true = ap (λ (l : List ℕ). x ∷ l) ih
    go ih false = ih

pub only_all : (I : ℕ → Bool) (w : List ℕ) → All I w → only I w ≡ w
only_all I [] h = refl
only_all I (x ∷ w) h = rw (h.0, only_all I w h.1)

pub only_none : (I J : ℕ → Bool) → Apart I J → (w : List ℕ) → All J w → only I w ≡ []
only_none I J d [] h = refl
only_none I J d (x ∷ w) h = rw (is_false (I x) (λ p. d x p h.0), only_none I J d w h.1)

pub only_snoc_in : (I : ℕ → Bool) (w : List ℕ) (e : ℕ) → I e ≡ true → only I (w ++ (e ∷ [])) ≡ only I w ++ (e ∷ [])
only_snoc_in I w e h = rw (only_append I w (e ∷ []), h)

pub only_snoc_out : (I : ℕ → Bool) (w : List ℕ) (e : ℕ) → I e ≡ false → only I (w ++ (e ∷ [])) ≡ only I w
only_snoc_out I w e h = rw (only_append I w (e ∷ []), h) (append-nil (only I w))

-- The tests of two parts.
abbrev pub union : (ℕ → Bool) → (ℕ → Bool) → ℕ → Bool
union I J x = I x || J x

pub all_in_l : (I J : ℕ → Bool) (w : List ℕ) → All I w → All (union I J) w
all_in_l I J w h = all_map (λ x k. or_l (J x) k) w h

pub all_in_r : (I J : ℕ → Bool) (w : List ℕ) → All J w → All (union I J) w
all_in_r I J w h = all_map (λ x k. or_r (I x) k) w h

pub all_swap : (I J : ℕ → Bool) (w : List ℕ) → All (union I J) w → All (union J I) w
all_swap I J w h = all_map (λ x k. or_comm (J x) (I x) ∙ k) w h

-- Interleavings.
pub mix_append : (u v : List ℕ) → Mix u v (u ++ v)
mix_append [] [] = done
mix_append [] (x ∷ v) = right (mix_append [] v)
mix_append (x ∷ u) v = left (mix_append u v)

pub mix_all : (I J : ℕ → Bool) {u v w : List ℕ} → Mix u v w → All I u → All J v → All (union I J) w
mix_all I J done h k = tt
mix_all I J (left {x} r) h k = (or_l (J x) h.0, mix_all I J r h.1 k)
mix_all I J (right {x} r) h k = (or_r (I x) k.0, mix_all I J r h k.1)

pub mix_nil : {u v w : List ℕ} → Mix u v w → w ≡ [] → (u ≡ []) × (v ≡ [])
mix_nil done e = (refl, refl)
mix_nil (left r) e = absurd (cons≢nil e)
mix_nil (right r) e = absurd (cons≢nil e)

pub mix_all_l : {u v w : List ℕ} → Mix u v w → v ≡ [] → u ≡ w
mix_all_l done e = refl
mix_all_l (left {x} r) e = ap (λ (l : List ℕ). x ∷ l) (mix_all_l r e)
mix_all_l (right r) e = absurd (cons≢nil e)

pub mix_sym : {u v w : List ℕ} → Mix u v w → Mix v u w
mix_sym done = done
mix_sym (left m) = right (mix_sym m)
mix_sym (right m) = left (mix_sym m)

pub mix_l : (I J : ℕ → Bool) → Apart I J → {u v w : List ℕ} → Mix u v w → All I u → All J v → only I w ≡ u
mix_l I J d done h k = refl
mix_l I J d (left {x} r) h k = rw (h.0, mix_l I J d r h.1 k)
mix_l I J d (right {x} r) h k = rw (is_false (I x) (λ p. d x p k.0), mix_l I J d r h k.1)

pub mix_r : (I J : ℕ → Bool) → Apart I J → {u v w : List ℕ} → Mix u v w → All I u → All J v → only J w ≡ v
mix_r I J d m h k = mix_l J I (apart_sym d) (mix_sym m) k h

-- A list whose elements are of the two parts is an interleaving of them.
pub mix_make : (I J : ℕ → Bool) → Apart I J → (w : List ℕ) → All (union I J) w → Mix (only I w) (only J w) w
mix_make I J d [] h = done
mix_make I J d (x ∷ w) h = go (mix_make I J d w h.1) (cases (I x))
  where
    go : Mix (only I w) (only J w) w → (I x ≡ true) ⊎ (I x ≡ false) → Mix (keep (I x) x (only I w)) (keep (J x) x (only J w)) (x ∷ w)
    go r (inl p) = rw (p, is_false (J x) (λ q. d x p q)) (left r)
    go r (inr p) =
        let q : J x ≡ true = rw p at h.0 in
        rw (p, q) (right r)

pub filled_only : (I J : ℕ → Bool) (w : List ℕ) → All (union I J) w → (filled (only I w) || filled (only J w)) ≡ filled w
filled_only I J [] h = refl
filled_only I J (x ∷ w) h = go (or_e (I x) (J x) h.0)
  where
    go : (I x ≡ true) ⊎ (J x ≡ true) → (filled (keep (I x) x (only I w)) || filled (keep (J x) x (only J w))) ≡ true
    go (inl p) = rw p
    go (inr p) = rw p (or_r (filled (keep (I x) x (only I w))) refl)
