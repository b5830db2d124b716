-- What a set bit at or past a place is, and that it is found word by word.
use mathlib.Core.Path.{◌≡◌, refl, sym, ap, ◌∙◌}
use mathlib.Core.Bool.{Bool, true, false, not, ◌&&◌, ◌||◌}
use mathlib.Core.List.{List}
use mathlib.Core.Logic.{⊎_elim}
use Prim.Native.Nat.{ℕ, zero, suc, ◌+◌, ◌-◌, ◌*◌, ◌/◌, ◌%◌, ◌^◌, ◌≤◌, ◌<◌}
use native.Mathlib.Nat.{div-eq_of_lt, lt_of_lt_of_le, mod-eq_of_lt, mod-lt, pow-le-pow_right, zero-div, zero-lt-suc, zero-mod}
use native.Mathlib.Omega.{arith}
use lib.ListN.{get_or}
use lib.Dec.{eqb, ltb, lit<}
use lib.Pow.{pow_pos, mod-pow-add}
use borrow.Author.Tests.{eqb-true, eqb-false, eq-eqb, ltb-true, ltb-false, lt-ltb, ne_eqb}
use Rattle.base.proofs.Truth.{by_cases, is_false, clash, and_l, and_r, and_i, or_e, or_l, or_r, not_i, not_e, agree}
use Rattle.base.proofs.Each.{each_below, below_each}
use Rattle.record.specs.Bits.{bit_at, clear_between}
use Rattle.record.proofs.Bits.{one_shl}

-- No bit between `first` and `end` is set exactly if each of them is clear.
abbrev before_or_clear : List ℕ → ℕ → ℕ → Bool
before_or_clear ws first e = ltb e first || not (bit_at ws e)

pub each_clear : (ws : List ℕ) (first end : ℕ) → clear_between ws first end ≡ true → (e : ℕ) → e < end → first ≤ e → bit_at ws e ≡ false
unfolding clear_between
each_clear ws first end c e h k =
    ⊎_elim (λ l. let l' = ltb-true e first l in let z : ⊥ = omega arith in absurd z) (λ n. not_e (bit_at ws e) n)
    (or_e (ltb e first) (not (bit_at ws e)) (each_below (clear_between ws first) (before_or_clear ws first) (λ i. refl) end e c h))

pub clear_each : (ws : List ℕ) (first end : ℕ) → ((e : ℕ) → e < end → first ≤ e → bit_at ws e ≡ false) → clear_between ws first end ≡ true
unfolding clear_between
clear_each ws first end f =
    below_each (clear_between ws first) (before_or_clear ws first) refl (λ i. refl) end
    (λ e h. by_cases (ltb e first) (λ l. or_l (not (bit_at ws e)) l) (λ l. or_r (ltb e first) (not_i (f e h (ltb-false e first l)))))

-- Numbers with the same low k bits have the same remainder by 2 ^ k.
one_more : (w k : ℕ) → w % 2 ^ suc k ≡ w / 2 ^ k % 2 * 2 ^ k + w % 2 ^ k
one_more w k = let q : suc k ≡ 1 + k = omega arith in ap (λ (x : ℕ). w % 2 ^ x) q ∙ mod-pow-add w 1 k

pub low_same : (x y k : ℕ) → ((j : ℕ) → j < k → x / 2 ^ j % 2 ≡ y / 2 ^ j % 2) → x % 2 ^ k ≡ y % 2 ^ k
low_same x y zero f = omega arith
low_same x y (suc k) f = one_more x k ∙ rw (f k (omega arith), low_same x y k (λ j h. f j (omega arith))) (sym (one_more y k))

-- The low k bits of a number are clear exactly if it is 0 but for higher ones.
module _ (w : ℕ) where
  low_clear : (k : ℕ) → ((j : ℕ) → j < k → w / 2 ^ j % 2 ≡ 0) → w % 2 ^ k ≡ 0
  low_clear k f = low_same w 0 k (λ j h. rw (zero-div (2 ^ j)) (f j h)) ∙ zero-mod (2 ^ k)

  split_zero : (k y r : ℕ) → y * 2 ^ k + r ≡ 0 → (y ≡ 0) × (r ≡ 0)
  split_zero k zero r e = (refl, omega arith)
  split_zero k (suc y) r e = let p = pow_pos k in let z : ⊥ = omega arith in absurd z

  clear_low : (k : ℕ) → w % 2 ^ k ≡ 0 → (j : ℕ) → j < k → w / 2 ^ j % 2 ≡ 0
  clear_low zero e j h = let z : ⊥ = omega arith in absurd z
  clear_low (suc k) e j h =
      let s = split_zero k (w / 2 ^ k % 2) (w % 2 ^ k) (sym (one_more w k) ∙ e) in
      by_cases (eqb j k) (λ q. rw (eqb-true j k q) s.0) (λ q. clear_low k s.1 j (omega (arith, eqb-false j k q)))

-- Bit j of word i, counted from below.
pub word_bit : (ws : List ℕ) (i j : ℕ) → i < 8 → j < 64 → bit_at ws (64 * i + (63 - j)) ≡ eqb (get_or ws i 0 / 2 ^ j % 2) 1
unfolding bit_at
word_bit ws i j h k =
    let q : (64 * i + (63 - j)) / 64 ≡ i = omega arith in
    let r : 63 - (64 * i + (63 - j)) % 64 ≡ j = omega arith in
    rw (lt-ltb (64 * i + (63 - j)) 512 (omega arith), q, r)

high_none : (w j : ℕ) → w < 2 ^ 64 → 64 ≤ j → w / 2 ^ j % 2 ≡ 0
high_none w j h k = ap (λ (x : ℕ). x % 2) (div-eq_of_lt (lt_of_lt_of_le h (pow-le-pow_right (lit< tt) k)))

bit_zero : (x : ℕ) → eqb (x % 2) 1 ≡ false → x % 2 ≡ 0
bit_zero x e = let l = mod-lt x (zero-lt-suc 1) in omega (arith, eqb-false (x % 2) 1 e)

zero_bit : (x : ℕ) → x % 2 ≡ 0 → eqb (x % 2) 1 ≡ false
zero_bit x e = rw e

-- One more word: its bits at or past `first` are its low ones.
module _ (ws : List ℕ) (first i : ℕ) (h : i < 8) (small : get_or ws i 0 < 2 ^ 64) where
  abbrev rest : ℕ
  rest = get_or ws i 0 % 2 ^ (64 * i + 64 - first)

  its_low : clear_between ws first (64 * i + 64) ≡ true → rest ≡ 0
  its_low c =
      low_clear (get_or ws i 0) (64 * i + 64 - first)
      (λ j l. by_cases (ltb j 64)
      (λ q. let k = ltb-true j 64 q in
      bit_zero (get_or ws i 0 / 2 ^ j) (sym (word_bit ws i j h k) ∙ each_clear ws first (64 * i + 64) c (64 * i + (63 - j)) (omega arith) (omega arith)))
      (λ q. high_none (get_or ws i 0) j small (ltb-false j 64 q)))

  its_bit : rest ≡ 0 → (e : ℕ) → e < 64 * i + 64 → 64 * i ≤ e → first ≤ e → bit_at ws e ≡ false
  its_bit z e l k f =
      let j : ℕ = 63 - (e - 64 * i) in
      let q : e ≡ 64 * i + (63 - j) = omega arith in
      ap (bit_at ws) q ∙ word_bit ws i j h (omega arith)
      ∙ zero_bit (get_or ws i 0 / 2 ^ j) (clear_low (get_or ws i 0) (64 * i + 64 - first) z j (omega arith))

  pub next_word : (clear_between ws first (64 * i) && eqb rest 0) ≡ clear_between ws first (64 * i + 64)
  next_word =
      agree (clear_between ws first (64 * i) && eqb rest 0) (clear_between ws first (64 * i + 64))
      (λ c. let a = and_l (clear_between ws first (64 * i)) (eqb rest 0) c in
      let b = eqb-true rest 0 (and_r (clear_between ws first (64 * i)) (eqb rest 0) c) in
      clear_each ws first (64 * i + 64)
      (λ e l f. by_cases (ltb e (64 * i)) (λ q. each_clear ws first (64 * i) a e (ltb-true e (64 * i) q) f)
      (λ q. its_bit b e l (ltb-false e (64 * i) q) f)))
      (λ c. and_i (clear_each ws first (64 * i) (λ e l f. each_clear ws first (64 * i + 64) c e (omega arith) f)) (eq-eqb rest 0 (its_low c)))

-- What the loop over the words holds: before the first word, after one more, after the eighth.
-- Where no bit of the words before it is set, word i tells by the number p whether one of its own is.
module _ (ws : List ℕ) (first i p : ℕ) (h : i < 8) (c : clear_between ws first (64 * i) ≡ true)
    (r : (p ≡ get_or ws i 0 % 2 ^ (64 * i + 64 - first)) × (get_or ws i 0 < 2 ^ 64)) where
  told : eqb p 0 ≡ clear_between ws first (64 * (i + 1))
  told =
      let e : 64 * i + 64 ≡ 64 * (i + 1) = omega arith in
      rw r.0 (rw c at (next_word ws first i h r.1) ∙ ap (clear_between ws first) e)

  pub none_more : p ≡ 0 → clear_between ws first (64 * (i + 1)) ≡ true
  none_more q = sym told ∙ eq-eqb p 0 q

  pub some_set : (p ≡ 0 → ⊥) → true ≡ not (clear_between ws first 512)
  some_set n =
      let none : clear_between ws first (64 * (i + 1)) ≡ false = sym told ∙ ne_eqb p 0 n in
      let all : clear_between ws first 512 ≡ false =
      is_false (clear_between ws first 512)
      (λ a. clash (clear_each ws first (64 * (i + 1)) (λ e k. each_clear ws first 512 a e (omega arith))) none) in
      rw all

-- The remainder by which the code finds a word's bits at or past `first`.
pub past_all : (w start first : ℕ) → w < 2 ^ 64 → first ≤ start → w ≡ w % 2 ^ (start + 64 - first)
past_all w start first h l =
    let q : 64 ≤ start + 64 - first = omega arith in sym (mod-eq_of_lt (lt_of_lt_of_le h (pow-le-pow_right (lit< tt) q)))

pub past_none : (w start first : ℕ) → start + 64 ≤ first → 0 ≡ w % 2 ^ (start + 64 - first)
past_none w start first l = let q : start + 64 - first ≡ 0 = omega arith in rw q (omega arith)

module _ (start first : ℕ) (l : start < first) (h : first - start < 64) where
  shifted : (1 * 2 ^ (64 - (first - start))) % 2 ^ 64 ≡ 2 ^ (start + 64 - first)
  shifted =
      let q : 64 - (first - start) ≡ start + 64 - first = omega arith in
      one_shl (64 - (first - start)) (omega arith) ∙ ap (λ (x : ℕ). 2 ^ x) q

  pub past_some : (w : ℕ) → w % ((1 * 2 ^ (64 - (first - start))) % 2 ^ 64) ≡ w % 2 ^ (start + 64 - first)
  past_some w = rw shifted

  pub past_some_not_zero : 0 < (1 * 2 ^ (64 - (first - start))) % 2 ^ 64
  past_some_not_zero = rw shifted (pow_pos (start + 64 - first))
