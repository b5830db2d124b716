-- Number 6 by a walk over the tokens: the nodes and the parentheses so far are carried along.
use mathlib.Core.Path.{◌≡◌, refl, sym, ◌∙◌, ap, ap₂}
use mathlib.Core.Logic.{◌↔◌}
use mathlib.Core.Bool.{Bool, true, false, ◌&&◌, ◌||◌, cond}
use mathlib.Core.List.{List, [], ◌∷◌, ◌++◌}
use Prim.Native.Nat.{ℕ, zero, suc, ◌+◌, ◌-◌, ◌≤◌, ◌<◌}
use native.Mathlib.Nat.{add-zero, zero-add, sub-zero}
use native.Mathlib.Omega.{arith}
use lib.Dec.{leb}
use lib.ListN.{length, get_or, take, length-take}
use lib.Seq.{get_or-take, take-append-le, take-take}
use Rattle.tokens.specs.Token.{opening, closing, Token, other}
use Rattle.grammar.specs.Machine.{is_sign, is_key}
use Rattle.grammar.proofs.Limits.{count_of, nodes_in, over_limit}

-- What a token adds to the nodes, to the opened and to the closed parentheses.
abbrev pub keys : Token → ℕ
keys t = cond (is_key t) 1 0

abbrev pub opens : Token → ℕ
opens t = cond (is_sign opening t) 1 0

abbrev pub closes : Token → ℕ
closes t = cond (is_sign closing t) 1 0

-- These tokens close no parenthesis that is not open, where p are open before them.
abbrev pub Balanced : ℕ → List Token → Type 0
Balanced p [] = Unit {0}
Balanced p (t ∷ ts) = (r : ℕ) × (r + closes t ≡ p + opens t) × Balanced r ts

-- The token t is the keyword of a node that is one too many or too deep, where n nodes and p open parentheses stand before it.
abbrev pub big_at : Token → ℕ → ℕ → Bool
big_at t n p = is_key t && (leb 257 (suc n) || leb 13 (suc p))

-- The same of the token k of these, before which n nodes, a opened and b closed parentheses stand.
big_from : ℕ → ℕ → ℕ → List Token → ℕ → Bool
big_from n a b [] k = false
big_from n a b (t ∷ ts) zero = big_at t n (a - b)
big_from n a b (t ∷ ts) (suc k) = big_from (n + keys t) (a + opens t) (b + closes t) ts k

count_cons : (f : Token → Bool) (t : Token) (ts : List Token) → count_of f (t ∷ ts) ≡ cond (f t) 1 0 + count_of f ts
unfolding count_of
count_cons f t ts = go (f t)
  where
    go : (b : Bool) → cond b (suc (count_of f ts)) (count_of f ts) ≡ cond b 1 0 + count_of f ts
    go true = omega arith
    go false = omega arith

pub nodes_cons : (t : Token) (ts : List Token) → nodes_in (t ∷ ts) ≡ keys t + nodes_in ts
nodes_cons t ts = count_cons is_key t ts

abbrev opened : List Token → ℕ
opened = count_of (is_sign opening)

abbrev closed : List Token → ℕ
closed = count_of (is_sign closing)

-- The walk comes to the counts over the tokens before.
from_law : (ts : List Token) (k n a b : ℕ)
    → big_from n a b ts k ≡ big_at (get_or ts k other) (n + nodes_in (take k ts)) ((a + opened (take k ts)) - (b + closed (take k ts)))
unfolding big_from count_of
from_law [] k n a b = refl
from_law (t ∷ ts) zero n a b = rw (add-zero n, add-zero a, add-zero b)
from_law (t ∷ ts) (suc k) n a b =
    let x = count_cons is_key t (take k ts) in
    let y = count_cons (is_sign opening) t (take k ts) in
    let z = count_cons (is_sign closing) t (take k ts) in
    let m : (n + keys t) + nodes_in (take k ts) ≡ n + nodes_in (t ∷ take k ts) = omega arith in
    let p : (a + opens t + opened (take k ts)) - (b + closes t + closed (take k ts)) ≡ (a + opened (t ∷ take k ts)) - (b + closed (t ∷ take k ts)) = omega arith in
    from_law ts k (n + keys t) (a + opens t) (b + closes t) ∙ ap₂ (λ (m p : ℕ). big_at (get_or ts k other) m p) m p

-- Only the difference of the parentheses counts.
from_shift : (ts : List Token) (k n a b x : ℕ) → big_from n (a + x) (b + x) ts k ≡ big_from n a b ts k
from_shift ts k n a b x =
    let o : ℕ = opened (take k ts) in
    let z : ℕ = closed (take k ts) in
    let e : (a + x + o) - (b + x + z) ≡ (a + o) - (b + z) = omega arith in
    from_law ts k n (a + x) (b + x) ∙ (ap (λ (p : ℕ). big_at (get_or ts k other) (n + nodes_in (take k ts)) p) e ∙ sym (from_law ts k n a b))

-- The token k of these is too many or too deep, where n nodes and p open parentheses stand before them.
pub big_in : ℕ → ℕ → List Token → ℕ → Bool
big_in n p ts k = big_from n p 0 ts k

pub big_here : (n p : ℕ) (t : Token) (ts : List Token) → big_in n p (t ∷ ts) 0 ≡ big_at t n p
unfolding big_in big_from
big_here n p t ts = rw (sub-zero p)

pub big_later : (n p r : ℕ) (t : Token) (ts : List Token) (k : ℕ) → r + closes t ≡ p + opens t → big_in n p (t ∷ ts) (suc k) ≡ big_in (n + keys t) r ts k
unfolding big_in big_from
big_later n p r t ts k e = rw (← e) (from_shift ts k (n + keys t) r 0 (closes t))

pub big_nil : (n p k : ℕ) → big_in n p [] k ≡ false
unfolding big_in big_from
big_nil n p k = refl

pub over_limit_in : (ts : List Token) (k : ℕ) → over_limit ts k ≡ big_in 0 0 ts k
unfolding over_limit big_in
over_limit_in ts k =
    sym (from_law ts k 0 0 0 ∙ rw (zero-add (nodes_in (take k ts)), zero-add (opened (take k ts)), zero-add (closed (take k ts))))

-- None of these tokens is too many or too deep.
abbrev pub Safe : ℕ → ℕ → List Token → Type 0
Safe n p ts = (k : ℕ) → big_in n p ts k ≡ false

-- One token more in front: r parentheses are open after it.
module _ (n p r : ℕ) (t : Token) (ts : List Token) (e : r + closes t ≡ p + opens t) where
  safe_made : big_at t n p ≡ false → Safe (n + keys t) r ts → Safe n p (t ∷ ts)
  safe_made h s zero = big_here n p t ts ∙ h
  safe_made h s (suc k) = big_later n p r t ts k e ∙ s k

  pub safe_cons : Safe n p (t ∷ ts) ↔ ((big_at t n p ≡ false) × Safe (n + keys t) r ts)
  safe_cons = (λ s. (sym (big_here n p t ts) ∙ s 0, λ k. sym (big_later n p r t ts k e) ∙ s (suc k)), λ h. safe_made h.0 h.1)

-- Only the tokens up to it count: those that follow its beginning may be others.
starts_alike : (ts us : List Token) (m j : ℕ) → take m ts ≡ take m us → j < m → over_limit ts j ≡ over_limit us j
unfolding over_limit
starts_alike ts us m j e l =
    let g : get_or ts j other ≡ get_or us j other = sym (get_or-take m ts j other l) ∙ (ap (λ (l : List Token). get_or l j other) e ∙ get_or-take m us j other l) in
    let h : take j ts ≡ take j us = sym (take-take j m ts (omega arith)) ∙ (ap (take j) e ∙ take-take j m us (omega arith)) in
    rw (g, h)

pub over_limit_begun : (ts rest : List Token) (m j : ℕ) → m ≤ length ts → j < m → over_limit ts j ≡ over_limit (take m ts ++ rest) j
over_limit_begun ts rest m j h l =
    let e : take m (take m ts ++ rest) ≡ take m ts = take-append-le m (take m ts) rest (simp length-take (omega arith)) ∙ take-take m m ts (omega arith) in
    starts_alike ts (take m ts ++ rest) m j (sym e) l
