-- The reader refuses with 6 exactly at the first token that is too many or too deep by the tokens alone; a text that is read has none.
use mathlib.Core.Path.{◌≡◌, refl, ◌∙◌}
use mathlib.Core.Logic.{◌⊎◌, inl, inr}
use mathlib.Core.Bool.{true, false}
use mathlib.Core.List.{List, [], ◌∷◌, ◌++◌}
use Prim.Native.Nat.{ℕ, zero, suc, ◌+◌, ◌≤◌, ◌<◌}
use native.Mathlib.Omega.{arith}
use lib.ListN.{length}
use Rattle.base.specs.declared.Reason.{Reason}
use Rattle.tokens.specs.Token.{Token}
use Rattle.grammar.specs.Machine.{Want, node, root, Move, off, big, push, Outcome, whole, stop, expand, proceed, run, outcome, depths}
use Rattle.grammar.proofs.Limits.{nodes_in, count_of, over_limit}
use Rattle.grammar.proofs.LimitedFrom.{keys, opens, closes, big_at, big_in, big_here, big_later, big_nil, over_limit_in, nodes_cons, Safe, safe_cons}
use Rattle.grammar.proofs.Levels.{Turns, Level, turns_append, Moves, takes_moves}
use Rattle.grammar.proofs.Takes.{takes}

-- None of the first j tokens is too many or too deep.
abbrev SafeBelow : ℕ → ℕ → List Token → ℕ → Type 0
SafeBelow n p ts j = (i : ℕ) → i < j → big_in n p ts i ≡ false

-- Why the token j is refused with the number x.
abbrev Why : ℕ → ℕ → List Token → ℕ → Reason → Type 0
Why n p ts j x = (x ≡ Reason.Token) ⊎ ((x ≡ Reason.Node) × (j < length ts) × (big_in n p ts j ≡ true))

-- What an outcome says of the tokens, before which n nodes, p open parentheses and k tokens stand.
abbrev Limited : ℕ → ℕ → ℕ → List Token → Outcome → Type 0
Limited n p k ts (whole m) = (m ≡ n + nodes_in ts) × Safe n p ts
Limited n p k ts (stop x i) = (j : ℕ) × (i ≡ k + j) × (j ≤ length ts) × SafeBelow n p ts j × Why n p ts j x

-- One token more in front.
module _ (n p r k : ℕ) (t : Token) (ts : List Token) (e : r + closes t ≡ p + opens t) (h : big_at t n p ≡ false) where
  below_more : (j : ℕ) → SafeBelow (n + keys t) r ts j → SafeBelow n p (t ∷ ts) (suc j)
  below_more j s zero l = big_here n p t ts ∙ h
  below_more j s (suc i) l = big_later n p r t ts i e ∙ s i (omega arith)

  why_more : (j : ℕ) (x : Reason) → Why (n + keys t) r ts j x → Why n p (t ∷ ts) (suc j) x
  why_more j x (inl y) = inl y
  why_more j x (inr y) = inr (y.0, omega arith, big_later n p r t ts j e ∙ y.2)

  limited_more : (o : Outcome) → Limited (n + keys t) r (suc k) ts o → Limited n p k (t ∷ ts) o
  limited_more (whole m) s = let y = nodes_cons t ts in (omega arith, (safe_cons n p r t ts e).1 (h, s.1))
  limited_more (stop x i) s = (suc s.0, omega arith, omega arith, below_more s.0 s.3, why_more s.0 x s.4)

-- A refusal at the first token.
limited_here : (n p k : ℕ) (ts : List Token) (x : Reason) → Why n p ts 0 x → Limited n p k ts (stop x k)
limited_here n p k ts x y = (0, omega arith, omega arith, λ i l. (let z : ⊥ = omega arith in absurd z), y)

-- Of each run.
module _ (n p k : ℕ) (t : Token) (ts : List Token) (q : ℕ) (go : ℕ → List Want → Outcome) where
  limited_move : (m : Move) → Moves m n t p q → ((u : ℕ) (vs : List Want) (r : ℕ) → u ≡ keys t → Turns vs r q → Limited (n + keys t) r (suc k) ts (go u vs)) → Limited n p k (t ∷ ts) (proceed m k go)
  limited_move off s f = limited_here n p k (t ∷ ts) Reason.Token (inl refl)
  limited_move big s f = limited_here n p k (t ∷ ts) Reason.Node (inr (refl, omega arith, big_here n p t ts ∙ s))
  limited_move (push u vs) s f = limited_more n p s.2 k t ts s.3 s.0 (go u vs) (f u vs s.2 s.1 s.4)

run_limited : (ts : List Token) (ws : List Want) (n p k : ℕ) → Level ws p → Limited n p k ts (run ws n k ts)
unfolding run count_of
run_limited [] [] n p k l = (omega arith, λ i. big_nil n p i)
run_limited [] (w ∷ ws) n p k l = limited_here n p k [] Reason.Token (inl refl)
run_limited (t ∷ ts) [] n p k l = limited_here n p k (t ∷ ts) Reason.Token (inl refl)
run_limited (t ∷ ts) (w ∷ ws) n p k l =
    limited_move n p k t ts l.0 (λ u vs. run (vs ++ ws) (n + u) (suc k) ts) (expand w n t) (takes_moves (takes n w t) p l.0 l.1)
    (λ u vs r e s. rw e (run_limited ts (vs ++ ws) (n + keys t) r (suc k) (turns_append vs ws r l.0 0 s l.2)))

outcome_limited : (ts : List Token) → Limited 0 0 0 ts (outcome ts)
unfolding outcome
outcome_limited ts = run_limited ts (node root depths ∷ []) 0 0 0 (0, omega arith, refl)

-- Why the token k is refused with the number x, by the tokens alone.
abbrev Known : List Token → Reason → ℕ → Type 0
Known ts x k = (x ≡ Reason.Token) ⊎ ((x ≡ Reason.Node) × (k < length ts) × (over_limit ts k ≡ true))

-- What a refusal says of the tokens.
module _ (ts : List Token) (x : Reason) (k : ℕ) (e : outcome ts ≡ stop x k) where
  refused : Limited 0 0 0 ts (stop x k)
  refused = rw e at (outcome_limited ts)

  place : refused.0 ≡ k
  place = let t = refused.1 in omega arith

  none_before : (j : ℕ) → j < k → over_limit ts j ≡ false
  none_before j l = over_limit_in ts j ∙ refused.3 j (rw place l)

  why : Known ts x k
  why = go refused.4
    where
      go : Why 0 0 ts refused.0 x → Known ts x k
      go (inl y) = inl y
      go (inr y) = inr (y.0, rw place at y.1, over_limit_in ts k ∙ rw place at y.2)

pub big_over_limit : (ts : List Token) (k : ℕ) → outcome ts ≡ stop Reason.Node k → (k < length ts) × (over_limit ts k ≡ true) × ((j : ℕ) → j < k → over_limit ts j ≡ false)
big_over_limit ts k e = go (why ts Reason.Node k e)
  where
    go : Known ts Reason.Node k → (k < length ts) × (over_limit ts k ≡ true) × ((j : ℕ) → j < k → over_limit ts j ≡ false)
    go (inl y) = let z : ⊥ = cc in absurd z
    go (inr y) = (y.1, y.2, none_before ts Reason.Node k e)

pub off_none_big : (ts : List Token) (k : ℕ) → outcome ts ≡ stop Reason.Token k → (j : ℕ) → j < k → over_limit ts j ≡ false
off_none_big ts k e = none_before ts Reason.Token k e

pub whole_none_big : (ts : List Token) (n : ℕ) → outcome ts ≡ whole n → (n ≡ nodes_in ts) × ((j : ℕ) → over_limit ts j ≡ false)
whole_none_big ts n e =
    let t : Limited 0 0 0 ts (whole n) = rw e at (outcome_limited ts) in
    (omega arith, λ j. over_limit_in ts j ∙ t.1 j)
