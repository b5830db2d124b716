-- What the outcome of a run means for the tokens, by one induction over the tokens.
use mathlib.Core.Path.{◌≡◌, refl}
use mathlib.Core.Logic.{◌⊎◌, inl, inr, ⊎_elim}
use mathlib.Core.Bool.{true}
use mathlib.Core.List.{List, [], ◌∷◌, ◌++◌, cons≢nil}
use Prim.Native.Nat.{ℕ, suc, ◌+◌, ◌≤◌, ◌<◌}
use native.Mathlib.Omega.{arith}
use lib.ListN.{length, take}
use Rattle.diagram.specs.Tree.{Name}
use Rattle.base.specs.declared.Reason.{Reason}
use Rattle.base.proofs.Truth.{and_l, and_r}
use Rattle.tokens.specs.Token.{Token, named, proper, all_proper}
use Rattle.grammar.specs.Machine.{Want, Move, off, big, push, Outcome, whole, stop, expand, proceed, run}
use Rattle.grammar.proofs.Stack.{Spells, SpellsAll, joined, parted}
use Rattle.grammar.proofs.Takes.{Takes, takes}
use Rattle.grammar.proofs.Steps.{Taken, step_out, step_into, never_empty}
use Rattle.grammar.proofs.Goods.{Good, AllGood, all_filled, good_append, good_pushed, grown}

-- The first i tokens can be completed, and with the next token, or as they are where there is none, they cannot be.
pub record Off (words : List Name) (ws : List Want) (ts : List Token) (i : ℕ) : Type 0 where
  pub within : i ≤ length ts
  pub rest : List Token
  pub viable : SpellsAll words ws (take i ts ++ rest) []
  pub unfinished : i ≡ length ts → SpellsAll words ws ts [] → ⊥
  pub astray : i < length ts → (more : List Token) → SpellsAll words ws (take (suc i) ts ++ more) [] → ⊥

-- The first i tokens and the next can be completed.
pub record Big (words : List Name) (ws : List Want) (ts : List Token) (i : ℕ) : Type 0 where
  pub within : i < length ts
  pub rest : List Token
  pub viable : SpellsAll words ws (take (suc i) ts ++ rest) []

-- What an outcome means for the entries and the tokens, of which the first has the number k.
abbrev pub Means : List Name → List Want → List Token → ℕ → Outcome → Type 0
Means words ws ts k (whole n) = SpellsAll words ws ts []
Means words ws ts k (stop e j) = (i : ℕ) × (j ≡ k + i) × (((e ≡ Reason.Token) × Off words ws ts i) ⊎ ((e ≡ Reason.Node) × Big words ws ts i))

module _ (words : List Name) (a : Name) (ok : named words a ≡ true) where
  -- Nothing read, and the next token, if there is one, does not go on.
  off_here : (ws : List Want) → AllGood words ws → (ts : List Token) (k : ℕ) → (0 ≡ length ts → SpellsAll words ws ts [] → ⊥)
      → (0 < length ts → (more : List Token) → SpellsAll words ws (take 1 ts ++ more) [] → ⊥) → Means words ws ts k (stop Reason.Token k)
  off_here ws g ts k u v =
      let f = all_filled words ws g [] in
      (0, omega arith, inl (refl, record { within = omega arith; rest = f.0; viable = f.1; unfinished = u; astray = v }))

  module _ (w : Want) (ws : List Want) (n : ℕ) (t : Token) (h : proper words t ≡ true) (g : Good words w) where
    -- A move at the token, and what the entry spells after it.
    abbrev Out : Move → Type 0
    Out m = (ts rest : List Token) → Spells words w (t ∷ ts) rest → Taken words (Unit {0}) m ts rest

    -- The token and the entries pushed, for the entry itself, both ways.
    push_out : (u : ℕ) (vs : List Want) (ts : List Token) → Out (push u vs) → SpellsAll words (w ∷ ws) (t ∷ ts) [] → SpellsAll words (vs ++ ws) ts []
    push_out u vs ts out s = joined words vs ws ts [] (s.0, out ts s.0 s.1, s.2)

    push_into : (u : ℕ) (vs : List Want) (ts : List Token) → Takes n w t (push u vs) → SpellsAll words (vs ++ ws) ts [] → SpellsAll words (w ∷ ws) (t ∷ ts) []
    push_into u vs ts k s = let r = parted words vs ws ts [] s in (r.0, step_into words k ts r.0 h r.1, r.2)

    push_means : (u : ℕ) (vs : List Want) (ts : List Token) (k : ℕ) → Takes n w t (push u vs) → Out (push u vs) → (o : Outcome)
        → Means words (vs ++ ws) ts (suc k) o → Means words (w ∷ ws) (t ∷ ts) k o
    push_means u vs ts k e out (whole m) s = push_into u vs ts e s
    push_means u vs ts k e out (stop c j) s = (suc s.0, omega (arith, s.1), ⊎_elim (λ q. inl (q.0, later s.0 q.1)) (λ q. inr (q.0, large s.0 q.1)) s.2)
      where
        later : (i : ℕ) → Off words (vs ++ ws) ts i → Off words (w ∷ ws) (t ∷ ts) (suc i)
        later i o =
            record {
              within = omega arith;
              rest = o.rest;
              viable = push_into u vs (take i ts ++ o.rest) e o.viable;
              unfinished = λ q r. o.unfinished (omega arith) (push_out u vs ts out r);
              astray = λ q more r. o.astray (omega arith) more (push_out u vs (take (suc i) ts ++ more) out r);
            }

        large : (i : ℕ) → Big words (vs ++ ws) ts i → Big words (w ∷ ws) (t ∷ ts) (suc i)
        large i o = record { within = omega arith; rest = o.rest; viable = push_into u vs (take (suc i) ts ++ o.rest) e o.viable }

    step_means : AllGood words ws → (ts : List Token) (k : ℕ)
        → ((vs : List Want) (u : ℕ) → AllGood words (vs ++ ws) → Means words (vs ++ ws) ts (suc k) (run (vs ++ ws) (n + u) (suc k) ts))
        → (m : Move) → Takes n w t m → Out m → Means words (w ∷ ws) (t ∷ ts) k (proceed m k (λ u vs. run (vs ++ ws) (n + u) (suc k) ts))
    step_means b ts k ih off e out =
        off_here (w ∷ ws) (g, b) (t ∷ ts) k (λ q. let z : ⊥ = omega arith in absurd z) (λ q more s. out more s.0 s.1)
    step_means b ts k ih big e out =
        let f = all_filled words ws b [] in
        let r = grown words a ok e f.0 in
        (0, omega arith, inr (refl, record { within = omega arith; rest = r.0; viable = (f.0, r.1, f.1) }))
    step_means b ts k ih (push u vs) e out =
        push_means u vs ts k e out (run (vs ++ ws) (n + u) (suc k) ts) (ih vs u (good_append words vs ws (good_pushed words a ok e) b))

  pub run_means : (ts : List Token) → all_proper words ts ≡ true → (ws : List Want) → AllGood words ws → (n k : ℕ) → Means words ws ts k (run ws n k ts)
  unfolding run
  run_means [] h [] g n k = refl
  run_means [] h (w ∷ ws) g n k = off_here (w ∷ ws) g [] k (λ q s. never_empty words w s.0 s.1) (λ q. let z : ⊥ = omega arith in absurd z)
  run_means (t ∷ ts) h [] g n k = off_here [] tt (t ∷ ts) k (λ q. let z : ⊥ = omega arith in absurd z) (λ q more e. cons≢nil e)
  run_means (t ∷ ts) h (w ∷ ws) g n k =
      step_means w ws n t (and_l (proper words t) (all_proper words ts) h) g.0 g.1 ts k
      (λ vs u b. run_means ts (and_r (proper words t) (all_proper words ts) h) (vs ++ ws) b (n + u) (suc k))
      (expand w n t) (takes n w t) (step_out words w n t)
