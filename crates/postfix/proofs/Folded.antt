-- Along the codes of a process its value comes to stand on the stack: one law for every pass over postfix order, however it holds its stack.
use mathlib.Core.Path.{◌≡◌, refl, subst}
use mathlib.Core.List.{List, [], ◌∷◌, ◌++◌, foldl, foldl-append}
use Prim.Native.Nat.{ℕ, suc, ◌+◌}
use native.Mathlib.Omega.{arith}
use lib.ListN.{length}
use Rattle.process.specs.Process.{Joint, seq, and, or, xor, Process, event, join, again, rounds}
use Rattle.process.proofs.Numbered.{size, Numbered}
use Rattle.postfix.specs.declared.Code.{Code}
use Rattle.postfix.specs.declared.Code.TheVariants.{Leaf, Again, Rounds}
use Rattle.postfix.specs.Postfix.{postfix, joint_code}
use Rattle.postfix.specs.Fold.{Algebra, fold, State, state, step, run}
use Rattle.postfix.proofs.Short.{long_join, long_rounds}

-- A pass takes the codes one after the other. `Stands n c s`: c stands for the state s, and has room for n codes more. What is asked of one code of each
-- kind, where the values that it needs are stacked.
pub record Follows {A C : Type 0} (g : Algebra A) (take : C → Code → C) (Stands : ℕ → C → State A → Type 0) : Type 0 where
  pub leaf : (n : ℕ) (c : C) (e : ℕ) (s : List A) → Stands (suc n) c (state e s) → Stands n (take c Leaf) (state (suc e) (g.leaf e ∷ s))
  pub loop : (n : ℕ) (c : C) (e : ℕ) (s : List A) → Stands (suc n) c (state e s) → Stands n (take c Again) (state (suc e) (g.loop e ∷ s))
  pub turns : (n : ℕ) (c : C) (e : ℕ) (x : A) (s : List A)
      → Stands (suc n) c (state e (x ∷ s)) → Stands n (take c Rounds) (state (suc e) (g.turns x e ∷ s))
  pub both : (n : ℕ) (c : C) (e : ℕ) (j : Joint) (x y : A) (s : List A)
      → Stands (suc n) c (state e (y ∷ x ∷ s)) → Stands n (take c (joint_code j)) (state e (g.both j x y ∷ s))

module _ {A C : Type 0} (g : Algebra A) (take : C → Code → C) (Stands : ℕ → C → State A → Type 0) (f : Follows g take Stands) where
  -- A pass of which this holds leaves the process's value on the stack.
  pub along_postfix : (p : Process) (lo n : ℕ) (c : C) (s : List A) → Numbered p lo → Stands (length (postfix p) + n) c (state lo s)
      → Stands n (foldl take c (postfix p)) (state (lo + size p) (fold g p ∷ s))
  unfolding fold postfix size Numbered
  along_postfix (event e l) lo n c s m h =
      rw m
      (subst (λ (k : ℕ). Stands n (take c Leaf) (state k (g.leaf lo ∷ s))) (omega arith)
      (f.leaf n c lo s (subst (λ (k : ℕ). Stands k c (state lo s)) (omega arith) h)))
  along_postfix (again e l) lo n c s m h =
      rw m
      (subst (λ (k : ℕ). Stands n (take c Again) (state k (g.loop lo ∷ s))) (omega arith)
      (f.loop n c lo s (subst (λ (k : ℕ). Stands k c (state lo s)) (omega arith) h)))
  along_postfix (rounds p r l) lo n c s m h =
      let d = foldl take c (postfix p) in
      let x = along_postfix p lo (suc n) c s m.0 (subst (λ (k : ℕ). Stands k c (state lo s)) (omega (arith, long_rounds p r l)) h) in
      rw (foldl-append take c (postfix p) (Rounds ∷ []), m.1)
      (subst (λ (k : ℕ). Stands n (take d Rounds) (state k (g.turns (fold g p) (lo + size p) ∷ s))) (omega arith)
      (f.turns n d (lo + size p) (fold g p) s x))
  along_postfix (join j p q) lo n c s m h =
      let d = foldl take c (postfix p) in
      let e = foldl take d (postfix q) in
      let x = along_postfix p lo (length (postfix q) + suc n) c s m.0 (subst (λ (k : ℕ). Stands k c (state lo s)) (omega (arith, long_join j p q)) h) in
      let y = along_postfix q (lo + size p) (suc n) d (fold g p ∷ s) m.1 x in
      rw (foldl-append take c (postfix p) (postfix q ++ (joint_code j ∷ [])), foldl-append take d (postfix q) (joint_code j ∷ []))
      (subst (λ (k : ℕ). Stands n (take e (joint_code j)) (state k (g.both j (fold g p) (fold g q) ∷ s))) (omega arith)
      (f.both n e (lo + size p + size q) j (fold g p) (fold g q) s y))

-- The run with a list for its stack.
module _ {A : Type 0} (g : Algebra A) where
  joint_step : (j : Joint) (e : ℕ) (x y : A) (s : List A) → step g (state e (y ∷ x ∷ s)) (joint_code j) ≡ state e (g.both j x y ∷ s)
  unfolding step
  joint_step seq e x y s = refl
  joint_step and e x y s = refl
  joint_step or e x y s = refl
  joint_step xor e x y s = refl

  follows : Follows g (step g) (λ n c s. c ≡ s)
  unfolding step
  follows = record {
    leaf = λ n c e s h. rw h;
    loop = λ n c e s h. rw h;
    turns = λ n c e x s h. rw h;
    both = λ n c e j x y s h. rw h (joint_step j e x y s);
  }

  pub run_postfix : (p : Process) (lo : ℕ) (s : List A) → Numbered p lo → run g (postfix p) (state lo s) ≡ state (lo + size p) (fold g p ∷ s)
  run_postfix p lo s m = along_postfix g (step g) (λ n c t. c ≡ t) follows p lo 0 (state lo s) s m refl
