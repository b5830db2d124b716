-- A process keeps to its own events: its runs, its bits and what they say of it.
use mathlib.Core.Path.{◌≡◌, refl, sym, ◌∙◌, ap}
use mathlib.Core.Logic.{◌⊎◌, inl, inr, ◌↔◌}
use mathlib.Core.Bool.{Bool, true, false, ◌||◌, and-false, false≢true}
use mathlib.Core.List.{List, [], ◌∷◌, ◌++◌}
use Prim.Native.Nat.{ℕ}
use lib.Dec.{eqb}
use borrow.Author.Tests.{eqb-true, eq-eqb}
use Rattle.base.proofs.Truth.{cases, clash, is_false, or_l, or_r, or_e}
use Rattle.process.specs.Process.{seq, and, or, xor, Process, event, join, again, rounds, owns}
use Rattle.process.specs.Runs.{All, Rounds, stop, more, Optional, Whole, Begins}
use Rattle.process.specs.Bits.{Bits, blank, clears, taking, run, after}
use Rattle.process.specs.Guards.{begun, complete, enabled}
use Rattle.process.proofs.Lists.{all_append, all_left, all_in_l, all_in_r, keep, only, union, mix_all, mix_append}

-- Runs
pub run_of : (p : Process) → (w : List ℕ) × Whole p w
unfolding Whole
run_of (event n l) = (n ∷ [], refl)
run_of (join seq p q) = let a = run_of p in let b = run_of q in (a.0 ++ b.0, (a.0, b.0, a.1, b.1, refl))
run_of (join and p q) = let a = run_of p in let b = run_of q in (a.0 ++ b.0, (a.0, b.0, a.1, b.1, mix_append a.0 b.0))
run_of (join or p q) = let a = run_of p in (a.0, inl (inl a.1))
run_of (join xor p q) = let a = run_of p in (a.0, inl a.1)
run_of (again n l) = ([], tt)
run_of (rounds p r l) = ([], ([], [], stop, inl refl, refl))

rounds_inside : (A : List ℕ → Type 0) (I : ℕ → Bool) (r : ℕ) → ((u : List ℕ) → A u → All I u) → {w : List ℕ} → Rounds A r w → All (union I (eqb r)) w
rounds_inside A I r f stop = tt
rounds_inside A I r f (more u v hu hv e) =
    rw e (all_append (union I (eqb r)) u (r ∷ v) (all_in_l I (eqb r) u (f u hu)) (or_r (I r) (eq-eqb r r refl), rounds_inside A I r f hv))

optional_inside : (A : List ℕ → Type 0) (I J : ℕ → Bool) → ((u : List ℕ) → A u → All I u) → (w : List ℕ) → Optional A w → All (union I J) w
optional_inside A I J f w (inl e) = rw e tt
optional_inside A I J f w (inr h) = all_in_l I J w (f w h)

pub inside : (p : Process) (w : List ℕ) → Whole p w → All (owns p) w
unfolding Whole owns
inside (event n l) w h = rw h (eq-eqb n n refl, tt)
inside (join seq p q) w h =
    rw h.4 (all_append (union (owns p) (owns q)) h.0 h.1 (all_in_l (owns p) (owns q) h.0 (inside p h.0 h.2)) (all_in_r (owns p) (owns q) h.1 (inside q h.1 h.3)))
inside (join and p q) w h = mix_all (owns p) (owns q) h.4 (inside p h.0 h.2) (inside q h.1 h.3)
inside (join or p q) w (inl (inl h)) = all_in_l (owns p) (owns q) w (inside p w h)
inside (join or p q) w (inl (inr h)) = all_in_r (owns p) (owns q) w (inside q w h)
inside (join or p q) w (inr h) = mix_all (owns p) (owns q) h.4 (inside p h.0 h.2) (inside q h.1 h.3)
inside (join xor p q) w (inl h) = all_in_l (owns p) (owns q) w (inside p w h)
inside (join xor p q) w (inr h) = all_in_r (owns p) (owns q) w (inside q w h)
inside (again n l) w h = h
inside (rounds p r l) w h =
    rw h.4
    (all_append (union (owns p) (eqb r)) h.0 h.1 (rounds_inside (Whole p) (owns p) r (λ u k. inside p u k) h.2)
    (optional_inside (Whole p) (owns p) (eqb r) (λ u k. inside p u k) h.1 h.3))

pub begins_inside : (p : Process) (w : List ℕ) → Begins p w → All (owns p) w
begins_inside p w h = all_left (owns p) w h.0 (inside p (w ++ h.0) h.1)

-- Taking an event clears only where it is the process's own, and only the process's own bits.
abbrev Own : (I : ℕ → Bool) (x i : ℕ) → Type 0
Own I x i = (I x ≡ true) × (I i ≡ true)

own_either : (I J : ℕ → Bool) (x i : ℕ) {a b : Bool} → (a ≡ true → Own I x i) → (b ≡ true → Own J x i) → (a ≡ true) ⊎ (b ≡ true) → Own (union I J) x i
own_either I J x i f g (inl k) = (or_l (J x) (f k).0, or_l (J i) (f k).1)
own_either I J x i f g (inr k) = (or_r (I x) (g k).0, or_r (I i) (g k).1)

-- a reset clears its body's bits, any other event what it clears in the body
rounds_own : (I : ℕ → Bool) (r x i : ℕ) (cl : Bool) → (cl ≡ true → Own I x i) → (eqb r x ≡ true) ⊎ (cl ≡ true) → (I i ≡ true) ⊎ (cl ≡ true) → Own (union I (eqb r)) x i
rounds_own I r x i cl f (inl a) (inl b) = (or_r (I x) a, or_l (eqb r i) b)
rounds_own I r x i cl f (inl a) (inr c) = (or_r (I x) a, or_l (eqb r i) (f c).1)
rounds_own I r x i cl f (inr c) b = (or_l (eqb r x) (f c).0, or_l (eqb r i) (f c).1)

pub closed : (p : Process) (x i : ℕ) → clears p x i ≡ true → (owns p x ≡ true) × (owns p i ≡ true)
unfolding owns clears
closed (event n l) x i h = absurd (false≢true h)
closed (join j p q) x i h = own_either (owns p) (owns q) x i (λ k. closed p x i k) (λ k. closed q x i k) (or_e (clears p x i) (clears q x i) h)
closed (again n l) x i h = absurd (false≢true h)
closed (rounds p r l) x i h = rounds_own (owns p) r x i (clears p x i) (λ k. closed p x i k) (at_reset (cases (eqb r x))) (in_body (cases (owns p i)))
  where
    at_reset : (eqb r x ≡ true) ⊎ (eqb r x ≡ false) → (eqb r x ≡ true) ⊎ (clears p x i ≡ true)
    at_reset (inl k) = inl k
    at_reset (inr k) = inr (simp k at h)

    in_body : (owns p i ≡ true) ⊎ (owns p i ≡ false) → (owns p i ≡ true) ⊎ (clears p x i ≡ true)
    in_body (inl k) = inl k
    in_body (inr k) = inr (simp (k, and-false) at h)

-- Two records agree on the bits that pass a test.
abbrev pub Agree : (ℕ → Bool) → Bits → Bits → Type 0
Agree I s t = (i : ℕ) → I i ≡ true → s i ≡ t i

agree_l : (I J : ℕ → Bool) {s t : Bits} → Agree (union I J) s t → Agree I s t
agree_l I J a i h = a i (or_l (J i) h)

agree_r : (I J : ℕ → Bool) {s t : Bits} → Agree (union I J) s t → Agree J s t
agree_r I J a i h = a i (or_r (I i) h)

-- What the bits say of a process depends on its own bits only.
pub begun_local : (p : Process) {s t : Bits} → Agree (owns p) s t → begun p s ≡ begun p t
unfolding owns begun
begun_local (event n l) a = rw (a n (eq-eqb n n refl))
begun_local (join j p q) a = rw (begun_local p (agree_l (owns p) (owns q) a), begun_local q (agree_r (owns p) (owns q) a))
begun_local (again n l) a = rw (a n (eq-eqb n n refl))
begun_local (rounds p r l) a = rw (begun_local p (agree_l (owns p) (eqb r) a), a r (or_r (owns p r) (eq-eqb r r refl)))

-- each of two joined processes
module _ (p q : Process) {s t : Bits} (a : Agree (union (owns p) (owns q)) s t) where
  begun_l : begun p s ≡ begun p t
  begun_l = begun_local p (agree_l (owns p) (owns q) a)

  begun_r : begun q s ≡ begun q t
  begun_r = begun_local q (agree_r (owns p) (owns q) a)

pub complete_local : (p : Process) {s t : Bits} → Agree (owns p) s t → complete p s ≡ complete p t
unfolding owns complete
complete_local (event n l) a = rw (a n (eq-eqb n n refl))
complete_local (join seq p q) a = rw (complete_local p (agree_l (owns p) (owns q) a), complete_local q (agree_r (owns p) (owns q) a))
complete_local (join and p q) a = rw (complete_local p (agree_l (owns p) (owns q) a), complete_local q (agree_r (owns p) (owns q) a))
complete_local (join or p q) a =
    rw (begun_l p q a, begun_r p q a, complete_local p (agree_l (owns p) (owns q) a), complete_local q (agree_r (owns p) (owns q) a))
complete_local (join xor p q) a = rw (complete_local p (agree_l (owns p) (owns q) a), complete_local q (agree_r (owns p) (owns q) a))
complete_local (again n l) a = refl
complete_local (rounds p r l) a = rw (begun_local p (agree_l (owns p) (eqb r) a), complete_local p (agree_l (owns p) (eqb r) a))

pub enabled_local : (p : Process) {s t : Bits} (x : ℕ) → Agree (owns p) s t → enabled p s x ≡ enabled p t x
unfolding owns enabled
enabled_local (event n l) x a = rw (a n (eq-eqb n n refl))
enabled_local (join seq p q) x a =
    rw (begun_r p q a, complete_local p (agree_l (owns p) (owns q) a), enabled_local p x (agree_l (owns p) (owns q) a), enabled_local q x (agree_r (owns p) (owns q) a))
enabled_local (join and p q) x a = rw (enabled_local p x (agree_l (owns p) (owns q) a), enabled_local q x (agree_r (owns p) (owns q) a))
enabled_local (join or p q) x a = rw (enabled_local p x (agree_l (owns p) (owns q) a), enabled_local q x (agree_r (owns p) (owns q) a))
enabled_local (join xor p q) x a =
    rw (begun_l p q a, begun_r p q a, enabled_local p x (agree_l (owns p) (owns q) a), enabled_local q x (agree_r (owns p) (owns q) a))
enabled_local (again n l) x a = refl
enabled_local (rounds p r l) x a = rw (enabled_local p x (agree_l (owns p) (eqb r) a), complete_local p (agree_l (owns p) (eqb r) a))

-- A process is begun exactly if the bit of one of its events is set.
abbrev Set : (ℕ → Bool) → Bits → Type 0
Set I s = (i : ℕ) × (I i ≡ true) × (s i ≡ true)

set_one : (n : ℕ) (s : Bits) → (s n ≡ true) ↔ Set (eqb n) s
set_one n s = (λ h. (n, eq-eqb n n refl, h), λ (i, o, h). rw (eqb-true n i o) h)

set_either : (I J : ℕ → Bool) (s : Bits) (a b : Bool) → (a ≡ true) ↔ Set I s → (b ≡ true) ↔ Set J s → ((a || b) ≡ true) ↔ Set (union I J) s
set_either I J s a b f g = (λ h. to (or_e a b h), λ (i, o, h). from i h (or_e (I i) (J i) o))
  where
    to : (a ≡ true) ⊎ (b ≡ true) → Set (union I J) s
    to (inl h) = let k = f.0 h in (k.0, or_l (J k.0) k.1, k.2)
    to (inr h) = let k = g.0 h in (k.0, or_r (I k.0) k.1, k.2)

    from : (i : ℕ) → s i ≡ true → (I i ≡ true) ⊎ (J i ≡ true) → (a || b) ≡ true
    from i h (inl o) = or_l b (f.1 (i, o, h))
    from i h (inr o) = or_r a (g.1 (i, o, h))

pub begun_iff : (p : Process) (s : Bits) → (begun p s ≡ true) ↔ ((i : ℕ) × (owns p i ≡ true) × (s i ≡ true))
unfolding owns begun
begun_iff (event n l) s = set_one n s
begun_iff (join j p q) s = set_either (owns p) (owns q) s (begun p s) (begun q s) (begun_iff p s) (begun_iff q s)
begun_iff (again n l) s = set_one n s
begun_iff (rounds p r l) s = set_either (owns p) (eqb r) s (begun p s) (s r) (begun_iff p s) (set_one r s)

-- A process inside a larger one: taking an event of the larger one clears the process's bits as the process itself would.
abbrev pub Within : Process → (ℕ → ℕ → Bool) → Type 0
Within p big = (x i : ℕ) → owns p i ≡ true → big x i ≡ clears p x i

module _ (p : Process) (big : ℕ → ℕ → Bool) (same : Within p big) where
  taking_own : {s t : Bits} (x : ℕ) → Agree (owns p) s t → Agree (owns p) (taking big s x) (taking (clears p) t x)
  taking_own x a i h = rw (same x i h, a i h)

  taking_other : {s t : Bits} (x : ℕ) → owns p x ≡ false → Agree (owns p) s t → Agree (owns p) (taking big s x) t
  taking_other x q a i h =
      let m : eqb x i ≡ false = is_false (eqb x i) (λ k. clash h (sym (ap (owns p) (eqb-true x i k)) ∙ q)) in
      let r : clears p x i ≡ false = is_false (clears p x i) (λ k. clash (closed p x i k).0 q) in
      rw (m, same x i h, r, a i h)

  run_only : (w : List ℕ) (s t : Bits) → Agree (owns p) s t → Agree (owns p) (run big s w) (run (clears p) t (only (owns p) w))
  run_only [] s t a = a
  run_only (x ∷ w) s t a = go (run_only w) (owns p x) refl
    where
      go : ((s t : Bits) → Agree (owns p) s t → Agree (owns p) (run big s w) (run (clears p) t (only (owns p) w)))
          → (b : Bool) → owns p x ≡ b → Agree (owns p) (run big (taking big s x) w) (run (clears p) t (keep b x (only (owns p) w)))
      go ih true q = ih (taking big s x) (taking (clears p) t x) (taking_own x a)
      go ih false q = ih (taking big s x) t (taking_other x q a)

  -- After a list of events of the larger process, the process's bits are those after its own events of the list.
  pub after_only : (w : List ℕ) → Agree (owns p) (run big blank w) (after p (only (owns p) w))
  after_only w = run_only w blank blank (λ i h. refl)

pub run_append : (cl : ℕ → ℕ → Bool) (u v : List ℕ) (s : Bits) → run cl s (u ++ v) ≡ run cl (run cl s u) v
run_append cl [] v s = refl
run_append cl (x ∷ u) v s = run_append cl u v (taking cl s x)
