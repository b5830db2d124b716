-- Rounds of a process, each closed by a reset of its own, and then optionally one further run of it.
use mathlib.Core.Path.{◌≡◌, refl, sym, ◌∙◌, ap}
use mathlib.Core.Logic.{◌⊎◌, inl, inr, ◌↔◌}
use mathlib.Core.Bool.{Bool, true, false, not, ◌||◌, and-false, or_comm}
use mathlib.Core.List.{List, [], ◌∷◌, ◌++◌, append-nil, append_assoc, append-eq-nil_iff, cons≢nil, head-eq_of_cons-eq, tail-eq_of_cons-eq}
use Prim.Native.Nat.{ℕ}
use lib.Dec.{eqb}
use borrow.Author.Tests.{eqb-true, eq-eqb}
use Rattle.base.proofs.Truth.{cases, clash, is_false, or_l, or_r, or_e}
use Rattle.process.specs.Process.{Event, Process, rounds, owns}
use Rattle.process.specs.Runs.{Runs, All, Rounds, stop, more, Optional, Loop, Whole, Begins}
use Rattle.process.specs.Bits.{Bits, blank, clears, taking, run, after}
use Rattle.process.specs.Guards.{begun, complete, enabled}
use Rattle.process.proofs.Lists.{filled, filled_append, filled_snoc, snoc≢nil, Cut, cut, last, snoc_eq, all_right}
use Rattle.process.proofs.Local.{begins_inside, closed, Agree, run_append}
use Rattle.process.proofs.Seen.{Seen, Good, seen_local, not_begun, begins_nil, begins_whole, begins_shorter}

-- Lists of rounds
module _ (A : Runs) (r : ℕ) where
  pub rounds_append : {u : List ℕ} (v : List ℕ) → Rounds A r u → Rounds A r v → Rounds A r (u ++ v)
  rounds_append v stop k = k
  rounds_append v (more {w = x} a c ha hr e) k = more {w = x ++ v} a (c ++ v) ha (rounds_append v hr k) (rw (e, append_assoc))

  pub rounds_one : (a : List ℕ) → A a → Rounds A r (a ++ (r ∷ []))
  rounds_one a h = more a [] h stop refl

  -- none, or rounds before a last one
  abbrev Last : Runs
  Last w = (w ≡ []) ⊎ ((u : List ℕ) × (v : List ℕ) × Rounds A r u × A v × (w ≡ u ++ (v ++ (r ∷ []))))

  rounds_last : {w : List ℕ} → Rounds A r w → Last w
  rounds_last stop = inl refl
  rounds_last {w} (more a c ha hr e) = go (rounds_last hr)
    where
      go : Last c → Last w
      go (inl h) = inr ([], a, stop, ha, e ∙ rw h)
      go (inr (u, v, hu, hv, h)) = inr (a ++ (r ∷ u), v, more a u ha hu refl, hv, e ∙ rw (h, append_assoc a (r ∷ u) (v ++ (r ∷ []))))

module _ (p : Process) (r : ℕ) where
  -- whole rounds, and then the beginning of one
  pub record Turns (w : List ℕ) : Type 0 where
    pub u : List ℕ
    pub v : List ℕ
    pub turns : Rounds (Whole p) r u
    pub rest : Begins p v
    pub cut_at : w ≡ u ++ v

  -- the event after the list: the reset after whole rounds and a run of the body, or an event inside a round
  abbrev pub Ahead : List ℕ → ℕ → Type 0
  Ahead w x = ((a : List ℕ) × (c : List ℕ) × Rounds (Whole p) r a × Whole p c × (w ≡ a ++ c) × (x ≡ r))
      ⊎ ((a : List ℕ) × (c : List ℕ) × Rounds (Whole p) r a × Begins p (c ++ (x ∷ [])) × (w ≡ a ++ c))

  -- the round begun is ended as the further run
  turns← : (w : List ℕ) → Turns w → (x : List ℕ) × Loop (Whole p) r (w ++ x)
  turns← w t = (t.rest.0, (t.u, t.v ++ t.rest.0, t.turns, inr t.rest.1, rw (t.cut_at, append_assoc)))

  first : (w : List ℕ) → Begins p w → Turns w
  first w h = record { u = []; v = w; turns = stop; rest = h; cut_at = refl }

  later : (a w : List ℕ) (z : ℕ) (d : List ℕ) → Whole p a → r ≡ z → w ≡ a ++ (z ∷ d) → Turns d → Turns w
  later a w z d ha q e t = record {
    u = a ++ (r ∷ t.u);
    v = t.v;
    turns = more a t.u ha t.turns refl;
    rest = t.rest;
    cut_at = rw (e, ← q, t.cut_at, append_assoc a (r ∷ t.u) t.v);
  }

  turns→ : {x : List ℕ} → Rounds (Whole p) r x → (w y : List ℕ) → w ++ y ≡ x → Turns w
  turns→ stop [] y e = first [] (begins_nil p)
  turns→ stop (z ∷ w) y e = absurd (cons≢nil e)
  turns→ (more a c ha hr q) w y e = go (λ w' e'. turns→ hr w' y e') (cut w y a (r ∷ c) (e ∙ q))
    where
      go : ((w' : List ℕ) → w' ++ y ≡ c → Turns w') → Cut w y a (r ∷ c) → Turns w
      go ih (inl (d, i, j)) = first w (d, rw i at ha)
      go ih (inr ([], i, j)) = first w (begins_whole p w (rw (i, append-nil) ha))
      go ih (inr (z ∷ d, i, j)) = later a w z d ha (head-eq_of_cons-eq j) i (ih d (sym (tail-eq_of_cons-eq j)))

  -- what begins a loop's run ends inside the rounds or inside the further run
  turns_loop : (w y : List ℕ) → Loop (Whole p) r (w ++ y) → Turns w
  turns_loop w y (a, c, ha, hc, e) = go (cut w y a c e) hc
    where
      go : Cut w y a c → Optional (Whole p) c → Turns w
      go (inl (d, i, j)) k = turns→ ha w d (sym i)
      go (inr (d, i, j)) (inl k) =
          record { u = a; v = []; turns = ha; rest = begins_nil p; cut_at = i ∙ ap (λ (l : List ℕ). a ++ l) (append-eq-nil_iff.0 (sym j ∙ k)).0 }
      go (inr (d, i, j)) (inr k) = record { u = a; v = d; turns = ha; rest = (y, rw j at k); cut_at = i }

  pub ahead : (w : List ℕ) (x : ℕ) → Turns (w ++ (x ∷ [])) → Ahead w x
  ahead w x t = go (last t.v)
    where
      turn : (y : List ℕ) → w ++ (x ∷ []) ≡ y → Last (Whole p) r y → Ahead w x
      turn y q (inl h) = absurd (snoc≢nil w x (q ∙ h))
      turn y q (inr (a, c, ha, hc, h)) =
          let k = snoc_eq w (a ++ c) x r (q ∙ (h ∙ sym (append_assoc a c (r ∷ [])))) in
          inl (a, c, ha, hc, k.0, k.1)

      go : (t.v ≡ []) ⊎ ((z : List ℕ) × (y : ℕ) × (t.v ≡ z ++ (y ∷ []))) → Ahead w x
      go (inl h) = turn t.u (t.cut_at ∙ rw (h, append-nil)) (rounds_last (Whole p) r t.turns)
      go (inr (z, y, h)) =
          let k = snoc_eq w (t.u ++ z) x y (t.cut_at ∙ rw (h, append_assoc)) in
          inr (t.u, z, t.turns, rw (k.1, ← h) t.rest, k.0)

module _ (p : Process) (r : ℕ) (l : Event) (out : owns p r ≡ false) where
  abbrev loop : Process
  loop = rounds p r l

  pub begins_turns : (w : List ℕ) → Begins loop w ↔ Turns p r w
  unfolding Whole
  begins_turns w = (λ h. turns_loop p r w h.0 h.1, turns← p r w)

  other : (x : ℕ) → owns p x ≡ true → eqb r x ≡ false
  other x h = is_false (eqb r x) (λ q. clash h (sym (ap (owns p) (eqb-true r x q)) ∙ out))

  other' : (x : ℕ) → owns p x ≡ true → eqb x r ≡ false
  other' x h = is_false (eqb x r) (λ q. clash h (ap (owns p) (eqb-true x r q) ∙ out))

  no_clear : (x : ℕ) → clears p x r ≡ false
  no_clear x = is_false (clears p x r) (λ h. clash (closed p x r h).1 out)

  -- the bit of the reset stays, and only the reset sets it
  kept : (w : List ℕ) (s : Bits) → s r ≡ true → run (clears loop) s w r ≡ true
  unfolding clears
  kept [] s h = h
  kept (x ∷ w) s h = kept w (taking (clears loop) s x) (rw (out, no_clear x, and-false (eqb r x)) (or_r (eqb x r) h))

  unset : (w : List ℕ) → All (owns p) w → (s : Bits) → s r ≡ false → run (clears loop) s w r ≡ false
  unfolding clears
  unset [] a s h = h
  unset (x ∷ w) a s h = unset w a.1 (taking (clears loop) s x) (rw (out, no_clear x, and-false (eqb r x), other' x a.0) h)

  -- right after the reset no bit of the body is set, and the reset's is
  cleared : (w : List ℕ) → Agree (owns p) (after loop (w ++ (r ∷ []))) blank
  unfolding clears
  cleared w i h = rw (run_append (clears loop) w (r ∷ []) blank, other i h, eq-eqb r r refl, h)

  set : (w : List ℕ) → after loop (w ++ (r ∷ [])) r ≡ true
  set w = rw (run_append (clears loop) w (r ∷ []) blank, eq-eqb r r refl)

  fresh : (u : List ℕ) → Last (Whole p) r u → Agree (owns p) (after loop u) blank
  fresh u (inl h) = rw h (λ i k. refl)
  fresh u (inr (a, c, ha, hc, e)) = rw (e, ← append_assoc a c (r ∷ [])) (cleared (a ++ c))

  mark : (u : List ℕ) → Last (Whole p) r u → after loop u r ≡ filled u
  mark u (inl h) = rw h
  mark u (inr (a, c, ha, hc, e)) = rw (e, ← append_assoc a c (r ∷ [])) (set (a ++ c) ∙ sym (filled_snoc (a ++ c) r))

  -- inside a round the body's bits are those of the body alone
  inner : (w : List ℕ) → All (owns p) w → (s t : Bits) → Agree (owns p) s t → Agree (owns p) (run (clears loop) s w) (run (clears p) t w)
  unfolding clears
  inner [] h s t a = a
  inner (x ∷ w) h s t a = inner w h.1 (taking (clears loop) s x) (taking (clears p) t x) (λ i k. rw (other x h.0, a i k))

  module _ (u v : List ℕ) (hu : Rounds (Whole p) r u) (hv : Begins p v) where
    own : All (owns p) v
    own = begins_inside p v hv

    pub after_turns : Agree (owns p) (after loop (u ++ v)) (after p v)
    after_turns = rw (run_append (clears loop) u v blank) (inner v own (after loop u) blank (fresh u (rounds_last (Whole p) r hu)))

    mark_turns : after loop (u ++ v) r ≡ filled u
    mark_turns = rw (run_append (clears loop) u v blank) (go (filled u) refl)
      where
        m : after loop u r ≡ filled u
        m = mark u (rounds_last (Whole p) r hu)

        go : (n : Bool) → filled u ≡ n → run (clears loop) (after loop u) v r ≡ filled u
        go true q = kept v (after loop u) (m ∙ q) ∙ sym q
        go false q = unset v own (after loop u) (m ∙ q) ∙ sym q

  module _ (G : Good p) where
    seen : (u v : List ℕ) → Rounds (Whole p) r u → Begins p v → Seen p (after loop (u ++ v)) v
    seen u v hu hv = seen_local p v (after_turns u v hu hv) (G v hv)

    rounds_ends : (w : List ℕ) → Turns p r w → Whole loop w ↔ (complete loop (after loop w) ≡ true)
    unfolding Whole complete
    rounds_ends w t = (λ h. to h h.3, λ h. from (or_e (not (begun p (after loop w))) (complete p (after loop w)) h))
      where
        to : (h : Loop (Whole p) r w) → Optional (Whole p) h.1 → (not (begun p (after loop w)) || complete p (after loop w)) ≡ true
        to (u, v, hu, hv, e) (inl k) = rw e (or_l (complete p (after loop (u ++ v))) ((not_begun p (seen u v hu (rw k (begins_nil p)))).0 k))
        to (u, v, hu, hv, e) (inr k) = rw e (or_r (not (begun p (after loop (u ++ v)))) ((seen u v hu (begins_whole p v k)).ends.0 k))

        S : Seen p (after loop w) t.v
        S = rw t.cut_at (seen t.u t.v t.turns t.rest)

        from : (not (begun p (after loop w)) ≡ true) ⊎ (complete p (after loop w) ≡ true) → Loop (Whole p) r w
        from (inl h) = (t.u, t.v, t.turns, inl ((not_begun p S).1 h), t.cut_at)
        from (inr h) = (t.u, t.v, t.turns, inr (S.ends.1 h), t.cut_at)

    goes→ : (w : List ℕ) (x : ℕ) → Ahead p r w x → enabled loop (after loop w) x ≡ true
    unfolding enabled
    goes→ w x (inl (a, c, ha, hc, e, q)) = rw (e, q, out) ((seen a c ha (begins_whole p c hc)).ends.0 hc)
    goes→ w x (inr (a, c, ha, hc, e)) =
        let i : owns p x ≡ true = (all_right (owns p) c (x ∷ []) (begins_inside p (c ++ (x ∷ [])) hc)).0 in
        rw (e, i) (((seen a c ha (begins_shorter p c (x ∷ []) hc)).goes_on x i).0 hc)

    goes← : (w : List ℕ) (x : ℕ) → Turns p r w → (owns p x || eqb r x) ≡ true → enabled loop (after loop w) x ≡ true → Turns p r (w ++ (x ∷ []))
    unfolding enabled
    goes← w x t i h = go (cases (owns p x))
      where
        S : Seen p (after loop (t.u ++ t.v)) t.v
        S = seen t.u t.v t.turns t.rest

        k : enabled loop (after loop (t.u ++ t.v)) x ≡ true
        k = rw t.cut_at at h

        go : (owns p x ≡ true) ⊎ (owns p x ≡ false) → Turns p r (w ++ (x ∷ []))
        go (inl j) = record {
          u = t.u;
          v = t.v ++ (x ∷ []);
          turns = t.turns;
          rest = (S.goes_on x j).1 (rw j at k);
          cut_at = rw (t.cut_at, append_assoc);
        }
        go (inr j) =
            let q : eqb r x ≡ true = rw j at i in
            let hv : Whole p t.v = S.ends.1 (rw j at k) in
            record {
              u = t.u ++ (t.v ++ (r ∷ []));
              v = [];
              turns = rounds_append (Whole p) r (t.v ++ (r ∷ [])) t.turns (rounds_one (Whole p) r t.v hv);
              rest = begins_nil p;
              cut_at = rw (t.cut_at, ← eqb-true r x q, append-nil, append_assoc);
            }

    rounds_begins : (w : List ℕ) → Turns p r w → begun loop (after loop w) ≡ filled w
    unfolding begun
    rounds_begins w t =
        rw (t.cut_at, (seen t.u t.v t.turns t.rest).begins, mark_turns t.u t.v t.turns t.rest)
        (or_comm (filled t.v) (filled t.u) ∙ sym (filled_append t.u t.v))

    pub rounds_good : Good loop
    unfolding Whole owns begun complete
    rounds_good w h =
        let t = (begins_turns w).0 h in
        record {
          begins = rounds_begins w t;
          ends = rounds_ends w t;
          goes_on = λ x i. (
            λ k. goes→ w x (ahead p r w x ((begins_turns (w ++ (x ∷ []))).0 k)),
            λ k. (begins_turns (w ++ (x ∷ []))).1 (goes← w x t i k),
          );
        }
