-- The first pass over a process in postfix order writes the process's plan: it follows the fold that plans it.
use Rattle.std.proofs.Common.{◌≡◌, refl, sym, ap, subst, List, [], ◌∷◌, ◌++◌, ℕ, suc, ◌+◌, length, append_assoc, length-append, arith}
use Rattle.std.proofs.lemmas.List.{reverse-append}
use native.Mathlib.Nat.{zero-add}
use Rattle.process.specs.Process.{Joint, seq, and, or, xor, Process}
use Rattle.process.proofs.Numbered.{size, Numbered}
use Rattle.postfix.specs.declared.Code.{Code}
use Rattle.postfix.specs.declared.Code.TheVariants.{Leaf, Again, Rounds, Seq}
use Rattle.postfix.specs.Postfix.{postfix, joint_code}
use Rattle.postfix.specs.Fold.{State, state}
use Rattle.postfix.proofs.Folded.{Follows, along_postfix}
use Rattle.plan.specs.declared.PartRows.{PartRows}
use Rattle.plan.specs.declared.Needs.{Needs}
use Rattle.plan.specs.Pieces.{Piece, event_piece, again_piece, rounds_piece, join_piece}
use Rattle.plan.specs.Plan.{Plan, leaf_plan, planning, plan_of}
use Rattle.guards.specs.code.Rows.{put_rows}
use Rattle.guards.proofs.RowsWritten.{put_rows_append}
use Rattle.guards.specs.code.Passes.{stacked, top, rest, others, event_count, piece_of, no_rows, FirstAt, first_with, first_step, first_pass}

-- All joints move alike.
joint_step : (j : Joint) (base : ℕ) (u : FirstAt)
    → first_step base u (joint_code j)
    ≡ first_with base Seq (join_piece j u.rows (top no_rows (rest u.parts)) (top no_rows u.parts)) u
unfolding first_step piece_of
joint_step seq base u = refl
joint_step and base u = refl
joint_step or base u = refl
joint_step xor base u = refl

-- What a joint needs is stacked over what its parts need.
pub needs_joined : (a b ns : List Needs) (n : Needs) → stacked (a ++ (b ++ (n ∷ []))) ++ ns ≡ n ∷ (stacked b ++ (stacked a ++ ns))
needs_joined a b ns n = rw (reverse-append a (b ++ (n ∷ [])), reverse-append b (n ∷ []), append_assoc (n ∷ stacked b) (stacked a) ns)

module _ (base : ℕ) (start : FirstAt) where
  -- The plans that are stacked, one after the other from the start's next row on: the next row after them, all their rows, the rows that speak of them, and what
  -- the second pass needs.
  abbrev next_row : List (ℕ → Plan) → ℕ
  next_row [] = start.rows
  next_row (f ∷ s) = next_row s + length (f (next_row s)).words

  abbrev words : List (ℕ → Plan) → List ℕ
  words [] = []
  words (f ∷ s) = words s ++ (f (next_row s)).words

  abbrev parts : List (ℕ → Plan) → List PartRows
  parts [] = start.parts
  parts (f ∷ s) = (f (next_row s)).part ∷ parts s

  abbrev needs : List (ℕ → Plan) → List Needs
  needs [] = start.needs
  needs (f ∷ s) = stacked (f (next_row s)).needs ++ needs s

  next_row_is : (s : List (ℕ → Plan)) → next_row s ≡ start.rows + length (words s)
  next_row_is [] = omega arith
  next_row_is (f ∷ s) = omega (arith, next_row_is s, length-append (words s) (f (next_row s)).words)

  -- Where the pass stands, however many codes come.
  pub record Stands (n : ℕ) (u : FirstAt) (s : State (ℕ → Plan)) : Type 0 where
    pub its_event : u.event ≡ s.next
    pub its_rows : u.rows ≡ next_row s.stack
    pub its_parts : u.parts ≡ parts s.stack
    pub its_needs : u.needs ≡ needs s.stack
    pub its_out : u.out ≡ put_rows base start.rows (words s.stack) start.out

  -- After a code of which z is the piece: f takes the place of plans that are stacked.
  taken : (n : ℕ) (op : Code) (u : FirstAt) (e e' : ℕ) (s : List (ℕ → Plan)) (f : ℕ → Plan) (t : List (ℕ → Plan)) (z : Piece) → Stands (suc n) u (state e s)
      → words (f ∷ t) ≡ words s ++ z.words → needs (f ∷ t) ≡ z.needs ∷ needs s → (f (next_row t)).part ≡ z.part → others op (parts s) ≡ parts t
      → u.event + event_count op ≡ e' → Stands n (first_with base op z u) (state e' (f ∷ t))
  taken n op u e e' s f t z h w d p o c = record {
    its_event = c;
    its_rows = omega (arith, h.its_rows, next_row_is s, next_row_is (f ∷ t), ap length w, length-append (words s) z.words);
    its_parts = rw (h.its_parts, o, p);
    its_needs = rw (h.its_needs, d);
    its_out = rw (h.its_out, h.its_rows, next_row_is s, w) (sym (put_rows_append base start.rows (words s) z.words start.out));
  }

  -- A leaf, or a loop over one.
  leaf_stands : (n : ℕ) (op : Code) (u : FirstAt) (e : ℕ) (s : List (ℕ → Plan)) (z : ℕ → ℕ → Piece) → event_count op ≡ 1 → others op (parts s) ≡ parts s
      → Stands (suc n) u (state e s) → Stands n (first_with base op (z u.rows u.event) u) (state (suc e) ((λ k. leaf_plan (z k e)) ∷ s))
  leaf_stands n op u e s z c o h =
      let same : z u.rows u.event ≡ z (next_row s) e = rw (h.its_rows, h.its_event) in
      subst (λ (p : Piece). Stands n (first_with base op p u) (state (suc e) ((λ k. leaf_plan (z k e)) ∷ s))) (sym same)
      (taken n op u e (suc e) s (λ k. leaf_plan (z k e)) s (z (next_row s) e) h refl refl refl o (omega (arith, c, h.its_event)))

  turns_stands : (n : ℕ) (u : FirstAt) (e : ℕ) (x : ℕ → Plan) (s : List (ℕ → Plan)) → Stands (suc n) u (state e (x ∷ s))
      → Stands n (first_with base Rounds (rounds_piece u.rows u.event (top no_rows u.parts)) u) (state (suc e) (planning.turns x e ∷ s))
  turns_stands n u e x s h =
      let z : Piece = rounds_piece (next_row (x ∷ s)) e (x (next_row s)).part in
      let same : rounds_piece u.rows u.event (top no_rows u.parts) ≡ z = rw (h.its_rows, h.its_event, h.its_parts) in
      subst (λ (p : Piece). Stands n (first_with base Rounds p u) (state (suc e) (planning.turns x e ∷ s))) (sym same)
      (taken n Rounds u e (suc e) (x ∷ s) (planning.turns x e) s z h (sym (append_assoc (words s) (x (next_row s)).words z.words))
      (rw (reverse-append (x (next_row s)).needs (z.needs ∷ []))) refl refl (omega (arith, h.its_event)))

  both_stands : (n : ℕ) (u : FirstAt) (e : ℕ) (j : Joint) (x y : ℕ → Plan) (s : List (ℕ → Plan)) → Stands (suc n) u (state e (y ∷ x ∷ s))
      → Stands n (first_step base u (joint_code j)) (state e (planning.both j x y ∷ s))
  both_stands n u e j x y s h =
      let k : ℕ = next_row s in
      let a : Plan = x k in
      let b : Plan = y (next_row (x ∷ s)) in
      let z : Piece = join_piece j (next_row (y ∷ x ∷ s)) a.part b.part in
      let same : join_piece j u.rows (top no_rows (rest u.parts)) (top no_rows u.parts) ≡ z = rw (h.its_rows, h.its_parts) in
      let after : words s ++ (a.words ++ (b.words ++ z.words)) ≡ ((words s ++ a.words) ++ b.words) ++ z.words = simp append_assoc in
      rw (joint_step j base u)
      (subst (λ (p : Piece). Stands n (first_with base Seq p u) (state e (planning.both j x y ∷ s))) (sym same)
      (taken n Seq u e e (y ∷ x ∷ s) (planning.both j x y) s z h after (needs_joined a.needs b.needs (needs s) z.needs) refl refl
      (omega (arith, h.its_event))))

  follows : Follows planning (first_step base) Stands
  unfolding first_step piece_of
  follows = record {
    leaf = λ n u e s h. leaf_stands n Leaf u e s event_piece refl refl h;
    loop = λ n u e s h. leaf_stands n Again u e s again_piece refl refl h;
    turns = λ n u e x s h. turns_stands n u e x s h;
    both = λ n u e j x y s h. both_stands n u e j x y s h;
  }

  -- The first pass over a process leaves its plan.
  pub first_passed : (p : Process) → Numbered p 0 → start.event ≡ 0 → Stands 0 (first_pass base (postfix p) start) (state (size p) (plan_of p ∷ []))
  unfolding put_rows
  first_passed p m e =
      rw zero-add at
      (along_postfix planning (first_step base) Stands follows p 0 0 start [] m
      (record { its_event = e; its_rows = refl; its_parts = refl; its_needs = refl; its_out = refl }))
