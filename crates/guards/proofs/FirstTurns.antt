-- The turns of the first pass's loop: what the functions of a turn answer makes the next step of the pass.
use Rattle.std.proofs.Common.{◌≡◌, sym, ap, ◌∙◌, List, [], ◌∷◌, ◌++◌, ℕ, ◌+◌, ◌*◌, ◌≤◌, length, take, arith, length-append}
use Rattle.std.proofs.lemmas.List.{reverse-append}
use mathlib.Core.List.{foldl-append}
use Rattle.postfix.specs.declared.Code.{Code}
use Rattle.postfix.specs.declared.Code.TheVariants.{Leaf, Again, Rounds, Seq, And, Or, Xor}
use Rattle.plan.specs.declared.PartRows.{PartRows}
use Rattle.plan.specs.declared.Needs.{Needs}
use Rattle.plan.specs.Pieces.{settling}
use Rattle.plan.proofs.Says.{by_option}
use Rattle.guards.specs.declared.Table.{Table}
use Rattle.guards.specs.code.Rows.{base_of}
use Rattle.guards.specs.declared.Added.{Added}
use Rattle.guards.specs.code.Passes.{stacked, others, event_count, piece_of, latest_piece, top, rest, no_rows, Makes, FirstAt, first_start, first_step, first_pass}

abbrev pub first_at : Table → ℕ → List PartRows → List Needs → FirstAt
first_at rows event parts needs =
    record { rows = rows.next; event = event; parts = stacked parts; needs = stacked needs; out = rows.out.now }

-- After i codes from where `start` was: bounds, and the state.
pub record FirstTo (ops : List Code) (start : Table) (i : ℕ) (rows : Table) (event : ℕ) (parts : List PartRows) (needs : List Needs) : Type 0 where
  pub same : rows.out.ghost_name ≡ start.out.ghost_name
  pub its_events : rows.events ≡ start.events
  pub few_rows : rows.next ≤ 3 + 6 * i
  pub few_events : event ≤ i
  pub few_parts : length parts ≤ i
  pub few_needs : length needs ≤ i
  pub its_state : first_at rows event parts needs ≡ first_pass (base_of start.events) (take i ops) (first_start 3 start.out.now)

-- A piece has few rows.
settling_short : (m : PartRows) → length (settling m) ≤ 1
settling_short m = by_option m.settled (λ t. rw t (omega arith)) (λ row t. rw t (omega arith))

piece_short : (op : Code) (k e : ℕ) (q p : PartRows) → length (piece_of op k e q p).words ≤ 6
unfolding piece_of
piece_short Leaf k e q p = omega arith
piece_short Again k e q p = omega arith
piece_short Rounds k e q p = omega (arith, settling_short q)
piece_short Seq k e q p = omega arith
piece_short And k e q p = omega arith
piece_short Or k e q p = rw (length-append, length-append) (omega (arith, settling_short p, settling_short q))
piece_short Xor k e q p = omega arith

-- One more on a stack.
pub stacked_push : {A : Type 0} (s t : List A) (x : A) → t ≡ s ++ (x ∷ []) → stacked t ≡ x ∷ stacked s
stacked_push s t x e = rw e (reverse-append s (x ∷ []))

module _ (ops : List Code) (start : Table) (i : ℕ) (rows : Table) (event : ℕ) (parts : List PartRows) (needs : List Needs) where
  -- One code more.
  pub first_turn : FirstTo ops start i rows event parts needs → (op : Code) → take (i + 1) ops ≡ take i ops ++ (op ∷ []) → (n : ℕ)
      → (n ≡ event_count op) × (n ≤ 1) → (a : Added) (v : Table) (kept parts' : List PartRows) (needs' : List Needs)
      → Makes (latest_piece op rows.next event (stacked parts)) rows v a → stacked kept ≡ others op (stacked parts) → length kept ≤ length parts
      → parts' ≡ kept ++ (a.part ∷ []) → needs' ≡ needs ++ (a.needs ∷ []) → FirstTo ops start (i + 1) v (event + n) parts' needs'
  unfolding first_step
  first_turn u op t n c a v kept parts' needs' m k f q r =
      let base = base_of start.events in
      let one = m.its_rows in
      record {
        same = one.same ∙ u.same;
        its_events = one.its_events ∙ u.its_events;
        few_rows = omega (arith, one.its_next, u.few_rows, piece_short op rows.next event (top no_rows (stacked parts)) (top no_rows (rest (stacked parts))));
        few_events = omega (arith, c.1, u.few_events);
        few_parts = omega (arith, f, u.few_parts, ap length q, length-append kept (a.part ∷ []));
        few_needs = omega (arith, u.few_needs, ap length r, length-append needs (a.needs ∷ []));
        its_state =
            rw (stacked_push kept parts' a.part q, stacked_push needs needs' a.needs r, k, m.its_part, m.its_needs, one.its_next, one.its_bytes, u.its_events, c.0)
            (ap (λ (x : FirstAt). first_step base x op) u.its_state
            ∙ rw t (sym (foldl-append (first_step base) (first_start 3 start.out.now) (take i ops) (op ∷ []))));
      }
