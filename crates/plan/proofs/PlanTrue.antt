-- The rows of the first pass say of each part of a process what the control bits say of it.
use mathlib.Core.Path.{◌≡◌, refl, sym, ◌∙◌, ap, ap₂}
use mathlib.Core.Bool.{Bool, true, not, ◌&&◌, ◌||◌, or_comm, or-not_self}
use mathlib.Core.List.{List, [], ◌∷◌, ◌++◌}
use Prim.Native.Nat.{ℕ, zero, suc, ◌+◌, ◌≤◌, ◌<◌}
use native.Mathlib.Omega.{arith}
use Rattle.std.specs.Prelude.{Some, None}
use lib.ListN.{length, length-append, get_or}
use Rattle.process.specs.Process.{Joint, seq, and, or, xor, Event, Process, event, join, again, rounds}
use Rattle.process.specs.Bits.{Bits}
use Rattle.process.specs.Guards.{begun, complete}
use Rattle.process.proofs.Numbered.{Numbered, size}
use Rattle.process.proofs.Settled.{loop_settled, some_settled}
use Rattle.layout.specs.Fields.{bit_row, not_row, both_row, either_row}
use Rattle.plan.specs.Pieces.{part_rows, event_piece, again_piece, rounds_piece, join_piece, some_piece, settled_piece, settling, settled_row}
use Rattle.postfix.specs.Fold.{fold}
use Rattle.plan.specs.Plan.{joined, plan_of}
use Rattle.plan.specs.declared.PartRows.{PartRows}
use Rattle.layout.specs.Values.{says}
use Rattle.plan.proofs.Says.{Obeys, PartAgrees, Below, by_option, settled_by}
use Rattle.layout.proofs.Decoded.{bit_says, not_says, both_says, either_says}
use Rattle.plan.proofs.Within.{obeys_split, below_more, settled_below, join_length, plan_below}

module _ (s : Bits) (v : ℕ → Bool) where
  -- The i-th of the rows from k on says what its word says.
  pub row_says : (k : ℕ) (ws : List ℕ) (i x : ℕ) → Obeys s v k ws → x ≡ k + i → i < length ws → v x ≡ says (get_or ws i 0) s v
  unfolding Obeys
  row_says k [] i x h e l = absurd (omega (arith, l))
  row_says k (w ∷ ws) zero x h e l = let q : x ≡ k = omega arith in ap v q ∙ h.0
  row_says k (w ∷ ws) (suc i) x h e l = row_says (suc k) ws i x h.1 (omega arith) (omega arith)

  -- ---- the pieces
  -- The rows of a leaf: its event's bit, and that it is not set.
  leaf_rows : (n k : ℕ) → n < 512 → k + 2 ≤ 16384 → Obeys s v k (bit_row n ∷ not_row k ∷ []) → (v k ≡ s n) × (v (k + 1) ≡ not (s n))
  leaf_rows n k small room h =
      let b : v k ≡ s n = row_says k _ 0 k h (omega arith) (omega arith) ∙ bit_says s v n (omega arith) in
      (b, row_says k _ 1 (k + 1) h (omega arith) (omega arith) ∙ (not_says s v k (omega arith) ∙ ap not b))

  event_true : (n : ℕ) (l : Event) (k : ℕ) → v 2 ≡ true → (v k ≡ s n) × (v (k + 1) ≡ not (s n)) → PartAgrees (event n l) s v (event_piece k n).part
  unfolding begun complete
  event_true n l k on h = record { its_begun = h.0; its_idle = h.1; its_done = h.0; its_settled = settled_by v _ _ (on ∙ sym (or-not_self (s n))) }

  again_true : (n : ℕ) (l : Event) (k : ℕ) → v 2 ≡ true → (v k ≡ s n) × (v (k + 1) ≡ not (s n)) → PartAgrees (again n l) s v (again_piece k n).part
  unfolding begun complete
  again_true n l k on h = record { its_begun = h.0; its_idle = h.1; its_done = on; its_settled = settled_by v _ _ on }

  -- A part is settled by its own row or by the new one.
  settled_true : (p : Process) (k lo : ℕ) (m : PartRows) → k ≤ 16384 → Below k lo m → PartAgrees p s v m → Obeys s v k (settling m)
      → v (settled_row k m) ≡ (complete p s || not (begun p s))
  settled_true p k lo m room a t h = by_option m.settled new own
    where
      new : m.settled ≡ None → v (settled_row k m) ≡ (complete p s || not (begun p s))
      new e =
          let first : get_or (settling m) 0 0 ≡ either_row m.done m.idle = rw e refl in
          let some : 1 ≤ length (settling m) = rw e (omega arith) in
          rw e
          (row_says k (settling m) 0 k h (omega arith) some
          ∙ (ap (λ w. says w s v) first ∙ (either_says s v m.done m.idle (omega arith) (omega arith) ∙ ap₂ ◌||◌ t.its_done t.its_idle)))

      own : (row : ℕ) → m.settled ≡ Some row → v (settled_row k m) ≡ (complete p s || not (begun p s))
      own row e = rw e (t.its_settled row e)

  rounds_true : (p : Process) (r : ℕ) (l : Event) (k lo : ℕ) (m : PartRows) → r < 512 → k + length (rounds_piece k r m).words ≤ 16384 → Below k lo m
      → PartAgrees p s v m → Obeys s v k (rounds_piece k r m).words → PartAgrees (rounds p r l) s v (rounds_piece k r m).part
  unfolding begun complete
  rounds_true p r l k lo m small room low t h =
      let c : v k ≡ s r = row_says k _ 0 k h (omega arith) (omega arith) ∙ bit_says s v r (omega arith) in
      let word : get_or (rounds_piece k r m).words 1 0 ≡ either_row m.begun k = omega arith in
      let b : v (k + 1) ≡ (begun p s || s r) =
      row_says k _ 1 (k + 1) h (omega arith) (omega arith)
      ∙ (ap (λ w. says w s v) word ∙ (either_says s v m.begun k (omega arith) (omega arith) ∙ ap₂ ◌||◌ t.its_begun c))
      in
      let three = bit_row r ∷ either_row m.begun k ∷ not_row (k + 1) ∷ [] in
      let d = settled_true p (k + 3) lo m (omega arith) (below_more k (k + 3) lo m (omega arith) low) t (obeys_split s v k three (settling m) h).1 in
      record {
        its_begun = b;
        its_idle = row_says k _ 2 (k + 2) h (omega arith) (omega arith) ∙ (not_says s v (k + 1) (omega arith) ∙ ap not b);
        its_done = d ∙ or_comm (complete p s) (not (begun p s));
        its_settled = settled_by v _ _ (d ∙ loop_settled (begun p s) (complete p s) (s r));
      }

  module _ (p q : Process) (k lo hi : ℕ) (m n : PartRows) (room : k ≤ 16384) (a : Below k lo m) (b : Below k hi n)
      (t : PartAgrees p s v m) (r : PartAgrees q s v n) where
    -- What the pieces of all joints share: the rows that a part is begun, and that none is.
    one_begun : (ws : List ℕ) → Obeys s v k (either_row m.begun n.begun ∷ not_row k ∷ ws) → v k ≡ (begun p s || begun q s)
    one_begun ws h =
        row_says k _ 0 k h (omega arith) (omega arith)
        ∙ (either_says s v m.begun n.begun (omega arith) (omega arith) ∙ ap₂ ◌||◌ t.its_begun r.its_begun)

    none_begun : (ws : List ℕ) → Obeys s v k (either_row m.begun n.begun ∷ not_row k ∷ ws) → v (k + 1) ≡ not (begun p s || begun q s)
    none_begun ws h = row_says k _ 1 (k + 1) h (omega arith) (omega arith) ∙ (not_says s v k (omega arith) ∙ ap not (one_begun ws h))

    -- A joint that has one row more, by which it is complete.
    three_true : (j : Joint) (w : ℕ) → Obeys s v k (either_row m.begun n.begun ∷ not_row k ∷ w ∷ []) → says w s v ≡ complete (join j p q) s
        → PartAgrees (join j p q) s v (part_rows k (k + 1) (k + 2) None m.first)
    unfolding begun
    three_true j w h c = record {
      its_begun = one_begun (w ∷ []) h;
      its_idle = none_begun (w ∷ []) h;
      its_done = row_says k _ 2 (k + 2) h (omega arith) (omega arith) ∙ c;
      its_settled = λ row z. absurd (cc);
    }

    both_done : says (both_row m.done n.done) s v ≡ (complete p s && complete q s)
    both_done = both_says s v m.done n.done (omega arith) (omega arith) ∙ ap₂ ◌&&◌ t.its_done r.its_done

    one_done : says (either_row m.done n.done) s v ≡ (complete p s || complete q s)
    one_done = either_says s v m.done n.done (omega arith) (omega arith) ∙ ap₂ ◌||◌ t.its_done r.its_done

    -- Either part or both, which are settled by rows x and y.
    some_true : (x y : ℕ) → k + 4 ≤ 16384 → x < k → y < k → v x ≡ (complete p s || not (begun p s)) → v y ≡ (complete q s || not (begun q s))
        → Obeys s v k (settled_piece k m n x y).words → PartAgrees (join or p q) s v (settled_piece k m n x y).part
    unfolding begun complete
    some_true x y more f g c d h =
        let w : v (k + 2) ≡ ((complete p s || not (begun p s)) && (complete q s || not (begun q s))) =
        row_says k _ 2 (k + 2) h (omega arith) (omega arith) ∙ (both_says s v x y (omega arith) (omega arith) ∙ ap₂ ◌&&◌ c d)
        in
        let word : get_or (settled_piece k m n x y).words 3 0 ≡ both_row k (k + 2) = omega arith in
        record {
          its_begun = one_begun _ h;
          its_idle = none_begun _ h;
          its_done =
              row_says k _ 3 (k + 3) h (omega arith) (omega arith)
              ∙ (ap (λ x. says x s v) word ∙ (both_says s v k (k + 2) (omega arith) (omega arith) ∙ ap₂ ◌&&◌ (one_begun _ h) w));
          its_settled = settled_by v _ _ (w ∙ some_settled (begun p s) (begun q s) (complete p s) (complete q s));
        }

  -- The same, with the rows that settle the parts.
  choice_true : (p q : Process) (k lo hi : ℕ) (m n : PartRows) → k + length (some_piece k m n).words ≤ 16384 → Below k lo m → Below k hi n
      → PartAgrees p s v m → PartAgrees q s v n → Obeys s v k (some_piece k m n).words → PartAgrees (join or p q) s v (some_piece k m n).part
  choice_true p q k lo hi m n room a b t r h =
      let i : ℕ = k + length (settling m) in
      let x : ℕ = settled_row k m in
      let y : ℕ = settled_row i n in
      let ws = (settled_piece (i + length (settling n)) m n x y).words in
      let e = length-append (settling m) (settling n) in
      let z : k + length ((settling m ++ settling n) ++ ws) ≡ i + length (settling n) + 4 = rw (length-append, length-append) (omega arith) in
      let u = obeys_split s v k (settling m ++ settling n) ws h in
      let w = obeys_split s v k (settling m) (settling n) u.0 in
      let g : k + length (settling m ++ settling n) ≡ i + length (settling n) = omega arith in
      let c = below_more k i hi n (omega arith) b in
      let f = settled_below k lo m a in
      some_true p q (i + length (settling n)) lo hi m n (omega arith)
      (below_more k _ lo m (omega arith) a) (below_more k _ hi n (omega arith) b) t r x y (omega arith) (omega arith) (settled_below i hi n c)
      (settled_true p k lo m (omega arith) a t w.0) (settled_true q i hi n (omega arith) c r w.1) (rw g at u.1)

  -- Any joint.
  join_true : (j : Joint) (p q : Process) (k lo hi : ℕ) (m n : PartRows) → k + length (join_piece j k m n).words ≤ 16384
      → Below k lo m → Below k hi n → PartAgrees p s v m → PartAgrees q s v n → Obeys s v k (join_piece j k m n).words
      → PartAgrees (join j p q) s v (join_piece j k m n).part
  unfolding complete
  join_true seq p q k lo hi m n room a b t r h =
      three_true p q k lo hi m n (omega arith) a b t r seq (both_row m.done n.done) h (both_done p q k lo hi m n (omega arith) a b t r)
  join_true and p q k lo hi m n room a b t r h =
      three_true p q k lo hi m n (omega arith) a b t r and (both_row m.done n.done) h (both_done p q k lo hi m n (omega arith) a b t r)
  join_true or p q k lo hi m n room a b t r h = choice_true p q k lo hi m n room a b t r h
  join_true xor p q k lo hi m n room a b t r h =
      three_true p q k lo hi m n (omega arith) a b t r xor (either_row m.done n.done) h (one_done p q k lo hi m n (omega arith) a b t r)

  -- ---- the process
  -- Where the values are those of a process's rows, its rows say of it what the bits say.
  pub plan_true : (p : Process) (k lo : ℕ) → Numbered p lo → lo + size p ≤ 512 → 3 ≤ k → k + length (plan_of p k).words ≤ 16384 → v 2 ≡ true
      → Obeys s v k (plan_of p k).words → PartAgrees p s v (plan_of p k).part
  unfolding fold Numbered size
  plan_true (event n l) k lo num few g room on h = event_true n l k on (leaf_rows n k (omega (arith, num)) (omega arith) h)
  plan_true (join j p q) k lo num few g room on h =
      let a = plan_of p k in
      let i : ℕ = k + length a.words in
      let b = plan_of q i in
      let ws = (joined j k a b).words in
      let z = join_length k a.words b.words ws in
      let x = obeys_split s v k a.words (b.words ++ ws) h in
      let y = obeys_split s v i b.words ws x.1 in
      join_true j p q (i + length b.words) lo (lo + size p) a.part b.part (omega arith)
      (below_more i _ lo a.part (omega arith) (plan_below p k lo num.0 g)) (plan_below q i (lo + size p) num.1 (omega arith))
      (plan_true p k lo num.0 (omega arith) g (omega arith) on x.0)
      (plan_true q i (lo + size p) num.1 (omega arith) (omega arith) (omega arith) on y.0) y.1
  plan_true (again n l) k lo num few g room on h = again_true n l k on (leaf_rows n k (omega (arith, num)) (omega arith) h)
  plan_true (rounds p r l) k lo num few g room on h =
      let a = plan_of p k in
      let i : ℕ = k + length a.words in
      let ws = (rounds_piece i r a.part).words in
      let z = length-append a.words ws in
      let x = obeys_split s v k a.words ws h in
      rounds_true p r l i lo a.part (omega (arith, num.1)) (omega arith) (plan_below p k lo num.0 g)
      (plan_true p k lo num.0 (omega arith) g (omega arith) on x.0) x.1
