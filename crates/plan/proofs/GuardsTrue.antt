-- The rows of the second pass say of each event what the control bits say: its guard holds where its process
-- may go on and the event may be taken next.
use mathlib.Core.Path.{◌≡◌, sym, ◌∙◌, ap}
use mathlib.Core.Bool.{Bool, true, false, not, ◌&&◌, and-true, and_assoc, and_comm}
use mathlib.Core.List.{List, [], ◌∷◌, ◌++◌}
use Prim.Native.Nat.{ℕ, suc, ◌+◌, ◌-◌, ◌≤◌, ◌<◌}
use native.Mathlib.Omega.{arith}
use lib.ListN.{length, length-append, get_or}
use Rattle.base.proofs.Truth.{is_false}
use Rattle.process.specs.Process.{Joint, seq, and, or, xor, Event, Process, event, join, again, rounds, owns}
use Rattle.process.specs.Bits.{Bits}
use Rattle.process.specs.Guards.{begun, complete, enabled}
use Rattle.process.proofs.Numbered.{Numbered, size, interval}
use Rattle.layout.specs.Fields.{guard_of, both_row, event_record}
use Rattle.plan.specs.Pieces.{rounds_piece, join_piece}
use Rattle.postfix.specs.Fold.{fold}
use Rattle.plan.specs.Plan.{Plan, Guards, joined, plan_of, later_gate, earlier_gate, joint_words, guards_of}
use Rattle.plan.specs.declared.PartRows.{PartRows}
use Rattle.layout.specs.Values.{says}
use Rattle.plan.proofs.Says.{Obeys, PartAgrees, Below}
use Rattle.layout.proofs.Decoded.{both_says}
use Rattle.layout.proofs.Decoded.{record_fields}
use Rattle.plan.proofs.Within.{obeys_split, records_cases, one_record, below_more, join_length, plan_below}
use Rattle.plan.proofs.Lengths.{records_length}
use Rattle.plan.proofs.Gates.{GatesBelow, gates_below}
use Rattle.plan.proofs.PlanTrue.{row_says, plan_true}

and_swap : (a b c : Bool) → ((a && b) && c) ≡ (a && (c && b))
and_swap a b c = and_assoc a b c ∙ ap (λ w. a && w) (and_comm b c)

-- A number after those of a process is none of its events.
above : (p : Process) (lo e : ℕ) → Numbered p lo → lo + size p ≤ e → owns p e ≡ false
above p lo e h g = is_false (owns p e) (λ o. let b = (interval p lo e h).0 o in omega arith)

-- ---- what a joint asks
-- What a joint asks before its later part may go on, and before its earlier part may.
abbrev later_ok : Joint → Process → Bits → Bool
later_ok seq p s = complete p s
later_ok and p s = true
later_ok or p s = true
later_ok xor p s = not (begun p s)

abbrev earlier_ok : Joint → Process → Bits → Bool
earlier_ok seq q s = not (begun q s)
earlier_ok and q s = true
earlier_ok or q s = true
earlier_ok xor q s = not (begun q s)

enabled_later : (j : Joint) (p q : Process) (s : Bits) (e : ℕ) → owns p e ≡ false → enabled (join j p q) s e ≡ (enabled q s e && later_ok j p s)
unfolding enabled
enabled_later seq p q s e o = rw o
enabled_later and p q s e o = rw o (sym (and-true (enabled q s e)))
enabled_later or p q s e o = rw o (sym (and-true (enabled q s e)))
enabled_later xor p q s e o = rw o

enabled_earlier : (j : Joint) (p q : Process) (s : Bits) (e : ℕ) → owns p e ≡ true → enabled (join j p q) s e ≡ (enabled p s e && earlier_ok j q s)
unfolding enabled
enabled_earlier seq p q s e o = rw o
enabled_earlier and p q s e o = rw o (sym (and-true (enabled p s e)))
enabled_earlier or p q s e o = rw o (sym (and-true (enabled p s e)))
enabled_earlier xor p q s e o = rw o

module _ (s : Bits) (v : ℕ → Bool) where
  -- A row that lets a part go on by row m and one more row.
  gate_says : (row m x : ℕ) (z : Bool) → m < 16384 → x < 16384 → v x ≡ z → v row ≡ says (both_row m x) s v → v row ≡ (v m && z)
  gate_says row m x z f g e h = h ∙ (both_says s v m x (omega arith) (omega arith) ∙ ap (λ w. v m && w) e)

  -- What the guard of an event record says.
  guard_row : (row first count : ℕ) (z : Bool) → row < 16384 → first < 512 → count < 512 → v row ≡ z → v (guard_of (event_record row first count)) ≡ z
  guard_row row first count z f g h e = ap v (record_fields row first count f g h).its_guard ∙ e

  -- ---- the rows of a joint
  module _ (p q : Process) (u k m lo hi : ℕ) (a b : PartRows) (room : u ≤ 16384) (small : m < 16384) (la : Below u lo a) (lb : Below u hi b)
      (t : PartAgrees p s v a) (r : PartAgrees q s v b) where
    later_true : (j : Joint) → Obeys s v k (joint_words j m (join_piece j u a b).needs) → v (later_gate j k m) ≡ (v m && later_ok j p s)
    later_true seq h = gate_says k m a.done (complete p s) small (omega arith) t.its_done (row_says s v k _ 0 k h (omega arith) (omega arith))
    later_true and h = sym (and-true (v m))
    later_true or h = sym (and-true (v m))
    later_true xor h = gate_says k m a.idle (not (begun p s)) small (omega arith) t.its_idle (row_says s v k _ 0 k h (omega arith) (omega arith))

    earlier_true : (j : Joint) → Obeys s v k (joint_words j m (join_piece j u a b).needs) → v (earlier_gate j k m) ≡ (v m && earlier_ok j q s)
    earlier_true seq h =
        gate_says (k + 1) m b.idle (not (begun q s)) small (omega arith) r.its_idle (row_says s v k _ 1 (k + 1) h (omega arith) (omega arith))
    earlier_true and h = sym (and-true (v m))
    earlier_true or h = sym (and-true (v m))
    earlier_true xor h =
        gate_says (k + 1) m b.idle (not (begun q s)) small (omega arith) r.its_idle (row_says s v k _ 1 (k + 1) h (omega arith) (omega arith))

  -- ---- a part in its place
  -- A process whose events begin at lo, with its rows of the first pass from u on and those of the second from k on, which may go on by m.
  record Stands (p : Process) (u k m lo : ℕ) : Type 0 where
    numbered : Numbered p lo
    few : lo + size p ≤ 512
    low : 3 ≤ u
    room_first : u + length (plan_of p u).words ≤ 16384
    room_second : k + length (guards_of p u k m).words ≤ 16384
    small : m < 16384
    on : v 2 ≡ true
    obeys_first : Obeys s v u (plan_of p u).words
    obeys_second : Obeys s v k (guards_of p u k m).words

  stands_true : (p : Process) (u k m lo : ℕ) → Stands p u k m lo → PartAgrees p s v (plan_of p u).part
  stands_true p u k m lo c = plan_true s v p u lo c.numbered c.few c.low c.room_first c.on c.obeys_first

  -- The body of a loop over a flow.
  body : (p : Process) (r : ℕ) (l : Event) (u k m lo : ℕ) → Stands (rounds p r l) u k m lo → Stands p u (suc k) m lo
  unfolding fold guards_of Numbered size Obeys
  body p r l u k m lo c =
      let ws = (rounds_piece (u + length (plan_of p u).words) r (plan_of p u).part).words in
      let z = length-append (plan_of p u).words ws in
      record {
        numbered = c.numbered.0;
        few = omega (arith, c.few);
        low = c.low;
        room_first = omega (arith, c.room_first, z);
        room_second = omega (arith, c.room_second);
        small = c.small;
        on = c.on;
        obeys_first = (obeys_split s v u (plan_of p u).words ws c.obeys_first).0;
        obeys_second = c.obeys_second.1;
      }

  -- The parts of a joint.
  module _ (j : Joint) (p q : Process) (u k m lo : ℕ) (c : Stands (join j p q) u k m lo) where
    -- The plans of the two parts, and their guards; first_q and second_q are the first rows of the later one.
    abbrev plan_p : Plan
    plan_p = plan_of p u

    abbrev first_q : ℕ
    first_q = u + length plan_p.words

    abbrev plan_q : Plan
    plan_q = plan_of q first_q

    abbrev own : List ℕ
    own = joint_words j m (joined j u plan_p plan_q).needs

    abbrev second_q : ℕ
    second_q = k + length own

    abbrev guards_q : Guards
    guards_q = guards_of q first_q second_q (later_gate j k m)

    abbrev guards_p : Guards
    guards_p = guards_of p u (second_q + length guards_q.words) (earlier_gate j k m)

    rows_first : Obeys s v u plan_p.words
        × (Obeys s v first_q plan_q.words × Obeys s v (first_q + length plan_q.words) (joined j u plan_p plan_q).words)
    unfolding fold
    rows_first =
        let x = obeys_split s v u plan_p.words (plan_q.words ++ (joined j u plan_p plan_q).words) c.obeys_first in
        (x.0, obeys_split s v first_q plan_q.words (joined j u plan_p plan_q).words x.1)

    rows_second : Obeys s v k own × (Obeys s v second_q guards_q.words × Obeys s v (second_q + length guards_q.words) guards_p.words)
    unfolding guards_of
    rows_second =
        let x = obeys_split s v k own (guards_q.words ++ guards_p.words) c.obeys_second in
        (x.0, obeys_split s v second_q guards_q.words guards_p.words x.1)

    length_first : u + length (plan_of (join j p q) u).words ≡ first_q + length plan_q.words + length (joined j u plan_p plan_q).words
    unfolding fold
    length_first = join_length u plan_p.words plan_q.words (joined j u plan_p plan_q).words

    length_second : k + length (guards_of (join j p q) u k m).words ≡ second_q + length guards_q.words + length guards_p.words
    unfolding guards_of
    length_second = join_length k own guards_q.words guards_p.words

    -- The rows by which the parts go on are among those written so far.
    gates : GatesBelow j k m 16384
    gates = gates_below j k m 16384 (joined j u plan_p plan_q).needs c.small (omega (arith, c.room_second, length_second))

    earlier : Stands p u (second_q + length guards_q.words) (earlier_gate j k m) lo
    unfolding Numbered size
    earlier = record {
      numbered = c.numbered.0;
      few = omega (arith, c.few);
      low = c.low;
      room_first = omega (arith, c.room_first, length_first);
      room_second = omega (arith, c.room_second, length_second);
      small = gates.its_earlier;
      on = c.on;
      obeys_first = rows_first.0;
      obeys_second = rows_second.1.1;
    }

    later : Stands q first_q second_q (later_gate j k m) (lo + size p)
    unfolding Numbered size
    later = record {
      numbered = c.numbered.1;
      few = omega (arith, c.few);
      low = omega (arith, c.low);
      room_first = omega (arith, c.room_first, length_first);
      room_second = omega (arith, c.room_second, length_second);
      small = gates.its_later;
      on = c.on;
      obeys_first = rows_first.1.0;
      obeys_second = rows_second.1.0;
    }

    below_p : Below (first_q + length plan_q.words) lo plan_p.part
    below_p = below_more first_q _ lo plan_p.part (omega arith) (plan_below p u lo earlier.numbered c.low)

    below_q : Below (first_q + length plan_q.words) (lo + size p) plan_q.part
    below_q = plan_below q first_q (lo + size p) later.numbered later.low

    -- Their gates say what the joint asks.
    goes_earlier : v (earlier_gate j k m) ≡ (v m && earlier_ok j q s)
    goes_earlier =
        earlier_true p q (first_q + length plan_q.words) k m lo (lo + size p) plan_p.part plan_q.part
        (omega (arith, later.room_first)) c.small below_p below_q
        (stands_true p u _ _ lo earlier) (stands_true q first_q _ _ (lo + size p) later) j rows_second.0

    goes_later : v (later_gate j k m) ≡ (v m && later_ok j p s)
    goes_later =
        later_true p q (first_q + length plan_q.words) k m lo (lo + size p) plan_p.part plan_q.part
        (omega (arith, later.room_first)) c.small below_p below_q
        (stands_true p u _ _ lo earlier) (stands_true q first_q _ _ (lo + size p) later) j rows_second.0

  -- ---- the process
  -- The guard of the i-th event of a process.
  guard_true : (p : Process) (u k m lo : ℕ) → Stands p u k m lo → (i e : ℕ) → e ≡ lo + i → i < size p
      → v (guard_of (get_or (guards_of p u k m).records i 0)) ≡ (v m && enabled p s e)
  unfolding fold guards_of begun enabled size Numbered Obeys
  guard_true (event n l) u k m lo c i e q h =
      one_record (λ w. v (guard_of w) ≡ (v m && not (s n))) (event_record k 0 0) i h
      (guard_row k 0 0 (v m && not (s n)) (omega (arith, c.room_second)) (omega arith) (omega arith)
      (gate_says k m (u + 1) (not (s n)) c.small (omega (arith, c.room_first)) (stands_true (event n l) u k m lo c).its_idle c.obeys_second.0))
  guard_true (join j p q) u k m lo c i e x h =
      records_cases (λ w. v (guard_of w) ≡ (v m && enabled (join j p q) s e)) (guards_p j p q u k m lo c).records
      (guards_q j p q u k m lo c).records i (size p) (records_length p _ _ _)
      (λ f.
      guard_true p u _ _ lo (earlier j p q u k m lo c) i e x f
      ∙ (ap (λ w. w && enabled p s e) (goes_earlier j p q u k m lo c)
      ∙ (and_swap (v m) (earlier_ok j q s) (enabled p s e)
      ∙ ap (λ w. v m && w) (sym (enabled_earlier j p q s e ((interval p lo e c.numbered.0).1 (omega arith)))))))
      (λ f.
      guard_true q _ _ _ (lo + size p) (later j p q u k m lo c) (i - size p) e (omega arith) (omega arith)
      ∙ (ap (λ w. w && enabled q s e) (goes_later j p q u k m lo c)
      ∙ (and_swap (v m) (later_ok j p s) (enabled q s e)
      ∙ ap (λ w. v m && w) (sym (enabled_later j p q s e (above p lo e c.numbered.0 (omega arith)))))))
  guard_true (again n l) u k m lo c i e q h =
      one_record (λ w. v (guard_of w) ≡ (v m && true)) (event_record m 0 0) i h
      (guard_row m 0 0 (v m && true) c.small (omega arith) (omega arith) (sym (and-true (v m))))
  guard_true (rounds p r l) u k m lo c i e x h =
      let y = body p r l u k m lo c in
      let z = plan_below p u lo c.numbered.0 c.low in
      records_cases (λ w. v (guard_of w) ≡ (v m && enabled (rounds p r l) s e)) (guards_of p u (suc k) m).records (_ ∷ []) i (size p)
      (records_length p u (suc k) m)
      (λ f. guard_true p u (suc k) m lo y i e x f ∙ rw ((interval p lo e c.numbered.0).1 (omega arith)))
      (λ f.
      one_record (λ w. v (guard_of w) ≡ (v m && enabled (rounds p r l) s e)) _ (i - size p) (omega arith)
      (rw (above p lo e c.numbered.0 (omega arith))
      (guard_row k (plan_of p u).part.first (r - (plan_of p u).part.first) (v m && complete p s) (omega (arith, c.room_second))
      (omega (arith, z.its_first, c.few)) (omega (arith, c.few, c.numbered.1))
      (gate_says k m (plan_of p u).part.done (complete p s) c.small (omega (arith, z.its_done, y.room_first))
      (stands_true p u (suc k) m lo y).its_done c.obeys_second.0))))

  -- The guard of each event holds where the process may go on and the event may be taken next.
  pub guards_true : (p : Process) (u k m lo : ℕ) → Numbered p lo → lo + size p ≤ 512 → 3 ≤ u → u + length (plan_of p u).words ≤ 16384
      → k + length (guards_of p u k m).words ≤ 16384 → m < 16384 → v 2 ≡ true → Obeys s v u (plan_of p u).words → Obeys s v k (guards_of p u k m).words
      → (e : ℕ) → owns p e ≡ true → v (guard_of (get_or (guards_of p u k m).records (e - lo) 0)) ≡ (v m && enabled p s e)
  guards_true p u k m lo num few low ru rk small on hu hk e o =
      let b = (interval p lo e num).0 o in
      guard_true p u k m lo
      record { numbered = num; few = few; low = low; room_first = ru; room_second = rk; small = small; on = on; obeys_first = hu; obeys_second = hk }
      (e - lo) e (omega arith) (omega arith)
