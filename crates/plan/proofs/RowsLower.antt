-- The rows that the two passes write keep the sentences on rows: each names only rows below its own.
use mathlib.Core.Path.{◌≡◌, refl}
use mathlib.Core.List.{List, [], ◌∷◌, ◌++◌}
use Prim.Native.Nat.{ℕ, suc, ◌+◌, ◌≤◌, ◌<◌}
use native.Mathlib.Omega.{arith}
use lib.ListN.{length, length-append}
use Rattle.process.specs.Process.{Joint, seq, and, or, xor, Process, event, join, again, rounds}
use Rattle.process.proofs.Numbered.{Numbered, size}
use Rattle.layout.specs.Sound.{RowKeeps}
use Rattle.layout.specs.Fields.{bit_row, not_row, both_row, either_row}
use Rattle.plan.specs.Pieces.{rounds_piece, all_piece, one_piece, settling, settled_row, settled_piece, some_piece, join_piece}
use Rattle.postfix.specs.Fold.{fold}
use Rattle.plan.specs.Plan.{plan_of, guards_of, joined, joint_words, later_gate, earlier_gate}
use Rattle.plan.specs.declared.PartRows.{PartRows}
use Rattle.plan.specs.declared.Needs.{Needs}
use Rattle.plan.proofs.Says.{Lower, Below, by_option}
use Rattle.layout.proofs.Decoded.{Fields, bit_fields, not_fields, both_fields, either_fields}
use Rattle.plan.proofs.Within.{lower_join, below_more, settled_below, rounds_below, join_length, plan_below}
use Rattle.plan.proofs.Gates.{gates_below}

-- ---- one row
-- A row before others, by its fields. What it has to name depends on its kind.
row_first : (n k w kind left right : ℕ) (ws : List ℕ) → Fields w kind left right → (kind ≡ 0 → left < n) → (kind < 2 → right ≡ 0)
    → (1 ≤ kind → left < k) → (2 ≤ kind → right < k) → Lower n (suc k) ws → Lower n k (w ∷ ws)
unfolding Lower
row_first n k w kind left right ws f a b c d h = (keeps, f.small, h)
  where
    keeps : RowKeeps w n k
    keeps = record {
      bit_below = rw (f.its_kind, f.its_left) a;
      right_zero = rw (f.its_kind, f.its_right) b;
      left_lower = rw (f.its_kind, f.its_left) c;
      right_lower = rw (f.its_kind, f.its_right) d;
    }

-- The four forms of rows, each before other rows: a control bit below n, or rows below its own.
module _ (n k : ℕ) (ws : List ℕ) where
  pub bit_first : (e : ℕ) → e < n → n ≤ 512 → Lower n (suc k) ws → Lower n k (bit_row e ∷ ws)
  bit_first e h m = row_first n k (bit_row e) 0 e 0 ws (bit_fields e (omega arith)) (λ z. h) (λ z. refl) (λ z. omega arith) (λ z. omega arith)

  pub not_first : (a : ℕ) → a < k → k ≤ 16384 → Lower n (suc k) ws → Lower n k (not_row a ∷ ws)
  not_first a h m = row_first n k (not_row a) 1 a 0 ws (not_fields a (omega arith)) (λ z. omega arith) (λ z. refl) (λ z. h) (λ z. omega arith)

  pub both_first : (a b : ℕ) → a < k → b < k → k ≤ 16384 → Lower n (suc k) ws → Lower n k (both_row a b ∷ ws)
  both_first a b h g m =
      row_first n k (both_row a b) 2 a b ws (both_fields a b (omega arith) (omega arith)) (λ z. omega arith) (λ z. omega arith) (λ z. h) (λ z. g)

  pub either_first : (a b : ℕ) → a < k → b < k → k ≤ 16384 → Lower n (suc k) ws → Lower n k (either_row a b ∷ ws)
  either_first a b h g m =
      row_first n k (either_row a b) 3 a b ws (either_fields a b (omega arith) (omega arith)) (λ z. omega arith) (λ z. omega arith) (λ z. h) (λ z. g)

pub no_rows : (n k : ℕ) → Lower n k []
unfolding Lower
no_rows n k = tt

-- ---- the rows of a part
leaf_lower : (n k e : ℕ) → e < n → n ≤ 512 → k + 2 ≤ 16384 → Lower n k (bit_row e ∷ not_row k ∷ [])
leaf_lower n k e h m c =
    bit_first n k (not_row k ∷ []) e h m (not_first n (suc k) [] k (omega arith) (omega arith) (no_rows n (suc (suc k))))

-- A row that a part is complete or not begun, where one is needed.
settling_lower : (n k lo : ℕ) (m : PartRows) → Below k lo m → k ≤ 16384 → Lower n k (settling m)
settling_lower n k lo m b c =
    by_option m.settled
    (λ t. rw t (either_first n k [] m.done m.idle b.its_done b.its_idle c (no_rows n (suc k)))) (λ row f. rw f (no_rows n k))

rounds_lower : (n k lo e : ℕ) (m : PartRows) → Below k lo m → e < n → n ≤ 512 → k + length (rounds_piece k e m).words ≤ 16384
    → Lower n k (rounds_piece k e m).words
rounds_lower n k lo e m b h few c =
    bit_first n k (either_row m.begun k ∷ not_row (k + 1) ∷ settling m) e h few
    (either_first n (suc k) (not_row (k + 1) ∷ settling m) m.begun k (omega arith) (omega arith) (omega arith)
    (not_first n (suc (suc k)) (settling m) (k + 1) (omega arith) (omega arith)
    (settling_lower n (suc (suc (suc k))) lo m (below_more k _ lo m (omega arith) b) (omega arith))))

-- Two parts whose rows are below k, the first row of their joint.
module _ (n k first second : ℕ) (p q : PartRows) (a : Below k first p) (b : Below k second q) where
  -- The two rows that every joint begins with, here from row l on.
  heads_lower : (l : ℕ) (ws : List ℕ) → k ≤ l → l + 2 ≤ 16384 → Lower n (suc (suc l)) ws
      → Lower n l (either_row p.begun q.begun ∷ not_row l ∷ ws)
  heads_lower l ws h c r =
      either_first n l (not_row l ∷ ws) p.begun q.begun (omega (arith, a.its_begun)) (omega (arith, b.its_begun)) (omega arith)
      (not_first n (suc l) ws l (omega arith) (omega arith) r)

  some_lower : (l x y : ℕ) → k ≤ l → l + 4 ≤ 16384 → x < l → y < l → Lower n l (settled_piece l p q x y).words
  some_lower l x y h c f g =
      heads_lower l (both_row x y ∷ both_row l (l + 2) ∷ []) h (omega arith)
      (both_first n (suc (suc l)) (both_row l (l + 2) ∷ []) x y (omega arith) (omega arith) (omega arith)
      (both_first n (suc (suc (suc l))) [] l (l + 2) (omega arith) (omega arith) (omega arith) (no_rows n _)))

  or_lower : k + length (some_piece k p q).words ≤ 16384 → Lower n k (some_piece k p q).words
  or_lower h =
      let s = length (settling p) in
      let t = length (settling q) in
      let x = settled_row k p in
      let y = settled_row (k + s) q in
      let z = length-append (settling p ++ settling q) (settled_piece (k + s + t) p q x y).words in
      let w = length-append (settling p) (settling q) in
      let e : k + length (settling p ++ settling q) ≡ k + s + t = omega arith in
      let d = below_more k (k + s) second q (omega arith) b in
      lower_join n k (settling p ++ settling q) (settled_piece (k + s + t) p q x y).words
      (lower_join n k (settling p) (settling q) (settling_lower n k first p a (omega arith)) (settling_lower n (k + s) second q d (omega arith)))
      (rw e (some_lower (k + s + t) x y (omega arith) (omega arith) (omega (arith, settled_below k first p a)) (settled_below (k + s) second q d)))

  both_lower : k + 3 ≤ 16384 → Lower n k (all_piece k p q).words
  both_lower h =
      heads_lower k (both_row p.done q.done ∷ []) (omega arith) (omega arith)
      (both_first n (suc (suc k)) [] p.done q.done (omega (arith, a.its_done)) (omega (arith, b.its_done)) (omega arith)
      (no_rows n (suc (suc (suc k)))))

  one_lower : k + 3 ≤ 16384 → Lower n k (one_piece k p q).words
  one_lower h =
      heads_lower k (either_row p.done q.done ∷ []) (omega arith) (omega arith)
      (either_first n (suc (suc k)) [] p.done q.done (omega (arith, a.its_done)) (omega (arith, b.its_done)) (omega arith)
      (no_rows n (suc (suc (suc k)))))

  join_lower : (j : Joint) → k + length (join_piece j k p q).words ≤ 16384 → Lower n k (join_piece j k p q).words
  join_lower seq h = both_lower h
  join_lower and h = both_lower h
  join_lower or h = or_lower h
  join_lower xor h = one_lower h

-- The two rows that the second pass needs of a joint are below k, if those of its parts are.
needed_below : (j : Joint) (k l first second : ℕ) (p q : PartRows) → Below k first p → Below k second q → 3 ≤ k
    → ((join_piece j l p q).needs.later < k) × ((join_piece j l p q).needs.earlier < k)
needed_below seq k l first second p q a b h = (omega (arith, a.its_done), omega (arith, b.its_idle))
needed_below and k l first second p q a b h = (omega (arith, a.its_done), omega (arith, b.its_idle))
needed_below or k l first second p q a b h = (omega arith, omega arith)
needed_below xor k l first second p q a b h = (omega (arith, a.its_idle), omega (arith, b.its_idle))

-- The rows that the second pass adds for a joint.
coupled_lower : (n k m x y : ℕ) → m < k → x < k → y < k → k + 2 ≤ 16384 → Lower n k (both_row m x ∷ both_row m y ∷ [])
coupled_lower n k m x y h f g c =
    both_first n k (both_row m y ∷ []) m x h f (omega arith)
    (both_first n (suc k) [] m y (omega arith) (omega arith) (omega arith) (no_rows n (suc (suc k))))

own_lower : (j : Joint) (n k m : ℕ) (w : Needs) → m < k → w.later < k → w.earlier < k → k + length (joint_words j m w) ≤ 16384
    → Lower n k (joint_words j m w)
own_lower seq n k m w h f g c = coupled_lower n k m w.later w.earlier h f g c
own_lower and n k m w h f g c = no_rows n k
own_lower or n k m w h f g c = no_rows n k
own_lower xor n k m w h f g c = coupled_lower n k m w.later w.earlier h f g c

-- ---- the rows of a process
-- The rows of the first pass, where the process's first row is k and there are n events.
pub plan_lower : (n : ℕ) (p : Process) (k lo : ℕ) → Numbered p lo → lo + size p ≤ n → n ≤ 512 → 3 ≤ k → k + length (plan_of p k).words ≤ 16384
    → Lower n k (plan_of p k).words
unfolding fold size Numbered
plan_lower n (event e l) k lo num few c g h = leaf_lower n k e (omega arith) c h
plan_lower n (join j p q) k lo num few c g h =
    let a = plan_of p k in
    let l = k + length a.words in
    let b = plan_of q l in
    let o = joined j k a b in
    let z = join_length k a.words b.words o.words in
    let x = below_more l (l + length b.words) lo a.part (omega arith) (plan_below p k lo num.0 g) in
    let y = plan_below q l (lo + size p) num.1 (omega arith) in
    lower_join n k a.words (b.words ++ o.words) (plan_lower n p k lo num.0 (omega arith) c g (omega arith))
    (lower_join n l b.words o.words (plan_lower n q l (lo + size p) num.1 (omega arith) c (omega arith) (omega arith))
    (join_lower n (l + length b.words) lo (lo + size p) a.part b.part x y j (omega arith)))
plan_lower n (again e l) k lo num few c g h = leaf_lower n k e (omega arith) c h
plan_lower n (rounds p r l) k lo num few c g h =
    let a = plan_of p k in
    let o = rounds_piece (k + length a.words) r a.part in
    let z = length-append a.words o.words in
    lower_join n k a.words o.words (plan_lower n p k lo num.0 (omega arith) c g (omega arith))
    (rounds_lower n (k + length a.words) lo r a.part (plan_below p k lo num.0 g) (omega arith) c (omega arith))

-- The rows of the second pass, where the process's first row is k, its first row in the first pass was u, and it may go on by row m.
pub guards_lower : (n : ℕ) (p : Process) (u k m lo : ℕ) → Numbered p lo → lo + size p ≤ n → n ≤ 512 → 3 ≤ u → u + length (plan_of p u).words ≤ k
    → m < k → k + length (guards_of p u k m).words ≤ 16384 → Lower n k (guards_of p u k m).words
unfolding fold guards_of size Numbered
guards_lower n (event e l) u k m lo num few c g v b h =
    both_first n k [] m _ b (omega arith) (omega arith) (no_rows n (suc k))
guards_lower n (join j p q) u k m lo num few c g v b h =
    let pa = plan_of p u in
    let w = u + length pa.words in
    let qa = plan_of q w in
    let o = joined j u pa qa in
    let ws = joint_words j m o.needs in
    let after = guards_of q w (k + length ws) (later_gate j k m) in
    let before = guards_of p u (k + length ws + length after.words) (earlier_gate j k m) in
    let y = join_length u pa.words qa.words o.words in
    let z = join_length k ws after.words before.words in
    let gates = gates_below j k m (k + length ws) o.needs (omega (arith, b)) (omega arith) in
    let x = below_more w k lo pa.part (omega arith) (plan_below p u lo num.0 g) in
    let t = below_more (w + length qa.words) k (lo + size p) qa.part (omega arith) (plan_below q w (lo + size p) num.1 (omega arith)) in
    let needed = needed_below j k (w + length qa.words) lo (lo + size p) pa.part qa.part x t (omega arith) in
    lower_join n k ws (after.words ++ before.words) (own_lower j n k m o.needs b needed.0 needed.1 (omega arith))
    (lower_join n (k + length ws) after.words before.words
    (guards_lower n q w (k + length ws) (later_gate j k m) (lo + size p) num.1 (omega arith) c (omega arith) (omega arith)
    gates.its_later (omega arith))
    (guards_lower n p u (k + length ws + length after.words) (earlier_gate j k m) lo num.0 (omega arith) c g (omega arith)
    (omega (arith, gates.its_earlier)) (omega arith)))
guards_lower n (again e l) u k m lo num few c g v b h = no_rows n k
guards_lower n (rounds p r l) u k m lo num few c g v b h =
    let pa = plan_of p u in
    let o = rounds_piece (u + length pa.words) r pa.part in
    let z = length-append pa.words o.words in
    let x = rounds_below (u + length pa.words) lo r pa.part (plan_below p u lo num.0 g) in
    both_first n k (guards_of p u (suc k) m).words _ _ (omega (arith, x.1)) (omega (arith, x.1)) (omega arith)
    (guards_lower n p u (suc k) m lo num.0 (omega arith) c g (omega arith) (omega arith) (omega arith))
