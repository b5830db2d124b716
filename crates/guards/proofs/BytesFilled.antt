-- Words written one after the other are bytes written over the front: what was there before does not matter.
use mathlib.Core.Path.{◌≡◌, refl, sym, ap, ◌∙◌}
use mathlib.Core.List.{List, [], ◌∷◌, ◌++◌, append_assoc, append-nil}
use Prim.Native.Nat.{ℕ, ◌+◌, ◌*◌, ◌/◌, ◌%◌}
use native.Mathlib.Omega.{arith}
use lib.ListN.{length, set, length-append}
use Rattle.base.specs.Fill.{fill}
use Rattle.base.specs.Packed.{put_word, packed}
use Rattle.base.proofs.Filled.{fill_none, fill_next}
use Rattle.plan.proofs.ReadBack.{packed_length}
use Rattle.guards.specs.code.Rows.{put_rows, base_of}
use Rattle.guards.proofs.RowsWritten.{word_below_rows}

packed_append : (ws vs : List ℕ) → packed (ws ++ vs) ≡ packed ws ++ packed vs
unfolding packed
packed_append [] vs = refl
packed_append (w ∷ ws) vs =
    ap (λ (l : List ℕ). w / 16777216 % 256 ∷ w / 65536 % 256 ∷ w / 256 % 256 ∷ w % 256 ∷ l) (packed_append ws vs)

-- The byte after k bytes that end those written.
byte_after : (o vs : List ℕ) (i k : ℕ) (bs : List ℕ) (b : ℕ) → i ≡ length vs → k ≡ length bs
    → set (fill o (vs ++ bs)) (i + k) b ≡ fill o (vs ++ (bs ++ (b ∷ [])))
byte_after o vs i k bs b h l =
    let e : i + k ≡ length (vs ++ bs) = omega (arith, h, l, length-append vs bs) in
    rw e (fill_next o (vs ++ bs) b ∙ ap (fill o) (append_assoc vs bs (b ∷ [])))

-- A word after those written.
word_after : (o vs : List ℕ) (i w : ℕ) → i ≡ length vs → put_word (fill o vs) i w ≡ fill o (vs ++ packed (w ∷ []))
unfolding put_word packed
word_after o vs i w h =
    let a = w / 16777216 % 256 in
    let b = w / 65536 % 256 in
    let c = w / 256 % 256 in
    let d = w % 256 in
    let first : set (fill o vs) i a ≡ fill o (vs ++ (a ∷ [])) = rw h (fill_next o vs a) in
    ap (λ (l : List ℕ). set (set (set l (i + 1) b) (i + 2) c) (i + 3) d) first
    ∙ (ap (λ (l : List ℕ). set (set l (i + 2) c) (i + 3) d) (byte_after o vs i 1 (a ∷ []) b h refl)
    ∙ (ap (λ (l : List ℕ). set l (i + 3) d) (byte_after o vs i 2 (a ∷ b ∷ []) c h refl) ∙ byte_after o vs i 3 (a ∷ b ∷ c ∷ []) d h refl))

-- Rows after those written.
rows_after : (base k : ℕ) (ws o vs : List ℕ) → base + 4 * k ≡ length vs → put_rows base k ws (fill o vs) ≡ fill o (vs ++ packed ws)
unfolding put_rows packed
rows_after base k [] o vs h = ap (fill o) (sym (append-nil vs))
rows_after base k (w ∷ ws) o vs h =
    let l : base + 4 * (k + 1) ≡ length (vs ++ packed (w ∷ [])) = omega (arith, h, length-append vs (packed (w ∷ []))) in
    ap (put_rows base (k + 1) ws) (word_after o vs (base + 4 * k) w h)
    ∙ (rows_after base (k + 1) ws o (vs ++ packed (w ∷ [])) l ∙ ap (fill o) (append_assoc vs (packed (w ∷ [])) (packed ws)))

-- E and R, n event records and the rows.
pub table_filled : (n : ℕ) (ws rs lent : List ℕ) → length rs ≡ n
    → put_word (put_rows (base_of n) 0 ws (put_rows 4 0 rs lent)) 0 (n * 65536 + length ws) ≡ fill lent (packed ((n * 65536 + length ws) ∷ (rs ++ ws)))
unfolding packed
table_filled n ws rs lent e =
    let h = n * 65536 + length ws in
    let first = packed (h ∷ []) in
    let both = length-append first (packed rs) in
    word_below_rows (base_of n) 0 0 h ws (put_rows 4 0 rs lent) (omega arith)
    ∙ (ap (put_rows (base_of n) 0 ws) (word_below_rows 4 0 0 h rs lent (omega arith))
    ∙ (ap (λ (l : List ℕ). put_rows (base_of n) 0 ws (put_rows 4 0 rs l)) (ap (λ (l : List ℕ). put_word l 0 h) (sym (fill_none lent)) ∙ word_after lent [] 0 h refl)
    ∙ (ap (put_rows (base_of n) 0 ws) (rows_after 4 0 rs lent first refl)
    ∙ (rows_after (base_of n) 0 ws lent (first ++ packed rs) (omega (arith, both, packed_length rs, e))
    ∙ ap (fill lent) (append_assoc first (packed rs) (packed ws) ∙ ap (λ (l : List ℕ). first ++ l) (sym (packed_append rs ws)))))))
