-- Laws of rows that are written one after the other.
use mathlib.Core.Path.{◌≡◌, refl, ap, ◌∙◌}
use mathlib.Core.List.{List, [], ◌∷◌, ◌++◌}
use Prim.Native.Nat.{ℕ, ◌+◌, ◌*◌, ◌≤◌, ◌<◌, ◌/◌, ◌%◌}
use native.Mathlib.Omega.{arith}
use lib.ListN.{length, set}
use lib.Seq.{set_comm}
use Rattle.base.specs.Packed.{put_word}
use Rattle.guards.specs.code.Rows.{put_rows}

-- Rows and then more rows.
pub put_rows_append : (base k : ℕ) (ws vs o : List ℕ) → put_rows base k (ws ++ vs) o ≡ put_rows base (k + length ws) vs (put_rows base k ws o)
unfolding put_rows
put_rows_append base k [] vs o = ap (λ (n : ℕ). put_rows base n vs o) (omega arith)
put_rows_append base k (w ∷ ws) vs o =
    put_rows_append base (k + 1) ws vs (put_word o (base + 4 * k) w)
    ∙ ap (λ (n : ℕ). put_rows base n vs (put_rows base (k + 1) ws (put_word o (base + 4 * k) w))) (omega arith)

-- What is written below a word does not meet it.
below_word : (o : List ℕ) (i j a w : ℕ) → i < j → set (put_word o j w) i a ≡ put_word (set o i a) j w
unfolding put_word
below_word o i j a w h =
    let b0 : ℕ = w / 16777216 % 256 in
    let b1 : ℕ = w / 65536 % 256 in
    let b2 : ℕ = w / 256 % 256 in
    let b3 : ℕ = w % 256 in
    set_comm (set (set (set o j b0) (j + 1) b1) (j + 2) b2) (j + 3) i b3 a (omega arith)
    ∙ ap (λ (l : List ℕ). set l (j + 3) b3) (set_comm (set (set o j b0) (j + 1) b1) (j + 2) i b2 a (omega arith))
    ∙ ap (λ (l : List ℕ). set (set l (j + 2) b2) (j + 3) b3) (set_comm (set o j b0) (j + 1) i b1 a (omega arith))
    ∙ ap (λ (l : List ℕ). set (set (set l (j + 1) b1) (j + 2) b2) (j + 3) b3) (set_comm o j i b0 a (omega arith))

word_below_word : (o : List ℕ) (i j v w : ℕ) → i + 4 ≤ j → put_word (put_word o j w) i v ≡ put_word (put_word o i v) j w
unfolding put_word
word_below_word o i j v w h =
    let b0 : ℕ = v / 16777216 % 256 in
    let b1 : ℕ = v / 65536 % 256 in
    let b2 : ℕ = v / 256 % 256 in
    let b3 : ℕ = v % 256 in
    ap (λ (l : List ℕ). set (set (set l (i + 1) b1) (i + 2) b2) (i + 3) b3) (below_word o i j b0 w (omega arith))
    ∙ ap (λ (l : List ℕ). set (set l (i + 2) b2) (i + 3) b3) (below_word (set o i b0) (i + 1) j b1 w (omega arith))
    ∙ ap (λ (l : List ℕ). set l (i + 3) b3) (below_word (set (set o i b0) (i + 1) b1) (i + 2) j b2 w (omega arith))
    ∙ below_word (set (set (set o i b0) (i + 1) b1) (i + 2) b2) (i + 3) j b3 w (omega arith)

-- A word below rows may as well be written before them, and so may rows.
pub word_below_rows : (base k i v : ℕ) (ws o : List ℕ) → i + 4 ≤ base + 4 * k
    → put_word (put_rows base k ws o) i v ≡ put_rows base k ws (put_word o i v)
unfolding put_rows
word_below_rows base k i v [] o h = refl
word_below_rows base k i v (w ∷ ws) o h =
    word_below_rows base (k + 1) i v ws (put_word o (base + 4 * k) w) (omega arith)
    ∙ ap (put_rows base (k + 1) ws) (word_below_word o i (base + 4 * k) v w h)

pub rows_below_rows : (b k base n : ℕ) (vs ws o : List ℕ) → b + 4 * (k + length vs) ≤ base + 4 * n
    → put_rows b k vs (put_rows base n ws o) ≡ put_rows base n ws (put_rows b k vs o)
unfolding put_rows
rows_below_rows b k base n [] ws o h = refl
rows_below_rows b k base n (v ∷ vs) ws o h =
    ap (put_rows b (k + 1) vs) (word_below_rows base n (b + 4 * k) v ws o (omega arith))
    ∙ rows_below_rows b (k + 1) base n vs ws (put_word o (b + 4 * k) v) (omega arith)
