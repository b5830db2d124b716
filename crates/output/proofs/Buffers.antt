-- Laws of bytes written one after the other into a lent buffer.
use mathlib.Core.Path.{◌≡◌, refl, sym, ap, ◌∙◌, subst}
use mathlib.Core.List.{List, [], ◌∷◌, ◌++◌, append-nil}
use Prim.Native.Nat.{ℕ, ◌+◌, ◌≤◌, ◌<◌}
use native.Mathlib.Omega.{arith}
use lib.Dec.{ltb}
use lib.ListN.{length, get_or, take, set, length-append, length-set}
use native.Mathlib.Numerals.{add-one}
use lib.Seq.{append_snoc, take-suc, length-take-le}
use borrow.Author.Tests.{lt-ltb, le-ltb, ltb-true}
use Rattle.base.specs.Fill.{fill}
use Rattle.base.proofs.Filled.{fill_length, fill_none, fill_next}
use Rattle.base.proofs.Truth.{by_cases}
use Rattle.output.specs.Buffer.{Buffer, buffer, put, put_all}

-- A byte is left out where there is no room, and written where there is.
pub put_full : (b : ℕ) (s : Buffer) → length s.bytes ≤ s.at → put b s ≡ s
unfolding put
put_full b s h = rw (le-ltb s.at (length s.bytes) h)

pub put_room : (b : ℕ) (s : Buffer) → s.at < length s.bytes → put b s ≡ buffer (s.at + 1) (set s.bytes s.at b)
unfolding put
put_room b s h = rw (lt-ltb s.at (length s.bytes) h)

put_length : (b : ℕ) (s : Buffer) → length (put b s).bytes ≡ length s.bytes
unfolding put
put_length b s = by_cases (ltb s.at (length s.bytes)) (λ e. rw e (length-set s.bytes s.at b)) (λ e. rw e)

-- The buffer keeps its length.
pub put_all_length : (bs : List ℕ) (s : Buffer) → length (put_all bs s).bytes ≡ length s.bytes
unfolding put_all
put_all_length [] s = refl
put_all_length (b ∷ bs) s = put_all_length bs (put b s) ∙ put_length b s

-- What is written stays within the buffer.
put_within : (b : ℕ) (s : Buffer) → s.at ≤ length s.bytes → (put b s).at ≤ length (put b s).bytes
unfolding put
put_within b s h =
    by_cases (ltb s.at (length s.bytes))
    (λ e. let l = ltb-true s.at (length s.bytes) e in rw e (rw (length-set s.bytes s.at b) (omega arith)))
    (λ e. rw e h)

pub put_all_within : (bs : List ℕ) (s : Buffer) → s.at ≤ length s.bytes → (put_all bs s).at ≤ length (put_all bs s).bytes
unfolding put_all
put_all_within [] s h = h
put_all_within (b ∷ bs) s h = put_all_within bs (put b s) (put_within b s h)

abbrev pub Within : Buffer → Type 0
Within s = s.at ≤ length s.bytes

-- As a caller finds one byte more, and takes the bytes that were written.
pub one_written : (b at : ℕ) (lent left : List ℕ) (r : ℕ) → buffer r left ≡ put b (buffer at lent) → at ≤ length lent → r ≤ length left
one_written b at lent left r q h = subst Within (sym q) (put_within b (buffer at lent) h)

pub written : (bs lent left : List ℕ) (r : ℕ) → buffer r left ≡ put_all bs (buffer 0 lent) → (r ≤ length left) × (r ≡ length (take r left))
written bs lent left r q =
    let l : r ≤ length left = subst Within (sym q) (put_all_within bs (buffer 0 lent) (omega arith)) in
    (l, sym (length-take-le r left l))

pub put_all_append : (bs cs : List ℕ) (s : Buffer) → put_all (bs ++ cs) s ≡ put_all cs (put_all bs s)
unfolding put_all
put_all_append [] cs s = refl
put_all_append (b ∷ bs) cs s = put_all_append bs cs (put b s)

-- One byte more of a list.
pub put_all_next : (bs : List ℕ) (i : ℕ) (s : Buffer) → i < length bs → put_all (take (i + 1) bs) s ≡ put (get_or bs i 0) (put_all (take i bs) s)
unfolding put_all
put_all_next bs i s h = rw (add-one, take-suc bs i 0 h) (put_all_append (take i bs) (get_or bs i 0 ∷ []) s)

-- These, and then those.
pub before : (s : Buffer) (bs cs : List ℕ) {t u : Buffer} → t ≡ put_all bs s → u ≡ put_all cs t → u ≡ put_all (bs ++ cs) s
before s bs cs p q = q ∙ (ap (put_all cs) p ∙ sym (put_all_append bs cs s))

-- The same bytes.
pub same_put : (s : Buffer) (bs cs : List ℕ) {t : Buffer} → t ≡ put_all bs s → bs ≡ cs → t ≡ put_all cs s
same_put s bs cs p e = rw (← e) p

pub none_put : (s : Buffer) → s ≡ put_all [] s
unfolding put_all
none_put s = refl

-- Bytes that fit, over a buffer whose front is written.
put_fill : (vs lent : List ℕ) (b : ℕ) → length vs < length lent
    → put b (buffer (length vs) (fill lent vs)) ≡ buffer (length (vs ++ (b ∷ []))) (fill lent (vs ++ (b ∷ [])))
put_fill vs lent b h =
    put_room b (buffer (length vs) (fill lent vs)) (rw (fill_length lent vs) h) ∙ rw (fill_next lent vs b, length-append vs (b ∷ []))

put_all_filled : (bs vs lent : List ℕ) → length vs + length bs ≤ length lent
    → put_all bs (buffer (length vs) (fill lent vs)) ≡ buffer (length (vs ++ bs)) (fill lent (vs ++ bs))
unfolding put_all
put_all_filled [] vs lent h = rw (append-nil vs)
put_all_filled (b ∷ bs) vs lent h =
    rw (put_fill vs lent b (omega arith), ← append_snoc vs b bs) (put_all_filled bs (vs ++ (b ∷ [])) lent (simp length-append (omega arith)))

-- Bytes that fit, over a buffer of which nothing is written.
pub put_all_fill : (bs lent : List ℕ) → length bs ≤ length lent → put_all bs (buffer 0 lent) ≡ buffer (length bs) (fill lent bs)
put_all_fill bs lent h = rw (fill_none lent) at (put_all_filled bs [] lent (omega arith))

pub whole : (bs lent left : List ℕ) (r : ℕ) → buffer r left ≡ put_all bs (buffer 0 lent) → length bs ≤ length lent → (r ≡ length bs) × (left ≡ fill lent bs)
whole bs lent left r q h = let e = q ∙ put_all_fill bs lent h in (ap (λ (s : Buffer). s.at) e, ap (λ (s : Buffer). s.bytes) e)
