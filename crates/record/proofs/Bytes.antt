-- A record's bytes: what `store` writes, `load` reads.
use mathlib.Core.Path.{◌≡◌, refl, subst, ap, ◌∙◌}
use mathlib.Core.List.{List, [], ◌∷◌}
use Prim.Native.Nat.{ℕ, zero, suc, ◌+◌, ◌*◌, ◌≤◌, ◌<◌}
use native.Mathlib.Numerals.{add-one}
use native.Mathlib.Omega.{arith}
use lib.ListN.{length, get_or, set, take, length-append, get_or-append}
use lib.Seq.{get_or_at, take_all}
use lib.Dec.{eqb}
use borrow.Author.Tests.{eqb-true, eqb-false}
use denote.Param.Members.{Mut}
use Rattle.std.specs.Prelude.{⊤}
use Rattle.std.specs.Fn.{Called}
use Rattle.std.specs.Array.{IsFromFnResultFrom, IsFromFnResult}
use Rattle.std.proofs.lemmas.List.FromFn.{fill_by_all}
use Rattle.base.specs.Fill.{fill}
use Rattle.base.specs.Packed.{field}
use Rattle.base.proofs.Truth.{by_cases}
use Rattle.base.proofs.Filled.{fill_more}
use Rattle.record.specs.Bytes.{words_of, byte_of, bytes_to, bytes_of}

-- What the calls of a function that keeps its state made, at each number from i on.
made : {F : Type 0} {g : Mut F (ℕ × ⊤) ℕ} (h : ℕ → ℕ) (f : F) → ((i y : ℕ) (q : F) → Called g f (i, tt) y q → (q ≡ f) × (y ≡ h i))
    → (ys : List ℕ) (i n : ℕ) → IsFromFnResultFrom g f ys i n → (k : ℕ) → i ≤ k → k < i + n → get_or ys k 0 ≡ h k
made h f each ys i zero m k a b = absurd (omega arith)
made {g = g} h f each ys i (suc n) (q, y, e, c, rest) k a b =
    let (same, is) = each i y q c in
    by_cases (eqb k i)
    (λ z. rw (eqb-true k i z) (e.1 0 ∙ is))
    (λ z. let past = eqb-false k i z in
    made h f each ys (i + 1) n (subst (λ s. IsFromFnResultFrom g s ys (i + 1) n) same rest) k (omega (arith, past)) (omega arith))

pub loaded : {F : Type 0} {g : Mut F (ℕ × ⊤) ℕ} (s ys : List ℕ) (f : F)
    → ((i y : ℕ) (q : F) → Called g f (i, tt) y q → (q ≡ f) × (y ≡ field 8 s (8 * i))) → IsFromFnResult g f ys 8 → ys ≡ words_of s
unfolding words_of
loaded s ys f each m =
    fill_by_all (λ i. field 8 s (8 * i)) ys 8 0 m.long (λ k l. made (λ i. field 8 s (8 * i)) f each ys 0 8 m.each k (omega arith) l)

pub bytes_length : (ws : List ℕ) (n : ℕ) → length (bytes_to ws n) ≡ n
unfolding bytes_to
bytes_length ws zero = refl
bytes_length ws (suc n) = length-append (bytes_to ws n) (byte_of ws n ∷ []) ∙ rw (bytes_length ws n) (add-one n)

pub byte_at : (ws : List ℕ) (n i : ℕ) → i < n → get_or (bytes_to ws n) i 0 ≡ byte_of ws i
unfolding bytes_to
byte_at ws zero i h = let z : ⊥ = omega arith in absurd z
byte_at ws (suc n) i h =
    by_cases (eqb i n)
    (λ e. rw (eqb-true i n e) (get_or_at (bytes_to ws n) (byte_of ws n) [] 0 n (bytes_length ws n)))
    (λ e. let l : i < n = omega (arith, eqb-false i n e) in
    get_or-append (bytes_to ws n) (byte_of ws n ∷ []) 0 i (rw (bytes_length ws n) l) ∙ byte_at ws n i l)

-- The loop that writes a record's bytes: one more byte, and all.
pub store_more : (ws lent out next : List ℕ) (i : ℕ) → i < 64 → out ≡ fill lent (take i (bytes_of ws)) → next ≡ set out i (byte_of ws i)
    → next ≡ fill lent (take (i + 1) (bytes_of ws))
store_more ws lent out next i h o n =
    n ∙ rw (o, add-one i, ← (byte_at ws 64 i h)) (fill_more lent (bytes_of ws) i (rw (bytes_length ws 64) h))

pub store_end : (ws lent out : List ℕ) (i : ℕ) → 64 ≤ i → out ≡ fill lent (take i (bytes_of ws)) → out ≡ fill lent (bytes_of ws)
store_end ws lent out i h o = o ∙ ap (fill lent) (take_all i (bytes_of ws) (rw (bytes_length ws 64) h))
