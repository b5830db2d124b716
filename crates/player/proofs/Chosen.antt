-- Which lines are chosen, one after the other. Assumes nothing.
use Rattle.std.proofs.Common.{◌≡◌, ℕ, suc, ◌+◌, ◌<◌, Bor, List, [], ◌∷◌, ◌++◌, length, get_or, map, refl, sym, ap, ◌∙◌, zero-add, arith}
use mathlib.Core.List.{append-nil, append_assoc}
use Rattle.std.specs.List.{enumerate_from}
use Rattle.std.proofs.lemmas.List.FromFn.{length-enumerate_from, get_or-enumerate_from}
use Rattle.record.specs.Bits.{bit_at}
use Rattle.player.specs.Shown.{item, chosen}

-- The lines that were met, each with its place.
abbrev pub met : List (ℕ × Bor (List ℕ)) → List (List ℕ)
met xs = map (λ p. p.1.now) xs

-- One line more.
chosen_next : (xs : List (ℕ × Bor (List ℕ))) (x : ℕ × Bor (List ℕ)) (bits : List ℕ) (e : ℕ)
    → chosen (met (xs ++ (x ∷ []))) bits e ≡ chosen (met xs) bits e ++ item (bit_at bits (e + length xs)) x.1.now
unfolding chosen
chosen_next [] x bits e = let z : e + 0 ≡ e = omega arith in rw (z, append-nil (item (bit_at bits e) x.1.now))
chosen_next (y ∷ xs) x bits e =
    let n : suc e + length xs ≡ e + length (y ∷ xs) = omega arith in
    ap (λ (t : List ℕ). item (bit_at bits e) y.1.now ++ t) (rw n at (chosen_next xs x bits (suc e))) ∙ sym (append_assoc (item (bit_at bits e) y.1.now) _ _)

place_is : (ys : List (List ℕ)) (n : ℕ) (p : ℕ × List ℕ) → (n < length (enumerate_from 0 ys)) × (p ≡ get_or (enumerate_from 0 ys) n p) → p.0 ≡ n
place_is ys n p h =
    ap (λ (q : ℕ × List ℕ). q.0) (h.1 ∙ get_or-enumerate_from 0 ys n p (omega (arith, h.0, length-enumerate_from 0 ys))) ∙ zero-add n

pub chosen_more : (ys : List (List ℕ)) (xs : List (ℕ × Bor (List ℕ))) (x : ℕ × Bor (List ℕ)) (bits : List ℕ)
    → (length xs < length (enumerate_from 0 ys)) × ((x.0, x.1.now) ≡ get_or (enumerate_from 0 ys) (length xs) (x.0, x.1.now))
    → chosen (met (xs ++ (x ∷ []))) bits 0 ≡ chosen (met xs) bits 0 ++ item (bit_at bits x.0) x.1.now
chosen_more ys xs x bits h = chosen_next xs x bits 0 ∙ rw (zero-add (length xs), place_is ys (length xs) (x.0, x.1.now) h)

-- All of them.
pub all_met : (n : ℕ) (xs : List (ℕ × Bor (List ℕ))) (ys : List (List ℕ)) → map (λ p. (p.0, p.1.now)) xs ≡ enumerate_from n ys → met xs ≡ ys
all_met n [] [] h = refl
all_met n [] (y ∷ ys) h = cc
all_met n (x ∷ xs) [] h = cc
all_met n (x ∷ xs) (y ∷ ys) h =
    let first : ◌≡◌ {A = ℕ × List ℕ} (x.0, x.1.now) (n, y) = cc in
    let others : map (λ p. (p.0, p.1.now)) xs ≡ enumerate_from (n + 1) ys = cc in
    rw (all_met (n + 1) xs ys others, ap (λ (q : ℕ × List ℕ). q.1) first)
