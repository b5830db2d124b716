-- The parentheses that are open while the reader runs: what is wanted closes them all, and the depths left say how many they are.
use mathlib.Core.Path.{◌≡◌, refl}
use mathlib.Core.Logic.{◌⊎◌, inl, inr}
use mathlib.Core.Bool.{true, false, ◌||◌}
use mathlib.Core.List.{List, [], ◌∷◌, ◌++◌}
use Prim.Native.Nat.{ℕ, suc, ◌+◌, ◌-◌}
use native.Mathlib.Omega.{arith}
use lib.Dec.{eqb, leb}
use borrow.Author.Tests.{eqb-true, eq-eqb, leb-true, leb-false, le-leb, lt-leb}
use Rattle.base.proofs.Truth.{clash, is_false, or_l, or_r, or_e}
use Rattle.tokens.specs.Token.{opening, Keyword, Token, key}
use Rattle.grammar.specs.Machine.{Place, Want, sign, number, params, param, node, more, others, Move, off, big, push, parts, full}
use Rattle.grammar.proofs.Takes.{Begins, at_node, at_more, at_others, more_ends, others_ends, Takes, astray, a_sign, a_name, a_number, a_comma, a_par, a_sw, an_end, too_big, a_node}
use Rattle.grammar.proofs.LimitedFrom.{keys, opens, closes, big_at}

-- What is read for this entry finds p parentheses open and leaves q.
abbrev pub Turn : Want → ℕ → ℕ → Type 0
Turn (sign s) p q = q + closes (Token.sign s) ≡ p + opens (Token.sign s)
Turn Want.named p q = p ≡ q
Turn (number a b) p q = p ≡ q
Turn params p q = p ≡ suc q
Turn param p q = p ≡ suc q
Turn (node at d) p q = (d + p ≡ 12) × (p ≡ q)
Turn (more d) p q = (d + p ≡ 12) × (p ≡ suc q)
Turn (others d) p q = (d + p ≡ 12) × (p ≡ suc q)

abbrev pub Turns : List Want → ℕ → ℕ → Type 0
Turns [] p q = p ≡ q
Turns (w ∷ ws) p q = (r : ℕ) × Turn w p r × Turns ws r q

-- What is wanted where p parentheses are open closes them all.
abbrev pub Level : List Want → ℕ → Type 0
Level ws p = Turns ws p 0

pub turns_append : (vs ws : List Want) (p q r : ℕ) → Turns vs p q → Turns ws q r → Turns (vs ++ ws) p r
turns_append [] ws p q r e h = rw e h
turns_append (v ∷ vs) ws p q r t h = (t.0, t.1, turns_append vs ws t.0 q r t.2 h)

-- The parts of a node stand one deeper, and close what they open.
module _ (d p : ℕ) (e : d + suc p ≡ 12) where
  loop_turns : Turns (parts Keyword.loop d) p p
  loop_turns = (suc p, omega arith, (suc p, omega arith, (p, omega arith, refl)))

  parts_turns : (k : Keyword) → Turns (parts k d) p p
  parts_turns Keyword.flow =
      let q : ℕ = suc p in
      let o : Turn (sign opening) p q = omega arith in
      (q, o, (q, refl, (p, refl, (q, o, (q, omega arith, (suc q, omega arith, (suc q, refl, (q, omega arith, (p, omega arith, refl)))))))))
  parts_turns Keyword.leaf = (suc p, omega arith, (suc p, refl, (p, omega arith, refl)))
  parts_turns (Keyword.group y) = (suc p, omega arith, (suc p, omega arith, (suc p, omega arith, (p, omega arith, refl))))
  parts_turns (Keyword.replicator y) = (suc p, omega arith, (suc p, refl, (suc p, omega arith, (suc p, refl, (p, omega arith, loop_turns)))))
  parts_turns Keyword.loop = loop_turns

-- What a move says of the token t, where n nodes and p open parentheses stand before it, and q are open after the entry.
abbrev pub Moves : Move → ℕ → Token → ℕ → ℕ → Type 0
Moves off n t p q = Unit {0}
Moves big n t p q = big_at t n p ≡ true
Moves (push u ws) n t p q = (big_at t n p ≡ false) × (u ≡ keys t) × (r : ℕ) × (r + closes t ≡ p + opens t) × Turns ws r q

module _ (n p q d : ℕ) (e : d + p ≡ 12) where
  -- A keyword, where a node is wanted: d depths are left.
  filled : full d n ≡ true → (leb 257 (suc n) || leb 13 (suc p)) ≡ true
  filled h = go (or_e (eqb d 0) (leb 256 n) h)
    where
      go : (eqb d 0 ≡ true) ⊎ (leb 256 n ≡ true) → (leb 257 (suc n) || leb 13 (suc p)) ≡ true
      go (inl x) = let y = eqb-true d 0 x in or_r (leb 257 (suc n)) (le-leb 13 (suc p) (omega arith))
      go (inr x) = let y = leb-true 256 n x in or_l (leb 13 (suc p)) (le-leb 257 (suc n) (omega arith))

  taken : (k : Keyword) → full d n ≡ false → (ws : List Want) → Turns ws p q → Moves (push 1 (parts k (d - 1) ++ ws)) n (key k) p q
  taken k h ws t =
      let x : d ≡ 0 → ⊥ = λ y. clash (or_l (leb 256 n) (eq-eqb d 0 y)) h in
      let v = leb-false 256 n (is_false (leb 256 n) (λ y. clash (or_r (eqb d 0) y) h)) in
      let a : leb 257 (suc n) ≡ false = lt-leb 257 (suc n) (omega arith) in
      let b : leb 13 (suc p) ≡ false = lt-leb 13 (suc p) (omega arith) in
      (rw (a, b), refl, p, refl, turns_append (parts k (d - 1)) ws p p q (parts_turns (d - 1) p (omega arith) k) t)

after_turns : {w : Want} {at : Place} {d : ℕ} {after : List Want} → Begins w at d after → (p q : ℕ) → Turn w p q → (d + p ≡ 12) × Turns after p q
after_turns at_node p q h = (h.0, h.1)
after_turns at_more p q h = (h.0, (suc p, omega arith, (suc p, refl, (p, omega arith, (q, h, refl)))))
after_turns at_others p q h = (h.0, (q, h, refl))

pub takes_moves : {n : ℕ} {w : Want} {t : Token} {m : Move} → Takes n w t m → (p q : ℕ) → Turn w p q → Moves m n t p q
takes_moves astray p q h = tt
takes_moves a_sign p q h = (refl, refl, q, h, refl)
takes_moves a_name p q h = (refl, refl, p, refl, h)
takes_moves (a_number b) p q h = (refl, refl, p, refl, h)
takes_moves a_comma p q h = (refl, refl, p, refl, (q, h, refl))
takes_moves a_par p q h = (refl, refl, p, refl, (q, h, refl))
takes_moves (a_sw b) p q h = (refl, refl, p, refl, (q, omega arith, refl))
takes_moves (an_end more_ends) p q h = (refl, refl, q, omega arith, refl)
takes_moves (an_end others_ends) p q h = (refl, refl, q, omega arith, refl)
takes_moves {n} (too_big {d = d} b a f) p q h = filled n p q d (after_turns b p q h).0 f
takes_moves {n} (a_node {d = d} {after = after} {k = k} b a f) p q h =
    let r = after_turns b p q h in taken n p q d r.0 k f after r.1
