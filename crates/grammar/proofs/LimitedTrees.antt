-- A diagram has as many nodes as its tokens have keywords, and it is too big exactly if one of them is too many or too deep. Its tokens close
-- no parenthesis that is not open.
use mathlib.Core.Path.{◌≡◌, refl, sym, ◌∙◌}
use mathlib.Core.Logic.Iff
use mathlib.Core.Logic.{◌↔◌}
use mathlib.Core.Bool.{Bool, true, false}
use mathlib.Core.List.{List, [], ◌∷◌, ◌++◌}
use Prim.Native.Nat.{ℕ, suc, ◌+◌, ◌≤◌, ◌<◌, max}
use native.Mathlib.Nat.{add-zero, add_assoc, zero-add}
use native.Mathlib.Numerals.{add-one}
use native.Mathlib.Omega.{arith}
use lib.Dec.{leb}
use borrow.Author.Tests.{leb-false, lt-leb}
use Rattle.diagram.specs.Tree.{Name, Flow, flow, Children, none, next, Child, plain, loop, group, replicator, Member, leaf, inner, Members, end, also}
use Rattle.diagram.specs.Count.{flow_nodes, children_nodes, child_nodes, member_nodes, members_nodes}
use Rattle.diagram.specs.Depth.{flow_depth, children_depth, child_depth, member_depth, members_depth}
use Rattle.base.proofs.Truth.{clash, is_false, or_l, or_r}
use Rattle.tokens.specs.Token.{opening, closing, comma, colon, Keyword, Token, sign, key, name, numeral}
use Rattle.grammar.specs.Tokens.{bit, pars_tokens, ref_tokens, flow_tokens, children_tokens, child_tokens, member_tokens, members_tokens}
use Rattle.grammar.specs.Machine.{is_key}
use Rattle.grammar.proofs.Limits.{count_of, nodes_in, over_limit}
use Rattle.grammar.proofs.LimitedFrom.{keys, opens, closes, big_at, over_limit_in, nodes_cons, Safe, safe_cons, Balanced}

-- Tokens that begin no node: p parentheses are open before them, and q after them.
abbrev Quiet : ℕ → List Token → ℕ → Type 0
Quiet p [] q = p ≡ q
Quiet p (t ∷ ts) q = (is_key t ≡ false) × (r : ℕ) × (r + closes t ≡ p + opens t) × Quiet r ts q

quiet_nodes : (us : List Token) (p q : ℕ) → Quiet p us q → (ts : List Token) → nodes_in (us ++ ts) ≡ nodes_in ts
quiet_nodes [] p q h ts = refl
quiet_nodes (u ∷ us) p q h ts = nodes_cons u (us ++ ts) ∙ rw h.0 (zero-add (nodes_in (us ++ ts)) ∙ quiet_nodes us h.1 q h.3 ts)

quiet_safe : (us : List Token) (p q : ℕ) → Quiet p us q → (n : ℕ) (ts : List Token) → Safe n p (us ++ ts) ↔ Safe n q ts
quiet_safe [] p q h n ts = rw h (λ s. s, λ s. s)
quiet_safe (u ∷ us) p q h n ts =
    let f = safe_cons n p h.1 u (us ++ ts) h.2 in
    let g = quiet_safe us h.1 q h.3 n ts in
    let z : n + keys u ≡ n = rw h.0 (add-zero n) in
    let k = h.0 in
    (λ s. g.0 (rw z at (f.0 s).1), λ s. f.1 (rw k, rw z (g.1 s)))

quiet_level : (us : List Token) (p q : ℕ) → Quiet p us q → (ts : List Token) → Balanced q ts → Balanced p (us ++ ts)
quiet_level [] p q h ts b = rw h b
quiet_level (u ∷ us) p q h ts b = (h.1, h.2, quiet_level us h.1 q h.3 ts b)

quiet_bit : (b : Bool) (us : List Token) (p q : ℕ) → Quiet p us q → Quiet p (bit b ∷ us) q
quiet_bit false us p q h = (refl, p, refl, h)
quiet_bit true us p q h = (refl, p, refl, h)

quiet_open : (p : ℕ) → Quiet p (sign opening ∷ []) (suc p)
quiet_open p = (refl, suc p, omega arith, refl)

quiet_close : (p : ℕ) → Quiet (suc p) (sign closing ∷ []) p
quiet_close p = (refl, p, omega arith, refl)

-- A keyword.
module _ (k : Keyword) where
  small : (n p : ℕ) → (big_at (key k) n p ≡ false) ↔ ((n < 256) × (p < 12))
  small n p =
      let x : Bool = leb 257 (suc n) in
      let y : Bool = leb 13 (suc p) in (
        λ h. let a = leb-false 257 (suc n) (is_false x (λ z. clash (or_l y z) h)) in
            let b = leb-false 13 (suc p) (is_false y (λ z. clash (or_r x z) h)) in
            (omega arith, omega arith),
        λ h. rw (lt-leb 257 (suc n) (omega arith), lt-leb 13 (suc p) (omega arith)),
      )

  keyed_safe : (n p : ℕ) (ts : List Token) → Safe n p (key k ∷ ts) ↔ (((n < 256) × (p < 12)) × Safe (suc n) p ts)
  keyed_safe n p ts =
      let f = safe_cons n p p (key k) ts refl in
      let g = small n p in
      (λ s. let h = f.0 s in (g.0 h.0, rw (add-one n) at h.1), λ h. f.1 (g.1 h.0, rw (add-one n) h.1))

-- m nodes more, d deeper, go where n nodes and p open parentheses are; none always do.
abbrev Room : ℕ → ℕ → ℕ → ℕ → Type 0
Room n p m d = (n + m ≤ max n 256) × (p + d ≤ max p 12)

-- These tokens have m nodes, d deep, where p parentheses are open before them and after them.
record Part (p : ℕ) (f : List Token → List Token) (m d : ℕ) : Type 0 where
  counted : (ts : List Token) → nodes_in (f ts) ≡ m + nodes_in ts
  fits : (n : ℕ) (ts : List Token) → Safe n p (f ts) ↔ (Room n p m d × Safe (n + m) p ts)
  level : (ts : List Token) → Balanced p ts → Balanced p (f ts)

part_none : (p : ℕ) → Part p (λ ts. ts) 0 0
part_none p = record {
  counted = λ ts. sym (zero-add (nodes_in ts));
  fits = λ n ts. (λ s. (omega arith, rw (add-zero n) s), λ h. rw (add-zero n) at h.1);
  level = λ ts b. b;
}

part_seq : {p : ℕ} {f g : List Token → List Token} {m d m' d' : ℕ} → Part p f m d → Part p g m' d' → Part p (λ ts. f (g ts)) (m + m') (max d d')
part_seq {p} {f} {g} {m} {d} {m'} {d'} x y = record {
  counted = λ ts. let a = x.counted (g ts) in let b = y.counted ts in omega arith;
  fits = λ n ts. (
    λ s. let a = (x.fits n (g ts)).0 s in let b = (y.fits (n + m) ts).0 a.1 in (omega arith, rw (add_assoc n m m') at b.1),
    λ h. (x.fits n (g ts)).1 (omega arith, (y.fits (n + m) ts).1 (omega arith, rw (add_assoc n m m') h.1)),
  );
  level = λ ts b. x.level (g ts) (y.level ts b);
}

-- Tokens before a part, and a node around one.
module _ {p : ℕ} {f : List Token → List Token} {m d : ℕ} where
  part_after : (us : List Token) → Quiet p us p → Part p f m d → Part p (λ ts. us ++ f ts) m d
  part_after us h x = record {
    counted = λ ts. quiet_nodes us p p h (f ts) ∙ x.counted ts;
    fits = λ n ts. Iff.trans (quiet_safe us p p h n (f ts)) (x.fits n ts);
    level = λ ts b. quiet_level us p p h (f ts) (x.level ts b);
  }

  part_node : (k : Keyword) → Part (suc p) f m d → Part p (λ ts. key k ∷ sign opening ∷ f (sign closing ∷ ts)) (1 + m) (1 + d)
  part_node k x = record {
    counted = λ ts.
        let a = nodes_cons (key k) (sign opening ∷ f (sign closing ∷ ts)) in
        let b = quiet_nodes (sign opening ∷ []) p (suc p) (quiet_open p) (f (sign closing ∷ ts)) in
        let c = x.counted (sign closing ∷ ts) in
        let e = quiet_nodes (sign closing ∷ []) (suc p) p (quiet_close p) ts in
        omega arith;
    fits = λ n ts.
        let a = keyed_safe k n p (sign opening ∷ f (sign closing ∷ ts)) in
        let b = quiet_safe (sign opening ∷ []) p (suc p) (quiet_open p) (suc n) (f (sign closing ∷ ts)) in
        let c = x.fits (suc n) (sign closing ∷ ts) in
        let e = quiet_safe (sign closing ∷ []) (suc p) p (quiet_close p) (suc n + m) ts in
        let z : suc n + m ≡ n + (1 + m) = omega arith in (
          λ s. let g = a.0 s in let h = c.0 (b.0 g.1) in (omega arith, rw z at (e.0 h.1)),
          λ s. a.1 (omega arith, b.1 (c.1 (omega arith, e.1 (rw z s.1)))),
        );
    level = λ ts b. (
      p,
      refl,
      quiet_level (sign opening ∷ []) p (suc p) (quiet_open p) (f (sign closing ∷ ts))
          (x.level (sign closing ∷ ts) (quiet_level (sign closing ∷ []) (suc p) p (quiet_close p) ts b)),
    );
  }

  part_ref : (r : Bool) → Part p f m d → Part p (λ ts. ref_tokens r (f ts)) m d
  part_ref r = part_after (ref_tokens r []) (refl, suc p, omega arith, quiet_bit r (sign closing ∷ []) (suc p) p (quiet_close p))

part_pars : (ps : List Name) {p : ℕ} {f : List Token → List Token} {m d : ℕ} → Part p f m d → Part p (λ ts. pars_tokens ps (f ts)) m d
part_pars [] x = x
part_pars (q ∷ ps) {p} x = part_after (sign comma ∷ name q ∷ []) (refl, p, refl, (refl, p, refl, refl)) (part_pars ps x)

mutual
  unfolding flow_tokens flow_nodes flow_depth

  flow_part : (d : Flow) (p : ℕ) → Part p (flow_tokens d) (flow_nodes d) (flow_depth d)
  flow_part (flow n ps sw c r cs) p =
      part_node Keyword.flow
      (part_after (name n ∷ []) (refl, suc p, refl, refl)
      (part_pars ps
      (part_after (sign comma ∷ bit sw ∷ sign closing ∷ sign opening ∷ [])
      (refl, suc p, refl, quiet_bit sw (sign closing ∷ sign opening ∷ []) (suc p) (suc p) (refl, p, omega arith, quiet_open p))
      (part_seq (child_part c (suc p)) (part_ref r (children_part cs (suc p)))))))

  children_part : (cs : Children) (p : ℕ) → Part p (children_tokens cs) (children_nodes cs) (children_depth cs)
  children_part none p = part_none p
  children_part (next c r cs) p = part_seq (child_part c p) (part_ref r (children_part cs p))

  child_part : (c : Child) (p : ℕ) → Part p (child_tokens c) (child_nodes c) (child_depth c)
  child_part (plain m) p = member_part m p
  child_part (loop m) p = part_node Keyword.loop (member_part m (suc p))
  child_part (group y a b ms) p =
      part_node (Keyword.group y) (part_seq (member_part a (suc p)) (part_seq (member_part b (suc p)) (members_part ms (suc p))))
  child_part (replicator y par size m) p =
      part_node (Keyword.replicator y)
      (part_after (name par ∷ sign colon ∷ numeral size ∷ sign closing ∷ sign opening ∷ [])
      (refl, suc p, refl, (refl, suc p, refl, (refl, suc p, refl, (refl, p, omega arith, quiet_open p))))
      (member_part m (suc p)))

  member_part : (m : Member) (p : ℕ) → Part p (member_tokens m) (member_nodes m) (member_depth m)
  member_part (leaf n) p = part_node Keyword.leaf (part_after (name n ∷ []) (refl, suc p, refl, refl) (part_none (suc p)))
  member_part (inner f) p = flow_part f p

  members_part : (ms : Members) (p : ℕ) → Part p (members_tokens ms) (members_nodes ms) (members_depth ms)
  members_part end p = part_none p
  members_part (also m ms) p = part_seq (member_part m p) (members_part ms p)

-- The whole text.
module _ (d : Flow) where
  pub tree_level : Balanced 0 (flow_tokens d [])
  tree_level = (flow_part d 0).level [] tt

  pub nodes_counted : nodes_in (flow_tokens d []) ≡ flow_nodes d
  unfolding count_of
  nodes_counted = (flow_part d 0).counted [] ∙ add-zero (flow_nodes d)

  pub none_big_fits : ((j : ℕ) → over_limit (flow_tokens d []) j ≡ false) → (flow_nodes d ≤ 256) × (flow_depth d ≤ 12)
  none_big_fits h =
      let r = (((flow_part d 0).fits 0 []).0 (λ k. sym (over_limit_in (flow_tokens d []) k) ∙ h k)).0 in
      omega arith
