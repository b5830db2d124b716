-- The tokens of a tree say which tree it is, and where it ends: so a text derives one diagram at most.
use mathlib.Core.Path.{◌≡◌, refl, sym, ◌∙◌, ap, ap₂}
use mathlib.Core.Bool.{Bool, true, false}
use mathlib.Core.List.{List, [], ◌∷◌, head-eq_of_cons-eq, tail-eq_of_cons-eq}
use Prim.Native.Nat.{ℕ}
use native.Mathlib.Omega.{arith}
use lib.Dec.{eqb}
use borrow.Author.Tests.{eqb-false}
use Rattle.diagram.specs.Tree.{Name, Way, Flow, flow, Children, none, next, Child, plain, loop, group, replicator, Member, leaf, inner, Members, end, also}
use Rattle.tokens.specs.Token.{closing, comma, Keyword, Token, sign, key, numeral}
use Rattle.grammar.specs.Tokens.{bit, pars_tokens, ref_tokens, flow_tokens, children_tokens, child_tokens, member_tokens, members_tokens}
use Rattle.grammar.specs.Derives.{Derives}
use Rattle.grammar.proofs.Stack.{shape, bit_number}

-- Two trees are the same, and what follows them is.
abbrev Once : {A : Type 0} → A → A → List Token → List Token → Type 0
Once x y r s = (x ≡ y) × (r ≡ s)

bit_once : (a b : Bool) → bit a ≡ bit b → a ≡ b
bit_once false false e = refl
bit_once false true e = let n : ◌≡◌ {A = ℕ} 0 1 = cc in let z : ⊥ = omega arith in absurd z
bit_once true false e = let n : ◌≡◌ {A = ℕ} 1 0 = cc in let z : ⊥ = omega arith in absurd z
bit_once true true e = refl

-- What stands after two tokens.
past_two : {a b c d : Token} {r s : List Token} → a ∷ b ∷ r ≡ c ∷ d ∷ s → r ≡ s
past_two e = tail-eq_of_cons-eq (tail-eq_of_cons-eq e)

-- A ref and what follows it.
ref_once : (a b : Bool) (r s : List Token) → ref_tokens a r ≡ ref_tokens b s → (a ≡ b) × (r ≡ s)
ref_once a b r s e = let t = tail-eq_of_cons-eq e in (bit_once a b (head-eq_of_cons-eq t), past_two t)

-- The pars and sw of a flow.
bit_no_name : (b : Bool) (n : Name) → bit b ≡ Token.name n → ⊥
bit_no_name b n e = let v = (bit_number b).2 in let z : ◌≡◌ {A = ℕ} 0 1 = cc in omega arith

pars_once : (ps qs : List Name) (a b : Bool) (r s : List Token) → pars_tokens ps (sign comma ∷ bit a ∷ r) ≡ pars_tokens qs (sign comma ∷ bit b ∷ s)
    → (ps ≡ qs) × (a ≡ b) × (r ≡ s)
pars_once [] [] a b r s e = let t = tail-eq_of_cons-eq e in (refl, bit_once a b (head-eq_of_cons-eq t), tail-eq_of_cons-eq t)
pars_once [] (q ∷ qs) a b r s e = absurd (bit_no_name a q (head-eq_of_cons-eq (tail-eq_of_cons-eq e)))
pars_once (p ∷ ps) [] a b r s e = absurd (bit_no_name b p (sym (head-eq_of_cons-eq (tail-eq_of_cons-eq e))))
pars_once (p ∷ ps) (q ∷ qs) a b r s e =
    let v = head-eq_of_cons-eq (tail-eq_of_cons-eq e) in let u = pars_once ps qs a b r s (past_two e) in (cc u.0, u.1, u.2)

-- A node starts with its keyword, which says what kind of child it is, and is no `)`.
first_key : (c : Child) (r : List Token) → (tail : List Token) × (child_tokens c r ≡ key (shape c) ∷ tail)
unfolding child_tokens
first_key (plain (leaf n)) r = (_, refl)
first_key (plain (inner (flow n ps sw c x cs))) r = (_, refl)
first_key (loop m) r = (_, refl)
first_key (group y a b ms) r = (_, refl)
first_key (replicator y p n m) r = (_, refl)

abbrev kind : Child → ℕ
kind (plain m) = 0
kind (loop m) = 1
kind (group y a b ms) = 2
kind (replicator y p n m) = 3

abbrev kind_of : Keyword → ℕ
kind_of Keyword.flow = 0
kind_of Keyword.leaf = 0
kind_of Keyword.loop = 1
kind_of (Keyword.group y) = 2
kind_of (Keyword.replicator y) = 3

shape_kind : (c : Child) → kind_of (shape c) ≡ kind c
shape_kind (plain (leaf n)) = refl
shape_kind (plain (inner f)) = refl
shape_kind (loop m) = refl
shape_kind (group y a b ms) = refl
shape_kind (replicator y p n m) = refl

apart : (c e : Child) (r s : List Token) → child_tokens c r ≡ child_tokens e s → eqb (kind c) (kind e) ≡ false → ⊥
apart c e r s q f =
    let a = (first_key c r).1 in
    let b = (first_key e s).1 in
    let h : shape c ≡ shape e = cc in
    eqb-false (kind c) (kind e) f (sym (shape_kind c) ∙ (ap kind_of h ∙ shape_kind e))

end_once : (c : Child) (r s : List Token) → sign closing ∷ r ≡ child_tokens c s → ⊥
end_once c r s q = let a = (first_key c s).1 in let z : ◌≡◌ {A = ℕ} 0 1 = cc in omega arith

-- Trees with the same parts.
same_name : {m n : Name} → Token.name m ≡ Token.name n → m ≡ n
same_name e = cc

same_flow : {n m : Name} {ps qs : List Name} {a b : Bool} {c d : Child} {x y : Bool} {cs ds : Children} → Token.name n ≡ Token.name m → ps ≡ qs → a ≡ b → c ≡ d
    → x ≡ y → cs ≡ ds → flow n ps a c x cs ≡ flow m qs b d y ds
same_flow e f g h i j = cc

same_next : {c d : Child} {x y : Bool} {cs ds : Children} → c ≡ d → x ≡ y → cs ≡ ds → next c x cs ≡ next d y ds
same_next e f g = cc

same_group : {y z : Way} {a b c d : Member} {ms ns : Members} → key (Keyword.group y) ≡ key (Keyword.group z) → a ≡ b → c ≡ d → ms ≡ ns
    → group y a c ms ≡ group z b d ns
same_group e f g h = cc

same_replicator : {y z : Way} {p q : Name} {i j : ℕ} {m n : Member} → key (Keyword.replicator y) ≡ key (Keyword.replicator z) → Token.name p ≡ Token.name q
    → numeral i ≡ numeral j → m ≡ n → replicator y p i m ≡ replicator z q j n
same_replicator e f g h = cc

leaf_apart : (n : Name) (f : Flow) (r s : List Token) → member_tokens (leaf n) r ≡ flow_tokens f s → ⊥
unfolding flow_tokens
leaf_apart n (flow m ps sw c x cs) r s e = let z : ◌≡◌ {A = ℕ} 0 1 = cc in omega arith

mutual
  unfolding flow_tokens

  flow_once : (f g : Flow) (r s : List Token) → flow_tokens f r ≡ flow_tokens g s → Once f g r s
  flow_once (flow n ps a c x cs) (flow m qs b d y ds) r s e =
      let t = past_two e in
      let p = pars_once ps qs a b _ _ (tail-eq_of_cons-eq t) in
      let q = child_once c d _ _ (past_two p.2) in
      let u = ref_once x y _ _ q.1 in
      let z = children_once cs ds r s u.1 in
      (same_flow (head-eq_of_cons-eq t) p.0 p.1 q.0 u.0 z.0, z.1)

  children_once : (cs ds : Children) (r s : List Token) → children_tokens cs (sign closing ∷ r) ≡ children_tokens ds (sign closing ∷ s) → Once cs ds r s
  children_once none none r s e = (refl, tail-eq_of_cons-eq e)
  children_once none (next d y ds) r s e = absurd (end_once d _ _ e)
  children_once (next c x cs) none r s e = absurd (end_once c _ _ (sym e))
  children_once (next c x cs) (next d y ds) r s e =
      let q = child_once c d _ _ e in
      let u = ref_once x y _ _ q.1 in
      let z = children_once cs ds r s u.1 in
      (same_next q.0 u.0 z.0, z.1)

  child_once : (c d : Child) (r s : List Token) → child_tokens c r ≡ child_tokens d s → Once c d r s
  child_once (plain m) (plain n) r s e = let q = member_once m n r s e in (ap plain q.0, q.1)
  child_once (plain m) (loop n) r s e = absurd (apart (plain m) (loop n) r s e refl)
  child_once (plain m) (group z b d ns) r s e = absurd (apart (plain m) (group z b d ns) r s e refl)
  child_once (plain m) (replicator z q j n) r s e = absurd (apart (plain m) (replicator z q j n) r s e refl)
  child_once (loop m) (plain n) r s e = absurd (apart (loop m) (plain n) r s e refl)
  child_once (loop m) (loop n) r s e = let q = member_once m n _ _ (past_two e) in (ap loop q.0, tail-eq_of_cons-eq q.1)
  child_once (loop m) (group z b d ns) r s e = absurd (apart (loop m) (group z b d ns) r s e refl)
  child_once (loop m) (replicator z q j n) r s e = absurd (apart (loop m) (replicator z q j n) r s e refl)
  child_once (group y a c ms) (plain n) r s e = absurd (apart (group y a c ms) (plain n) r s e refl)
  child_once (group y a c ms) (loop n) r s e = absurd (apart (group y a c ms) (loop n) r s e refl)
  child_once (group y a c ms) (group z b d ns) r s e =
      let u = member_once a b _ _ (past_two e) in
      let v = member_once c d _ _ u.1 in
      let w = members_once ms ns r s v.1 in
      (same_group (head-eq_of_cons-eq e) u.0 v.0 w.0, w.1)
  child_once (group y a c ms) (replicator z q j n) r s e = absurd (apart (group y a c ms) (replicator z q j n) r s e refl)
  child_once (replicator y p i m) (plain n) r s e = absurd (apart (replicator y p i m) (plain n) r s e refl)
  child_once (replicator y p i m) (loop n) r s e = absurd (apart (replicator y p i m) (loop n) r s e refl)
  child_once (replicator y p i m) (group z b d ns) r s e = absurd (apart (replicator y p i m) (group z b d ns) r s e refl)
  child_once (replicator y p i m) (replicator z q j n) r s e =
      let t = past_two e in
      let o = past_two t in
      let u = member_once m n _ _ (tail-eq_of_cons-eq (past_two o)) in
      (same_replicator (head-eq_of_cons-eq e) (head-eq_of_cons-eq t) (head-eq_of_cons-eq o) u.0, tail-eq_of_cons-eq u.1)

  member_once : (m n : Member) (r s : List Token) → member_tokens m r ≡ member_tokens n s → Once m n r s
  member_once (leaf a) (leaf b) r s e = let t = past_two e in (ap leaf (same_name (head-eq_of_cons-eq t)), past_two t)
  member_once (leaf a) (inner g) r s e = absurd (leaf_apart a g r s e)
  member_once (inner f) (leaf b) r s e = absurd (leaf_apart b f s r (sym e))
  member_once (inner f) (inner g) r s e = let q = flow_once f g r s e in (ap inner q.0, q.1)

  members_once : (ms ns : Members) (r s : List Token) → members_tokens ms (sign closing ∷ r) ≡ members_tokens ns (sign closing ∷ s) → Once ms ns r s
  members_once end end r s e = (refl, tail-eq_of_cons-eq e)
  members_once end (also n ns) r s e = absurd (end_once (plain n) _ _ e)
  members_once (also m ms) end r s e = absurd (end_once (plain m) _ _ (sym e))
  members_once (also m ms) (also n ns) r s e =
      let q = member_once m n _ _ e in
      let z = members_once ms ns r s q.1 in
      (ap₂ also q.0 z.0, z.1)

-- Two diagrams with the same tokens are the same.
pub derived_once : (words : List Name) (ts : List Token) (d e : Flow) → Derives words ts d → Derives words ts e → d ≡ e
derived_once words ts d e h k = (flow_once d e [] [] (sym h.tokens ∙ k.tokens)).0
