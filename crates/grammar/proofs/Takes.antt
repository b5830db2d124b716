-- What becomes of an entry at a token, case by case.
use mathlib.Core.Path.{◌≡◌, refl, sym, ◌∙◌, ap}
use mathlib.Core.Bool.{true, false, cond, false≢true}
use mathlib.Core.List.{List, [], ◌∷◌, ◌++◌}
use Prim.Native.Nat.{ℕ, ◌-◌}
use lib.Dec.{eqb}
use borrow.Author.Tests.{eqb-true, eq-eqb}
use Rattle.diagram.specs.Tree.{Name}
use Rattle.tokens.specs.Classes.{between}
use Rattle.tokens.specs.Token.{Sign, opening, closing, comma, colon, Keyword, Token, key, name, numeral, other, sign_class}
use Rattle.tokens.proofs.Tokens.{chosen}
use Rattle.grammar.specs.Machine.{is_sign, is_name, counts, Place, member, child, allows, Want, sign, named, number, params, param, node, more, others, Move, off, big, push, ref, parts, full, begin, expand}

-- What a token is that passes a test.
abbrev sign_at : ℕ → Sign
sign_at c = cond (eqb c 1) opening (cond (eqb c 2) closing (cond (eqb c 3) comma colon))

sign_back : (s : Sign) → sign_at (sign_class s) ≡ s
sign_back opening = refl
sign_back closing = refl
sign_back comma = refl
sign_back colon = refl

pub sign_same : (s : Sign) → is_sign s (Token.sign s) ≡ true
sign_same s = eq-eqb (sign_class s) (sign_class s) refl

sign_is : (s : Sign) (t : Token) → is_sign s t ≡ true → t ≡ Token.sign s
sign_is s (Token.sign r) h = ap Token.sign (sym (sign_back r) ∙ (ap sign_at (eqb-true (sign_class r) (sign_class s) h) ∙ sign_back s))
sign_is s (key k) h = absurd (false≢true h)
sign_is s (name w) h = absurd (false≢true h)
sign_is s (numeral n) h = absurd (false≢true h)
sign_is s other h = absurd (false≢true h)

-- An entry that may begin a node: where it stands, the depths left, and what is wanted after it; and one that `)` may end.
pub data Begins : Want → Place → ℕ → List Want → Type 0 where
  at_node : {p : Place} {d : ℕ} → Begins (node p d) p d []
  at_more : {d : ℕ} → Begins (more d) child d (ref ++ (more d ∷ []))
  at_others : {d : ℕ} → Begins (others d) member d (others d ∷ [])

pub data Ends : Want → Type 0 where
  more_ends : {d : ℕ} → Ends (more d)
  others_ends : {d : ℕ} → Ends (others d)

pub data Takes (n : ℕ) : Want → Token → Move → Type 0 where
  astray : {w : Want} {t : Token} → Takes n w t off
  a_sign : {s : Sign} → Takes n (sign s) (Token.sign s) (push 0 [])
  a_name : {x : Name} → Takes n named (name x) (push 0 [])
  a_number : {a b m : ℕ} → between a b m ≡ true → Takes n (number a b) (numeral m) (push 0 [])
  a_comma : Takes n params (Token.sign comma) (push 0 (param ∷ []))
  a_par : {x : Name} → Takes n param (name x) (push 0 (params ∷ []))
  a_sw : {m : ℕ} → between 0 1 m ≡ true → Takes n param (numeral m) (push 0 (sign closing ∷ []))
  an_end : {w : Want} → Ends w → Takes n w (Token.sign closing) (push 0 [])
  too_big : {w : Want} {p : Place} {d : ℕ} {after : List Want} {k : Keyword} → Begins w p d after → allows p k ≡ true → full d n ≡ true
      → Takes n w (key k) big
  a_node : {w : Want} {p : Place} {d : ℕ} {after : List Want} {k : Keyword} → Begins w p d after → allows p k ≡ true → full d n ≡ false
      → Takes n w (key k) (push 1 (parts k (d - 1) ++ after))

module _ (n : ℕ) where
  begin_takes : {w : Want} {p : Place} {d : ℕ} {after : List Want} → Begins w p d after → (t : Token) → Takes n w t (begin p d n t after)
  begin_takes b (Token.sign s) = astray
  begin_takes {w} {p} {d} {after} b (key k) =
      chosen (allows p k) (cond (full d n) big (push 1 (parts k (d - 1) ++ after))) off (Takes n w (key k))
      (λ a. chosen (full d n) big (push 1 (parts k (d - 1) ++ after)) (Takes n w (key k)) (too_big b a) (a_node b a)) (λ a. astray)
  begin_takes b (name x) = astray
  begin_takes b (numeral m) = astray
  begin_takes b other = astray

  name_takes : (t : Token) → Takes n named t (cond (is_name t) (push 0 []) off)
  name_takes (Token.sign s) = astray
  name_takes (key k) = astray
  name_takes (name x) = a_name
  name_takes (numeral m) = astray
  name_takes other = astray

  number_takes : (a b : ℕ) (t : Token) → Takes n (number a b) t (cond (counts a b t) (push 0 []) off)
  number_takes a b (Token.sign s) = astray
  number_takes a b (key k) = astray
  number_takes a b (name x) = astray
  number_takes a b (numeral m) = chosen (between a b m) (push 0 []) off (Takes n (number a b) (numeral m)) a_number (λ e. astray)
  number_takes a b other = astray

  param_takes : (t : Token) → Takes n param t (cond (is_name t) (push 0 (params ∷ [])) (cond (counts 0 1 t) (push 0 (sign closing ∷ [])) off))
  param_takes (Token.sign s) = astray
  param_takes (key k) = astray
  param_takes (name x) = a_par
  param_takes (numeral m) = chosen (between 0 1 m) (push 0 (sign closing ∷ [])) off (Takes n param (numeral m)) a_sw (λ e. astray)
  param_takes other = astray

  pub takes : (w : Want) (t : Token) → Takes n w t (expand w n t)
  unfolding expand
  takes (sign s) t = chosen (is_sign s t) (push 0 []) off (Takes n (sign s) t) (λ e. rw (sign_is s t e) a_sign) (λ e. astray)
  takes named t = name_takes t
  takes (number a b) t = number_takes a b t
  takes params t = chosen (is_sign comma t) (push 0 (param ∷ [])) off (Takes n params t) (λ e. rw (sign_is comma t e) a_comma) (λ e. astray)
  takes param t = param_takes t
  takes (node p d) t = begin_takes at_node t
  takes (more d) t =
      chosen (is_sign closing t) (push 0 []) (begin child d n t (ref ++ (more d ∷ []))) (Takes n (more d) t) (λ e. rw (sign_is closing t e) (an_end more_ends))
      (λ e. begin_takes at_more t)
  takes (others d) t =
      chosen (is_sign closing t) (push 0 []) (begin member d n t (others d ∷ [])) (Takes n (others d) t) (λ e. rw (sign_is closing t e) (an_end others_ends))
      (λ e. begin_takes at_others t)
