-- One step of the machine: what the first entry spells is the token and then what is pushed.
use mathlib.Core.Path.{◌≡◌, refl, sym, ◌∙◌, ap, subst}
use mathlib.Core.Logic.{◌⊎◌, inl, inr, ⊎_elim}
use mathlib.Core.Bool.{true, cond}
use mathlib.Core.List.{List, [], ◌∷◌, ◌++◌, nil≢cons, head-eq_of_cons-eq, tail-eq_of_cons-eq}
use Prim.Native.Nat.{ℕ, ◌-◌}
use Rattle.diagram.specs.Tree.{Name, Children, none, next, Members, end, also}
use Rattle.base.proofs.Truth.{and_r, and_i}
use Rattle.tokens.specs.Token.{closing, comma, Keyword, Token, key, name, numeral, named, proper}
use Rattle.tokens.proofs.Tokens.{chosen}
use Rattle.grammar.specs.Tokens.{bit, pars_tokens, ref_tokens, children_tokens, members_tokens}
use Rattle.grammar.specs.Named.{all_named}
use Rattle.grammar.specs.Machine.{is_sign, is_name, counts, Place, member, child, allows, Want, sign, number, params, param, node, more, others, Move, off, big, push, ref, parts, full, begin, expand}
use Rattle.grammar.proofs.Fit.{FitChildren, FitMembers}
use Rattle.grammar.proofs.Stack.{shape, Params, Node, More, Others, Spells, SpellsAll, joined, parted, as_member, a_member, a_child, bit_number, number_bit}
use Rattle.grammar.proofs.Takes.{sign_same, Begins, at_node, at_more, at_others, more_ends, others_ends, Takes, astray, a_sign, a_name, a_number, a_comma, a_par, a_sw, an_end, too_big, a_node}
use Rattle.grammar.proofs.Nodes.{after_child, child_after, opened, built}

module _ (words : List Name) where
  -- What is left to spell after a move. Where a node is one too many or too deep it is B.
  abbrev pub Taken : Type 0 → Move → List Token → List Token → Type 0
  Taken B off ts rest = ⊥
  Taken B big ts rest = B
  Taken B (push u ws) ts rest = SpellsAll words ws ts rest

  -- A node is a keyword that may stand there, and its parts.
  pub node_out : (p : Place) (d : ℕ) (t : Token) (ts rest : List Token) → Node words p (t ∷ ts) rest
      → (k : Keyword) × (t ≡ key k) × (allows p k ≡ true) × SpellsAll words (parts k d) ts rest
  node_out p d t ts rest n =
      let o = opened words d rest n.tree n.fit in
      let e = n.tokens ∙ o.1 in
      (shape n.tree, head-eq_of_cons-eq e, n.allowed, subst (λ (l : List Token). SpellsAll words (parts (shape n.tree) d) l rest) (sym (tail-eq_of_cons-eq e)) o.2)

  pub node_into : (p : Place) (d : ℕ) (k : Keyword) (ts rest : List Token) → allows p k ≡ true → SpellsAll words (parts k d) ts rest
      → Node words p (key k ∷ ts) rest
  node_into p d k ts rest a s =
      let b = built words d rest k ts s in record { tree = b.0; fit = b.1; allowed = rw b.2 a; tokens = b.3 }

  -- A node and then what is wanted after it.
  abbrev pub Begun : Place → List Want → List Token → List Token → Type 0
  Begun p after ts rest = (mid : List Token) × Node words p ts mid × SpellsAll words after mid rest

  begin_out : (p : Place) (d n : ℕ) (after : List Want) (t : Token) (ts rest : List Token) → Begun p after (t ∷ ts) rest
      → (k : Keyword) × (t ≡ key k) × Taken (Unit {0}) (begin p d n (key k) after) ts rest
  begin_out p d n after t ts rest b =
      let r = node_out p (d - 1) t ts b.0 b.1 in (
        r.0,
        r.1,
        rw r.2
            (chosen (full d n) big (push 1 (parts r.0 (d - 1) ++ after)) (λ (m : Move). Taken (Unit {0}) m ts rest) (λ q. tt)
            (λ q. joined words (parts r.0 (d - 1)) after ts rest (b.0, r.3, b.2))),
      )

  -- What is listed up to a `)`: that sign, or a node and what is wanted after it.
  pub record Listed (W : List Token → List Token → Type 0) (p : Place) (after : List Want) : Type 0 where
    pub out : (ts rest : List Token) → W ts rest → (ts ≡ Token.sign closing ∷ rest) ⊎ Begun p after ts rest
    pub ended : (rest : List Token) → W (Token.sign closing ∷ rest) rest
    pub begun : (ts rest : List Token) → Begun p after ts rest → W ts rest

  pub more_listed : (d : ℕ) → Listed (More words) child (ref ++ (more d ∷ []))
  unfolding children_tokens
  more_listed d =
      record {
        out = λ ts rest m. out ts rest m.tree m.fit m.tokens;
        ended = λ rest. record { tree = none; fit = tt; tokens = refl };
        begun = begun;
      }
    where
      out : (ts rest : List Token) (cs : Children) → FitChildren words cs → ts ≡ children_tokens cs (Token.sign closing ∷ rest)
          → (ts ≡ Token.sign closing ∷ rest) ⊎ Begun child (ref ++ (more d ∷ [])) ts rest
      out ts rest none h e = inl e
      out ts rest (next c r cs) h e =
          inr (ref_tokens r (children_tokens cs (Token.sign closing ∷ rest)), rw e (a_child words c h.0 _), after_child words d rest r cs h.1)

      begun : (ts rest : List Token) → Begun child (ref ++ (more d ∷ [])) ts rest → More words ts rest
      begun ts rest b =
          let n = b.1 in
          let a = child_after words d rest b.0 b.2 in
          let m = a.2 in
          record { tree = next n.tree a.0 m.tree; fit = (n.fit, m.fit); tokens = cc (n.tokens, a.3, m.tokens) }

  pub others_listed : (d : ℕ) → Listed (Others words) member (others d ∷ [])
  unfolding members_tokens
  others_listed d =
      record {
        out = λ ts rest m. out ts rest m.tree m.fit m.tokens;
        ended = λ rest. record { tree = end; fit = tt; tokens = refl };
        begun = begun;
      }
    where
      out : (ts rest : List Token) (ms : Members) → FitMembers words ms → ts ≡ members_tokens ms (Token.sign closing ∷ rest)
          → (ts ≡ Token.sign closing ∷ rest) ⊎ Begun member (others d ∷ []) ts rest
      out ts rest end h e = inl e
      out ts rest (also m ms) h e =
          inr (members_tokens ms (Token.sign closing ∷ rest), rw e (a_member words m h.0 _), (rest, record { tree = ms; fit = h.1; tokens = refl }, refl))

      begun : (ts rest : List Token) → Begun member (others d ∷ []) ts rest → Others words ts rest
      begun ts rest b =
          let n = as_member words b.1 in
          let m = b.2.1 in
          let z = b.2.2 in
          record { tree = also n.tree m.tree; fit = (n.fit, m.fit); tokens = cc (n.tokens, m.tokens, z) }

  module _ {W : List Token → List Token → Type 0} (p : Place) (d n : ℕ) (after : List Want) (l : Listed W p after) (t : Token) (ts rest : List Token) where
    list_out : W (t ∷ ts) rest → Taken (Unit {0}) (cond (is_sign closing t) (push 0 []) (begin p d n t after)) ts rest
    list_out w =
        ⊎_elim (λ (e : t ∷ ts ≡ Token.sign closing ∷ rest). let h : t ≡ Token.sign closing = head-eq_of_cons-eq e in rw h (tail-eq_of_cons-eq e))
        (λ (b : Begun p after (t ∷ ts) rest). let r = begin_out p d n after t ts rest b in rw r.1 r.2) (l.out (t ∷ ts) rest w)

  -- The parameters of a flow.
  module _ (t : Token) (ts rest : List Token) where
    params_comma : Params words (t ∷ ts) rest → t ≡ Token.sign comma
    params_comma p = go p.pars p.tokens
      where
        go : (ps : List Name) → t ∷ ts ≡ pars_tokens ps (Token.sign comma ∷ bit p.sw ∷ Token.sign closing ∷ rest) → t ≡ Token.sign comma
        go [] e = head-eq_of_cons-eq e
        go (q ∷ ps) e = head-eq_of_cons-eq e

    abbrev at_param : Move
    at_param = cond (is_name t) (push 0 (params ∷ [])) (cond (counts 0 1 t) (push 0 (sign closing ∷ [])) off)

    param_out : Params words (Token.sign comma ∷ t ∷ ts) rest → Taken (Unit {0}) at_param ts rest
    param_out p = go p.pars p.names p.tokens
      where
        last : List Token
        last = Token.sign comma ∷ bit p.sw ∷ Token.sign closing ∷ rest

        go : (ps : List Name) → all_named words ps ≡ true → Token.sign comma ∷ t ∷ ts ≡ pars_tokens ps last → Taken (Unit {0}) at_param ts rest
        go [] h e =
            let b = bit_number p.sw in
            let z = tail-eq_of_cons-eq e in
            rw (head-eq_of_cons-eq z, b.2, b.1) (rest, tail-eq_of_cons-eq z, refl)
        go (q ∷ ps) h e =
            let z = tail-eq_of_cons-eq e in
            rw (head-eq_of_cons-eq z) (rest, record { pars = ps; sw = p.sw; names = and_r (named words q) (all_named words ps) h; tokens = tail-eq_of_cons-eq z }, refl)

  pub step_out : (w : Want) (n : ℕ) (t : Token) (ts rest : List Token) → Spells words w (t ∷ ts) rest → Taken (Unit {0}) (expand w n t) ts rest
  unfolding expand
  step_out (sign s) n t ts rest h = rw (head-eq_of_cons-eq h, sign_same s) (tail-eq_of_cons-eq h)
  step_out Want.named n t ts rest h = rw (head-eq_of_cons-eq h.2) (tail-eq_of_cons-eq h.2)
  step_out (number a b) n t ts rest h = rw (head-eq_of_cons-eq h.2, h.1) (tail-eq_of_cons-eq h.2)
  step_out params n t ts rest h = let c = params_comma t ts rest h in rw c (rest, rw c at h, refl)
  step_out param n t ts rest h = param_out t ts rest h
  step_out (node p d) n t ts rest h = let r = begin_out p d n [] t ts rest (rest, h, refl) in rw r.1 r.2
  step_out (more d) n t ts rest h = list_out child d n (ref ++ (more d ∷ [])) (more_listed d) t ts rest h
  step_out (others d) n t ts rest h = list_out member d n (others d ∷ []) (others_listed d) t ts rest h

  pub begun_spells : {w : Want} {p : Place} {d : ℕ} {after : List Want} → Begins w p d after → (ts rest : List Token) → Begun p after ts rest → Spells words w ts rest
  begun_spells at_node ts rest b = rw (← b.2) b.1
  begun_spells (at_more {d}) ts rest b = (more_listed d).begun ts rest b
  begun_spells (at_others {d}) ts rest b = (others_listed d).begun ts rest b

  pub step_into : {n : ℕ} {w : Want} {t : Token} {m : Move} → Takes n w t m → (ts rest : List Token) → proper words t ≡ true → Taken ⊥ m ts rest
      → Spells words w (t ∷ ts) rest
  step_into astray ts rest h z = absurd z
  step_into (a_sign {s}) ts rest h e = ap (λ (l : List Token). Token.sign s ∷ l) e
  step_into (a_name {x}) ts rest h e = (x, h, ap (λ (l : List Token). name x ∷ l) e)
  step_into (a_number {m} b) ts rest h e = (m, b, ap (λ (l : List Token). numeral m ∷ l) e)
  step_into a_comma ts rest h s = rw (← s.2) s.1
  step_into (a_par {x}) ts rest h s =
      let p = s.1 in
      let e = s.2 in
      record { pars = x ∷ p.pars; sw = p.sw; names = and_i h p.names; tokens = cc p.tokens }
  step_into (a_sw {m} b) ts rest h s =
      let r = number_bit m b in record { pars = []; sw = r.0; names = refl; tokens = cc (r.1, s.1, s.2) }
  step_into (an_end (more_ends {d})) ts rest h e = rw e ((more_listed d).ended rest)
  step_into (an_end (others_ends {d})) ts rest h e = rw e ((others_listed d).ended rest)
  step_into (too_big b a f) ts rest h z = absurd z
  step_into (a_node {p = p} {d = d} {after = after} {k = k} b a f) ts rest h s =
      let r = parted words (parts k (d - 1)) after ts rest s in
      begun_spells b (key k ∷ ts) rest (r.0, node_into p (d - 1) k ts r.0 a r.1, r.2)

  -- No entry spells nothing.
  node_filled : (p : Place) (rest : List Token) → Node words p [] rest → ⊥
  node_filled p rest n = nil≢cons (n.tokens ∙ (opened words 0 rest n.tree n.fit).1)

  listed_filled : {W : List Token → List Token → Type 0} (p : Place) (after : List Want) → Listed W p after → (rest : List Token) → W [] rest → ⊥
  listed_filled p after l rest w = ⊎_elim (λ e. nil≢cons e) (λ b. node_filled p b.0 b.1) (l.out [] rest w)

  params_filled : (ps : List Name) (t : Token) (l : List Token) → ([] ≡ pars_tokens ps (Token.sign comma ∷ t ∷ l) → ⊥) × (Token.sign comma ∷ [] ≡ pars_tokens ps (Token.sign comma ∷ t ∷ l) → ⊥)
  params_filled [] t l = (λ e. nil≢cons e, λ e. nil≢cons (tail-eq_of_cons-eq e))
  params_filled (p ∷ ps) t l = (λ e. nil≢cons e, λ e. nil≢cons (tail-eq_of_cons-eq e))

  pub never_empty : (w : Want) (rest : List Token) → Spells words w [] rest → ⊥
  never_empty (sign s) rest h = nil≢cons h
  never_empty Want.named rest h = nil≢cons h.2
  never_empty (number a b) rest h = nil≢cons h.2
  never_empty params rest h = (params_filled h.pars (bit h.sw) (Token.sign closing ∷ rest)).0 h.tokens
  never_empty param rest h = (params_filled h.pars (bit h.sw) (Token.sign closing ∷ rest)).1 h.tokens
  never_empty (node p d) rest h = node_filled p rest h
  never_empty (more d) rest h = listed_filled child (ref ++ (more d ∷ [])) (more_listed d) rest h
  never_empty (others d) rest h = listed_filled member (others d ∷ []) (others_listed d) rest h
