-- A node is its keyword and then its parts, both ways.
use mathlib.Core.Path.{◌≡◌, refl, ap}
use mathlib.Core.Bool.{Bool}
use mathlib.Core.List.{List, [], ◌∷◌, ◌++◌}
use Prim.Native.Nat.{ℕ}
use Rattle.diagram.specs.Tree.{Name, flow, Children, Child, plain, loop, group, replicator, leaf, inner}
use Rattle.tokens.specs.Token.{closing, Keyword, Token, key}
use Rattle.grammar.specs.Tokens.{ref_tokens, children_tokens, child_tokens}
use Rattle.grammar.specs.Machine.{more, ref, parts}
use Rattle.grammar.proofs.Fit.{FitChildren, FitChild}
use Rattle.grammar.proofs.Stack.{shape, More, SpellsAll, as_member, a_member, a_child, bit_number, number_bit}

module _ (words : List Name) (d : ℕ) (rest : List Token) where
  -- What stands after a child of a flow, both ways.
  pub after_child : (r : Bool) (cs : Children) → FitChildren words cs
      → SpellsAll words (ref ++ (more d ∷ [])) (ref_tokens r (children_tokens cs (Token.sign closing ∷ rest))) rest
  after_child r cs h =
      let b = bit_number r in
      let after = Token.sign closing ∷ children_tokens cs (Token.sign closing ∷ rest) in
      (_, refl, (after, (b.0, b.1, ap (λ (t : Token). t ∷ after) b.2), (_, refl, (rest, record { tree = cs; fit = h; tokens = refl }, refl))))

  pub child_after : (ts : List Token) → SpellsAll words (ref ++ (more d ∷ [])) ts rest
      → (r : Bool) × (mid : List Token) × More words mid rest × (ts ≡ ref_tokens r mid)
  child_after ts s =
      let o = s.1 in
      let n = s.2.1 in
      let b = number_bit n.0 n.1 in
      let c = s.2.2.1 in
      let z = s.2.2.2.2 in
      (b.0, s.2.2.0, rw (← z) s.2.2.2.1, cc (b.1, n.2))

  -- The keyword before the parts.
  pub opened : (c : Child) → FitChild words c → (tail : List Token) × (child_tokens c rest ≡ key (shape c) ∷ tail) × SpellsAll words (parts (shape c) d) tail rest
  unfolding child_tokens
  opened (plain (leaf n)) h = (_, refl, (_, refl, (_, (n, h, refl), (_, refl, refl))))
  opened (plain (inner (flow n ps sw c r cs))) h = (
    _,
    refl,
    (
      _,
      refl,
      (
        _,
        (n, h.0, refl),
        (_, record { pars = ps; sw = sw; names = h.1; tokens = refl }, (_, refl, (_, a_child words c h.2 _, after_child r cs h.3))),
      ),
    ),
  )
  opened (loop m) h = (_, refl, (_, refl, (_, a_member words m h _, (_, refl, refl))))
  opened (group y a b ms) h = (
    _,
    refl,
    (
      _,
      refl,
      (_, a_member words a h.0 _, (_, a_member words b h.1 _, (rest, record { tree = ms; fit = h.2; tokens = refl }, refl))),
    ),
  )
  opened (replicator y par size m) h = (
    _,
    refl,
    (
      _,
      refl,
      (
        _,
        (par, h.0, refl),
        (_, refl, (_, (size, h.1, refl), (_, refl, (_, refl, (_, a_member words m h.2 _, (_, refl, refl)))))),
      ),
    ),
  )

  -- The parts after the keyword.
  abbrev pub Built : Keyword → List Token → Type 0
  Built k ts = (c : Child) × FitChild words c × (shape c ≡ k) × (key k ∷ ts ≡ child_tokens c rest)

  pub built : (k : Keyword) (ts : List Token) → SpellsAll words (parts k d) ts rest → Built k ts
  unfolding child_tokens
  built Keyword.flow ts s =
      let o = s.1 in
      let n = s.2.1 in
      let p = s.2.2.1 in
      let q = s.2.2.2.1 in
      let c = s.2.2.2.2.1 in
      let a = child_after s.2.2.2.2.0 s.2.2.2.2.2 in
      let m = a.2 in (
        plain (inner (flow n.0 p.pars p.sw c.tree a.0 m.tree)),
        (n.1, p.names, c.fit, m.fit),
        refl,
        cc (n.2, p.tokens, c.tokens, a.3, m.tokens),
      )
  built Keyword.leaf ts s =
      let o = s.1 in
      let n = s.2.1 in
      let c = s.2.2.1 in
      let z = s.2.2.2 in
      (plain (leaf n.0), n.1, refl, cc n.2)
  built (Keyword.group y) ts s =
      let o = s.1 in
      let a = as_member words s.2.1 in
      let b = as_member words s.2.2.1 in
      let ms = s.2.2.2.1 in
      let z = s.2.2.2.2 in
      (group y a.tree b.tree ms.tree, (a.fit, b.fit, ms.fit), refl, cc (a.tokens, b.tokens, ms.tokens))
  built (Keyword.replicator y) ts s =
      let o = s.1 in
      let p = s.2.1 in
      let c = s.2.2.1 in
      let n = s.2.2.2.1 in
      let e = s.2.2.2.2.1 in
      let f = s.2.2.2.2.2.1 in
      let m = as_member words s.2.2.2.2.2.2.1 in
      let g = s.2.2.2.2.2.2.2.1 in
      let z = s.2.2.2.2.2.2.2.2 in
      (replicator y p.0 n.0 m.tree, (p.1, n.1, m.fit), refl, cc (p.2, n.2, m.tokens))
  built Keyword.loop ts s =
      let o = s.1 in
      let m = as_member words s.2.1 in
      let c = s.2.2.1 in
      let z = s.2.2.2 in
      (loop m.tree, m.fit, refl, cc m.tokens)
