-- Each entry that the machine ever wants spells some tokens before any others, so that what was read so far can always be completed.
use mathlib.Core.Path.{◌≡◌, refl}
use mathlib.Core.Bool.{true, false}
use mathlib.Core.List.{List, [], ◌∷◌, ◌++◌}
use Prim.Native.Nat.{ℕ, ◌-◌}
use Rattle.diagram.specs.Tree.{Name, flow, none, Child, plain, leaf, inner}
use Rattle.tokens.specs.Token.{Sign, closing, comma, Keyword, Token, key, name, numeral, named}
use Rattle.grammar.specs.Tokens.{bit, child_tokens}
use Rattle.grammar.specs.Machine.{Place, root, member, child, allows, Want, sign, params, param, node, more, others, big, push, ref, parts}
use Rattle.grammar.proofs.Stack.{Spells, SpellsAll}
use Rattle.grammar.proofs.Takes.{Begins, at_node, at_more, at_others, Takes, a_sign, a_name, a_number, a_comma, a_par, a_sw, an_end, too_big, a_node}
use Rattle.grammar.proofs.Steps.{begun_spells, node_into, more_listed, others_listed}

-- The entry spells some tokens before any others.
abbrev pub Good : List Name → Want → Type 0
Good words w = (rest : List Token) → (ts : List Token) × Spells words w ts rest

abbrev pub AllGood : List Name → List Want → Type 0
AllGood words [] = Unit {0}
AllGood words (w ∷ ws) = Good words w × AllGood words ws

pub all_filled : (words : List Name) (ws : List Want) → AllGood words ws → (rest : List Token) → (ts : List Token) × SpellsAll words ws ts rest
all_filled words [] g rest = (rest, refl)
all_filled words (w ∷ ws) g rest = let r = all_filled words ws g.1 rest in let s = g.0 r.0 in (s.0, (r.0, s.1, r.1))

pub good_append : (words : List Name) (vs ws : List Want) → AllGood words vs → AllGood words ws → AllGood words (vs ++ ws)
good_append words [] ws g h = h
good_append words (v ∷ vs) ws g h = (g.0, good_append words vs ws g.1 h)

-- A name there is.
module _ (words : List Name) (a : Name) (ok : named words a ≡ true) where
  -- A flow may stand anywhere.
  good_node : (p : Place) (d : ℕ) → Good words (node p d)
  good_node p d rest = (child_tokens a_flow rest, record { tree = a_flow; fit = (ok, refl, ok, tt); allowed = anywhere p; tokens = refl })
    where
      a_flow : Child
      a_flow = plain (inner (flow a [] false (plain (leaf a)) false none))

      anywhere : (p : Place) → allows p Keyword.flow ≡ true
      anywhere root = refl
      anywhere member = refl
      anywhere child = refl

  good_sign : (s : Sign) → Good words (sign s)
  good_sign s rest = (Token.sign s ∷ rest, refl)

  good_name : Good words Want.named
  good_name rest = (name a ∷ rest, (a, ok, refl))

  good_params : Good words params
  good_params rest = (Token.sign comma ∷ bit false ∷ Token.sign closing ∷ rest, record { pars = []; sw = false; names = refl; tokens = refl })

  good_param : Good words param
  good_param rest = (bit false ∷ Token.sign closing ∷ rest, record { pars = []; sw = false; names = refl; tokens = refl })

  good_more : (d : ℕ) → Good words (more d)
  good_more d rest = (Token.sign closing ∷ rest, (more_listed words d).ended rest)

  good_others : (d : ℕ) → Good words (others d)
  good_others d rest = (Token.sign closing ∷ rest, (others_listed words d).ended rest)

  good_ref : (d : ℕ) → AllGood words (ref ++ (more d ∷ []))
  good_ref d = (good_sign _, (λ rest. (numeral 0 ∷ rest, (0, refl, refl)), (good_sign _, (good_more d, tt))))

  good_parts : (k : Keyword) (d : ℕ) → AllGood words (parts k d)
  good_parts Keyword.flow d = (good_sign _, (good_name, (good_params, (good_sign _, (good_node child d, good_ref d)))))
  good_parts Keyword.leaf d = (good_sign _, (good_name, (good_sign _, tt)))
  good_parts (Keyword.group y) d = (good_sign _, (good_node member d, (good_node member d, (good_others d, tt))))
  good_parts (Keyword.replicator y) d = (
    good_sign _,
    (good_name, (good_sign _, (λ rest. (numeral 1 ∷ rest, (1, refl, refl)), (good_sign _, (good_sign _, (good_node member d, (good_sign _, tt))))))),
  )
  good_parts Keyword.loop d = (good_sign _, (good_node member d, (good_sign _, tt)))

  good_after : {w : Want} {p : Place} {d : ℕ} {after : List Want} → Begins w p d after → AllGood words after
  good_after at_node = tt
  good_after (at_more {d}) = good_ref d
  good_after (at_others {d}) = (good_others d, tt)

  -- What is pushed is good.
  pub good_pushed : {n u : ℕ} {w : Want} {t : Token} {vs : List Want} → Takes n w t (push u vs) → AllGood words vs
  good_pushed a_sign = tt
  good_pushed a_name = tt
  good_pushed (a_number b) = tt
  good_pushed a_comma = (good_param, tt)
  good_pushed a_par = (good_params, tt)
  good_pushed (a_sw b) = (good_sign closing, tt)
  good_pushed (an_end e) = tt
  good_pushed (a_node {d = d} {after = after} {k = k} b a f) = good_append words (parts k (d - 1)) after (good_parts k (d - 1)) (good_after b)

  pub good_root : (d : ℕ) → AllGood words (node root d ∷ [])
  good_root d = (good_node root d, tt)

  -- A token that stands for a node too many or too deep is on grammar.
  pub grown : {n : ℕ} {w : Want} {t : Token} → Takes n w t big → (rest : List Token) → (ts : List Token) × Spells words w (t ∷ ts) rest
  grown (too_big {p = p} {after = after} {k = k} b a f) rest =
      let x = all_filled words after (good_after b) rest in
      let y = all_filled words (parts k 0) (good_parts k 0) x.0 in
      (y.0, begun_spells words b (key k ∷ y.0) rest (x.0, node_into words p 0 k y.0 x.0 a y.1, x.1))
