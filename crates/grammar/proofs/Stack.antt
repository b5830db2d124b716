-- What an entry of the machine's list stands for: the tokens that it spells, whatever the depth and the number of nodes.
use mathlib.Core.Path.{◌≡◌, refl, sym, subst}
use mathlib.Core.Bool.{Bool, true, false, false≢true}
use mathlib.Core.List.{List, [], ◌∷◌, ◌++◌}
use Prim.Native.Nat.{ℕ, zero, suc}
use native.Mathlib.Omega.{arith}
use Rattle.diagram.specs.Tree.{Name, Children, Child, plain, loop, group, replicator, Member, leaf, inner, Members}
use Rattle.tokens.specs.Classes.{between}
use Rattle.tokens.specs.Token.{closing, comma, Keyword, Token, name, numeral, named}
use Rattle.tokens.proofs.Between.{in_range}
use Rattle.grammar.specs.Tokens.{bit, pars_tokens, children_tokens, child_tokens, member_tokens, members_tokens}
use Rattle.grammar.specs.Named.{all_named}
use Rattle.grammar.specs.Machine.{Place, member, child, allows, Want, sign, number, params, param, node, more, others}
use Rattle.grammar.proofs.Fit.{FitChildren, FitChild, FitMember, FitMembers}

-- The keyword of a node.
abbrev pub member_shape : Member → Keyword
member_shape (leaf n) = Keyword.leaf
member_shape (inner f) = Keyword.flow

abbrev pub shape : Child → Keyword
shape (plain m) = member_shape m
shape (loop m) = Keyword.loop
shape (group y a b ms) = Keyword.group y
shape (replicator y par size m) = Keyword.replicator y

module _ (words : List Name) where
  pub record Params (ts rest : List Token) : Type 0 where
    pub pars : List Name
    pub sw : Bool
    pub names : all_named words pars ≡ true
    pub tokens : ts ≡ pars_tokens pars (Token.sign comma ∷ bit sw ∷ Token.sign closing ∷ rest)

  pub record Node (p : Place) (ts rest : List Token) : Type 0 where
    pub tree : Child
    pub fit : FitChild words tree
    pub allowed : allows p (shape tree) ≡ true
    pub tokens : ts ≡ child_tokens tree rest

  pub record More (ts rest : List Token) : Type 0 where
    pub tree : Children
    pub fit : FitChildren words tree
    pub tokens : ts ≡ children_tokens tree (Token.sign closing ∷ rest)

  pub record Others (ts rest : List Token) : Type 0 where
    pub tree : Members
    pub fit : FitMembers words tree
    pub tokens : ts ≡ members_tokens tree (Token.sign closing ∷ rest)

  -- The entry spells the tokens up to the rest.
  abbrev pub Spells : Want → List Token → List Token → Type 0
  Spells (sign s) ts rest = ts ≡ Token.sign s ∷ rest
  Spells Want.named ts rest = (w : Name) × (named words w ≡ true) × (ts ≡ name w ∷ rest)
  Spells (number a b) ts rest = (n : ℕ) × (between a b n ≡ true) × (ts ≡ numeral n ∷ rest)
  Spells params ts rest = Params ts rest
  Spells param ts rest = Params (Token.sign comma ∷ ts) rest
  Spells (node p d) ts rest = Node p ts rest
  Spells (more d) ts rest = More ts rest
  Spells (others d) ts rest = Others ts rest

  abbrev pub SpellsAll : List Want → List Token → List Token → Type 0
  SpellsAll [] ts rest = ts ≡ rest
  SpellsAll (w ∷ ws) ts rest = (mid : List Token) × Spells w ts mid × SpellsAll ws mid rest

  abbrev pub Split : List Want → List Want → List Token → List Token → Type 0
  Split vs ws ts rest = (mid : List Token) × SpellsAll vs ts mid × SpellsAll ws mid rest

  pub joined : (vs ws : List Want) (ts rest : List Token) → Split vs ws ts rest → SpellsAll (vs ++ ws) ts rest
  joined [] ws ts rest s = subst (λ (l : List Token). SpellsAll ws l rest) (sym s.1) s.2
  joined (v ∷ vs) ws ts rest s = (s.1.0, s.1.1, joined vs ws s.1.0 rest (s.0, s.1.2, s.2))

  pub parted : (vs ws : List Want) (ts rest : List Token) → SpellsAll (vs ++ ws) ts rest → Split vs ws ts rest
  parted [] ws ts rest s = (ts, refl, s)
  parted (v ∷ vs) ws ts rest s = let r = parted vs ws s.0 rest s.2 in (r.0, (s.0, s.1, r.1), r.2)

  -- A member is a node that is a leaf or a flow.
  pub record Membered (ts rest : List Token) : Type 0 where
    pub tree : Member
    pub fit : FitMember words tree
    pub tokens : ts ≡ member_tokens tree rest

  pub as_member : {ts rest : List Token} → Node member ts rest → Membered ts rest
  unfolding child_tokens
  as_member {ts} {rest} n = go n.tree n.fit n.allowed n.tokens
    where
      go : (c : Child) → FitChild words c → allows member (shape c) ≡ true → ts ≡ child_tokens c rest → Membered ts rest
      go (plain m) h a e = record { tree = m; fit = h; tokens = e }
      go (loop m) h a e = absurd (false≢true a)
      go (group y b c ms) h a e = absurd (false≢true a)
      go (replicator y par size m) h a e = absurd (false≢true a)

  pub a_member : (m : Member) → FitMember words m → (rest : List Token) → Node member (member_tokens m rest) rest
  unfolding child_tokens
  a_member m h rest = record { tree = plain m; fit = h; allowed = small m; tokens = refl }
    where
      small : (m : Member) → allows member (member_shape m) ≡ true
      small (leaf n) = refl
      small (inner f) = refl

  pub a_child : (c : Child) → FitChild words c → (rest : List Token) → Node child (child_tokens c rest) rest
  a_child c h rest = record { tree = c; fit = h; allowed = refl; tokens = refl }

-- "0 or 1"
pub bit_number : (b : Bool) → (n : ℕ) × (between 0 1 n ≡ true) × (bit b ≡ numeral n)
bit_number false = (0, refl, refl)
bit_number true = (1, refl, refl)

pub number_bit : (n : ℕ) → between 0 1 n ≡ true → (b : Bool) × (numeral n ≡ bit b)
number_bit zero h = (false, refl)
number_bit (suc zero) h = (true, refl)
number_bit (suc (suc n)) h = let z : ⊥ = omega (arith, in_range 0 1 (suc (suc n)) h) in absurd z
