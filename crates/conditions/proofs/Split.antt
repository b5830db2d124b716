-- A process's own code and those before it, as the functions split them, and the codes of a joint's two parts.
use Rattle.std.proofs.Common.{◌≡◌, ℕ, ◌-◌, List, [], ◌∷◌, ◌++◌, length, get_or, take, drop, sym, ap, ◌∙◌, arith}
use Rattle.std.specs.List.{IsLastAndRest}
use lib.Seq.{take_at, drop_at, get_or_at}
use Rattle.process.specs.Process.{Joint, seq, and, or, xor, Process}
use Rattle.postfix.specs.declared.Code.{Code}
use Rattle.postfix.specs.declared.Code.TheVariants.{Leaf, Again, Rounds}
use Rattle.postfix.specs.Postfix.{postfix, joint_code}
use Rattle.parts.specs.code.Cuts.{second_begins}
use Rattle.parts.proofs.Cut.{second_is}
use Rattle.parts.proofs.Ends.{own, inner, some_number, last_is, inner_is}

-- No process has no codes.
pub some_codes : (cs : List Code) (p : Process) → cs ≡ postfix p → length cs ≡ 0 → ⊥
some_codes cs p e z = omega (arith, some_number cs p e)

-- The last code is the process's own.
module _ (cs rest : List Code) (last : Code) (p : Process) (e : cs ≡ postfix p) (s : IsLastAndRest cs last rest) where
  pub own_last : last ≡ own p
  own_last = sym (get_or_at rest last [] Leaf (length cs - 1) (omega (arith, s.1))) ∙ (ap (λ (l : List Code). get_or l (length cs - 1) Leaf) (sym s.0) ∙ last_is cs p e Leaf)

  pub rest_inner : rest ≡ inner p
  rest_inner = sym (take_at rest (last ∷ []) (length cs - 1) (omega (arith, s.1))) ∙ (ap (λ (l : List Code). take (length cs - 1) l) (sym s.0) ∙ inner_is cs p e)

-- The codes of a joint's parts.
module _ (rest : List Code) (p q : Process) (e : rest ≡ postfix p ++ postfix q) where
  pub second_at : second_begins rest ≡ length (postfix p)
  second_at = rw e (second_is (postfix p) q)

  module _ (m : ℕ) (h : m ≡ second_begins rest) where
    pub first_part : take m rest ≡ postfix p
    first_part = rw e (take_at (postfix p) (postfix q) m (sym (h ∙ second_at)))

    pub second_part : drop m rest ≡ postfix q
    second_part = rw e (drop_at (postfix p) (postfix q) m (sym (h ∙ second_at)))

-- A joint's code is no other's.
pub not_leaf : (j : Joint) → Leaf ≡ joint_code j → ⊥
not_leaf seq e = cc
not_leaf and e = cc
not_leaf or e = cc
not_leaf xor e = cc

pub not_again : (j : Joint) → Again ≡ joint_code j → ⊥
not_again seq e = cc
not_again and e = cc
not_again or e = cc
not_again xor e = cc

pub not_rounds : (j : Joint) → Rounds ≡ joint_code j → ⊥
not_rounds seq e = cc
not_rounds and e = cc
not_rounds or e = cc
not_rounds xor e = cc
