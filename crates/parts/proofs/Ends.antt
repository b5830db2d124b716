-- The codes of a process end with its own code; before it stand those of its parts.
use mathlib.Core.Path.{◌≡◌, refl, ap, ◌∙◌}
use mathlib.Core.List.{List, [], ◌∷◌, ◌++◌, append_assoc}
use Prim.Native.Nat.{◌+◌, ◌-◌, ◌≤◌}
use native.Mathlib.Omega.{arith}
use lib.ListN.{length, get_or, take, length-append}
use lib.Seq.{take_at, get_or_at}
use Rattle.process.specs.Process.{Process, event, join, again, rounds}
use Rattle.postfix.specs.declared.Code.{Code}
use Rattle.postfix.specs.declared.Code.TheVariants.{Leaf, Again, Rounds}
use Rattle.postfix.specs.Postfix.{postfix, joint_code}

-- A process's own code.
abbrev pub own : Process → Code
own (event n l) = Leaf
own (join j p q) = joint_code j
own (again n l) = Again
own (rounds p r l) = Rounds

-- Those before it.
abbrev pub inner : Process → List Code
inner (event n l) = []
inner (join j p q) = postfix p ++ postfix q
inner (again n l) = []
inner (rounds p r l) = postfix p

ends_with : (p : Process) → postfix p ≡ inner p ++ (own p ∷ [])
unfolding postfix
ends_with (event n l) = refl
ends_with (join j p q) = rw (append_assoc (postfix p) (postfix q) (joint_code j ∷ []))
ends_with (again n l) = refl
ends_with (rounds p r l) = refl

-- As the code finds them.
module _ (cs : List Code) (p : Process) (e : cs ≡ postfix p) where
  told : cs ≡ inner p ++ (own p ∷ [])
  told = e ∙ ends_with p

  pub inner_length : length cs ≡ length (inner p) + 1
  inner_length = ap length told ∙ length-append (inner p) (own p ∷ [])

  -- There is at least one.
  pub some_number : 1 ≤ length cs
  some_number = omega (arith, inner_length)

  pub last_is : (none : Code) → get_or cs (length cs - 1) none ≡ own p
  last_is none =
      let k : length (inner p) ≡ length cs - 1 = omega (arith, inner_length) in
      ap (λ (l : List Code). get_or l (length cs - 1) none) told ∙ get_or_at (inner p) (own p) [] none (length cs - 1) k

  pub inner_is : take (length cs - 1) cs ≡ inner p
  inner_is =
      let k : length (inner p) ≡ length cs - 1 = omega (arith, inner_length) in
      ap (λ (l : List Code). take (length cs - 1) l) told ∙ take_at (inner p) (own p ∷ []) (length cs - 1) k
