-- The number of a code, for who has numbers in place of codes: each number stands for one.
use Rattle.std.specs.Prelude.{cond, ℕ, eqb}
use Rattle.postfix.specs.declared.Code.{Code}
use Rattle.postfix.specs.declared.Code.TheVariants.{Leaf, Again, Rounds, Seq, And, Or, Xor}

abbrev pub code_of : ℕ → Code
code_of n =
    cond (eqb n 0) Leaf
    (cond (eqb n 1) Again
    (cond (eqb n 2) Rounds
    (cond (eqb n 3) Seq
    (cond (eqb n 5) Or
    (cond (eqb n 6) Xor And)))))
