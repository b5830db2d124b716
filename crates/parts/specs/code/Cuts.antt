-- Where the codes of a part begin, and how many events there are among codes in postfix order. That these are the places and events of a process's parts is
-- `parts.proofs.Cut`.
use Rattle.std.specs.Prelude.{Bool, true, false, cond, List, [], ◌∷◌, reverse, ℕ, ◌+◌, ◌-◌, eqb, length, count_by}
use Rattle.postfix.specs.declared.Code.{Code}
use Rattle.postfix.specs.declared.Code.TheVariants.{Leaf, Again, Rounds, Seq, And, Or, Xor}

-- How many parts are wanted before a code, where so many were wanted before what follows it: an event is a part, a reset wants its body, a joint two parts.
abbrev pub wanted : Code → ℕ → ℕ
wanted Leaf n = n - 1
wanted Again n = n - 1
wanted Rounds n = n
wanted Seq n = n + 1
wanted And n = n + 1
wanted Or n = n + 1
wanted Xor n = n + 1

-- From the last code to the first, until no part is wanted: how many codes are left.
unfoldable pub left_over : List Code → ℕ → ℕ
left_over [] n = 0
left_over (c ∷ cs) n = cond (eqb n 0) (length (c ∷ cs)) (left_over cs (wanted c n))

unfoldable pub second_begins : List Code → ℕ
second_begins cs = left_over (reverse cs) 1

abbrev pub is_event : Code → Bool
is_event Leaf = true
is_event Again = true
is_event Rounds = true
is_event Seq = false
is_event And = false
is_event Or = false
is_event Xor = false

abbrev pub event_count : List Code → ℕ
event_count cs = count_by is_event cs
