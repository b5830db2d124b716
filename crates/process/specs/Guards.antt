-- What the control bits say of a process: whether it is begun, whether it is complete, and which of its events may be taken next. This is no
-- part of the meaning: what a whole run is, and what begins one, is said in `Runs.antt` without control bits. The theorems of
-- `proofs/Theorem.antt` show that after events that begin a whole run the bits say what `Runs.antt` says of these events; the rows of a
-- translated table are held against these tests.
use Rattle.std.specs.Prelude.{Bool, true, not, ◌&&◌, ◌||◌, cond, ℕ}
use Rattle.process.specs.Process.{seq, and, or, xor, Process, event, join, again, rounds, owns}
use Rattle.process.specs.Bits.{Bits}

-- Has an event of it been taken? A loop just reset has been begun: the reset's own bit is set.
unfoldable pub begun : Process → Bits → Bool
begun (event n l) s = s n
begun (join j p q) s = begun p s || begun q s
begun (again n l) s = s n
begun (rounds p r l) s = begun p s || s r

-- Is what was taken of it a whole run?
unfoldable pub complete : Process → Bits → Bool
unfolding begun
-- its bit
complete (event n l) s = s n
-- each part
complete (join seq p q) s = complete p s && complete q s
complete (join and p q) s = complete p s && complete q s
-- a part begun, and each part complete or not begun
complete (join or p q) s = (begun p s || begun q s) && ((complete p s || not (begun p s)) && (complete q s || not (begun q s)))
-- a part
complete (join xor p q) s = complete p s || complete q s
-- always
complete (again n l) s = true
-- its body not begun, or complete
complete (rounds p r l) s = not (begun p s) || complete p s

-- May its event `x` be taken next?
unfoldable pub enabled : Process → Bits → ℕ → Bool
unfolding owns begun complete
-- its bit not set
enabled (event n l) s x = not (s n)
-- in the part that has it, those before it complete, those after it not begun
enabled (join seq p q) s x = cond (owns p x) (enabled p s x && not (begun q s)) (enabled q s x && complete p s)
-- in the part that has it
enabled (join and p q) s x = cond (owns p x) (enabled p s x) (enabled q s x)
enabled (join or p q) s x = cond (owns p x) (enabled p s x) (enabled q s x)
-- in the part that has it, no other begun
enabled (join xor p q) s x = cond (owns p x) (enabled p s x && not (begun q s)) (enabled q s x && not (begun p s))
-- always
enabled (again n l) s x = true
-- in its body; the reset where the body is complete
enabled (rounds p r l) s x = cond (owns p x) (enabled p s x) (complete p s)
