-- How long a process is in postfix order.
use mathlib.Core.Path.{◌≡◌}
use Prim.Native.Nat.{ℕ, ◌+◌, ◌*◌, ◌≤◌}
use native.Mathlib.Omega.{arith}
use lib.ListN.{length, length-append}
use Rattle.process.specs.Process.{Event, Joint, Process, event, join, again, rounds}
use Rattle.postfix.specs.Postfix.{postfix}
use Rattle.process.proofs.Numbered.{size}

abbrev pub long : Process → ℕ
long p = length (postfix p)

pub long_join : (j : Joint) (p q : Process) → long (join j p q) ≡ long p + (long q + 1)
unfolding postfix
long_join j p q = simp length-append

pub long_rounds : (p : Process) (r : ℕ) (l : Event) → long (rounds p r l) ≡ long p + 1
unfolding postfix
long_rounds p r l = simp length-append

-- Fewer codes than twice the events: each code is an event, or joins two parts, each of which has an event.
pub postfix_short : (p : Process) → long p + 1 ≤ 2 * size p
unfolding postfix size
postfix_short (event n l) = omega arith
postfix_short (join j p q) = omega (arith, long_join j p q, postfix_short p, postfix_short q)
postfix_short (again n l) = omega arith
postfix_short (rounds p r l) = omega (arith, long_rounds p r l, postfix_short p)
