-- The same place is reached from `at` and from i.
use Rattle.std.proofs.Common.{◌≡◌, ℕ, ◌+◌, ◌<◌, Bool, drop}
use Rattle.tokens.specs.Words.{front}
use Rattle.lexer.proofs.past.Given as goal

abbrev pub invariant-loop-i : goal.invariant-loop-i
invariant-loop-i g l =
    (test : ℕ → Bool) → ((b : ℕ) (r : Bool) → b < 256 → goal.F-post g l.passes b r → r ≡ test b)
    → l.at + front test (drop l.at l.text) ≡ l.i + front test (drop l.i l.text)
