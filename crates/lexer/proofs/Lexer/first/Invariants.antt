-- No token before `place` passes.
use Rattle.std.proofs.Common.{◌≡◌, ℕ, ◌-◌, ◌<◌, Bool, length}
use Rattle.lexer.proofs.Along.{SoFar, passing}
use Rattle.lexer.proofs.Lexer.first.Given as goal

abbrev pub invariant-loop-place : goal.invariant-loop-place
invariant-loop-place g l =
    (test : ℕ → ℕ → Bool) → ((b n : ℕ) (r : Bool) → b < 256 → goal.F-post g l.passes b n r → r ≡ test b n)
    → SoFar (passing test l.self.text.now) l.self.text.now l.place

abbrev pub decreases-loop-place : goal.decreases-loop-place
decreases-loop-place g l = length l.text - l.place
