-- `lexer::worded` meets its contract, by one test over all 256 bytes.
use Rattle.std.proofs.Common.{◌≡◌, ℕ, ◌<◌, Bool, true, false, ◌||◌, not, cond, eqb, refl, sym, ◌∙◌, arith}
use Rattle.std.specs.Char.{is_ascii_alphanumeric}
use Rattle.tokens.specs.Classes.{class_of, worded}
use Rattle.tokens.proofs.Below.{at_below}
use Rattle.lexer.proofs.worded.Goals as goal

alike : Bool → Bool → Bool
alike a b = cond a b (not b)

same_if : (a b : Bool) → alike a b ≡ true → a ≡ b
unfolding alike
same_if true true e = refl
same_if true false e = sym e
same_if false true e = e
same_if false false e = refl

tested : ℕ → Bool
tested b = alike (is_ascii_alphanumeric b || eqb b 95) (worded b)

worded_is : (b : ℕ) → b < 256 → (is_ascii_alphanumeric b || eqb b 95) ≡ worded b
unfolding tested alike class_of
worded_is b h = same_if (is_ascii_alphanumeric b || eqb b 95) (worded b) (at_below tested 256 refl b h)

pub returns-then-is_ascii_alphanumeric : goal.returns-then-is_ascii_alphanumeric
returns-then-is_ascii_alphanumeric c =
    let b = c.args.b in
    let v = c.is_ascii_alphanumeric.ensures.value in
    let t = c.if-is_ascii_alphanumeric.true in
    t ∙ rw (sym v ∙ t) at (worded_is b (omega arith))

pub returns-else-is_ascii_alphanumeric : goal.returns-else-is_ascii_alphanumeric
returns-else-is_ascii_alphanumeric c =
    let b = c.args.b in
    let v = c.is_ascii_alphanumeric.ensures.value in
    rw (sym v ∙ c.if-is_ascii_alphanumeric.false) at (worded_is b (omega arith))
