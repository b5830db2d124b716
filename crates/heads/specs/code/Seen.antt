-- What a look at the next byte says: for the contracts of private functions.
use Rattle.std.specs.Prelude.{◌≡◌, false, ℕ, ◌+◌, List, Some, Result, MatchResult}
use Rattle.tokens.specs.Rest.{Next}
use Rattle.tokens.specs.Token.{is_sign}
use Rattle.tokens.specs.Kinds.{shown_sign, shown}
use Rattle.tokens.specs.declared.Lexeme.{Lexeme}
use Rattle.tokens.specs.declared.Sign.{Sign}
use Rattle.tokens.specs.declared.TokenKind.{TokenKind}

-- The sign comes next, and ends at a place; or another token or none stands at one.
abbrev pub Seen : List ℕ → Sign → ℕ → Result ℕ ℕ → Type 0
Seen text s at r =
    MatchResult r (λ e. (i : ℕ) × ((e ≡ i + 1) × Next text at (record { kind = Some (TokenKind.Sign s); start = i; end = e })))
    (λ i. (t : Lexeme) × (Next text at t × (t.start ≡ i) × (is_sign (shown_sign s) (shown t.kind) ≡ false)))
