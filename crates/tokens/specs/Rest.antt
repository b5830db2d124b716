-- A position in a text is the rest of it: the tokens that stand there or after it.
use Rattle.std.specs.Prelude.{◌≡◌, List, [], ◌∷◌, ℕ, ◌+◌, ◌-◌, ◌≤◌, ◌<◌, length, drop, Option, None}
use Rattle.tokens.specs.Spans.{Span, spans}
use Rattle.tokens.specs.Kinds.{token_kind}
use Rattle.tokens.specs.declared.TokenKind.{TokenKind}
use Rattle.tokens.specs.declared.Lexeme.{Lexeme}

-- The tokens at a place or after it.
unfoldable pub rest : List ℕ → ℕ → List Span
rest text at = spans (length text - at) at (drop at text)

-- The first of these tokens: its kind, where it has one; its place, the text's end where there is none; how many bytes it has; those after it.
abbrev pub front_kind : List Span → Option TokenKind
front_kind [] = None
front_kind (s ∷ ss) = token_kind s.bytes

abbrev pub front_place : ℕ → List Span → ℕ
front_place e [] = e
front_place e (s ∷ ss) = s.place

abbrev pub front_length : List Span → ℕ
front_length [] = 0
front_length (s ∷ ss) = length s.bytes

abbrev pub others_of : List Span → List Span
others_of [] = []
others_of (s ∷ ss) = ss

-- The token at a position or after it. It has no kind at the text's end, and where it is a foreign byte.
pub record Next (text : List ℕ) (at : ℕ) (t : Lexeme) : Type 0 where
  pub its_kind : t.kind ≡ front_kind (rest text at)
  pub placed : t.start ≡ front_place (length text) (rest text at)
  pub after : rest text t.end ≡ others_of (rest text at)
  pub within : t.start ≤ length text
  pub ended : length text ≤ t.start → rest text at ≡ []
  pub long : (t.kind ≡ None → ⊥) → t.end ≡ t.start + front_length (rest text at)
  pub onward : (t.kind ≡ None → ⊥) → (at < t.end) × (t.end ≤ length text)
