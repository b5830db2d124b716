-- The search along the tokens of a text: for the contract of a private function.
use Rattle.std.specs.Prelude.{Bool, cond, List, [], ◌∷◌, ℕ, length, get_or}
use Rattle.tokens.specs.Spans.{Span}

-- The place of the first token whose first byte and length pass a test, or the number given.
unfoldable pub first_by : (ℕ → ℕ → Bool) → List Span → ℕ → ℕ
first_by t [] none = none
first_by t (s ∷ ss) none = cond (t (get_or s.bytes 0 0) (length s.bytes)) s.place (first_by t ss none)
