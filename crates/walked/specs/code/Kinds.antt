-- What a token writes, by its kind and where it stands. With `grammar.specs.Machine.expand` that is the walk, by `walked.proofs.Laws.at_front`.
use Rattle.std.specs.Prelude.{cond, ℕ, eqb, Option}
use Rattle.tokens.specs.Token.{closing}
use Rattle.tokens.specs.Kinds.{shown}
use Rattle.tokens.specs.declared.TokenKind.{TokenKind}
use Rattle.grammar.specs.Machine.{is_sign, is_name, member, child, Want, sign, named, number, params, param, node, more, others}
use Rattle.walked.specs.Walk.{State, beginning, marking, naming, sizing, switching, begun_kind, value}

-- The token stands from p up to e.
unfoldable pub kind_effect : Want → ℕ → Option TokenKind → ℕ → ℕ → State → State
kind_effect (sign s) n k p e st = st
kind_effect named n k p e st = naming n p e st
kind_effect (number a b) n k p e st = cond (eqb a 0) (marking (value (shown k)) st) (sizing n (value (shown k)) st)
kind_effect params n k p e st = st
kind_effect param n k p e st = cond (is_name (shown k)) st (switching n (value (shown k)) st)
kind_effect (node place d) n k p e st = beginning place d n (begun_kind (shown k)) p st
kind_effect (more d) n k p e st = cond (is_sign closing (shown k)) st (beginning child d n (begun_kind (shown k)) p st)
kind_effect (others d) n k p e st = cond (is_sign closing (shown k)) st (beginning member d n (begun_kind (shown k)) p st)
