-- `lexer::keyword` meets its contract: the place tells the keyword.
use Rattle.std.proofs.Common.{◌∙◌, sym, ap}
use native.Mathlib.Nat.{zero-add}
use Rattle.tokens.specs.Kinds.{key_at}
use Rattle.tokens.specs.Words.{keywords}
use Rattle.lexer.proofs.Keywords.{found_at, not_found}
use Rattle.lexer.proofs.keyword.Goals as goal

pub returns-in_err-place : goal.returns-in_err-place
returns-in_err-place c =
    c.from_residual.ensures ∙ sym (ap key_at (not_found c.args.word.now keywords 0 9 c.in_err-place.ensures))

pub returns : goal.returns
returns c = c.at.ensures ∙ ap key_at (sym (zero-add _) ∙ (found_at c.args.word.now keywords 0 9 _ c.in_ok-place.ensures).1)
