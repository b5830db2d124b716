-- `lexer::Lexer::token_end` meets its contract: past a word, or past one byte.
use Rattle.lexer.proofs.Ways.{ends_token}
use Rattle.lexer.proofs.Lexer.token_end.Goals as goal

pub returns : goal.returns
returns c = ends_token _ _ _ c.run.ensures _ c.requires c.max.ensures
