-- `lexer::Lexer::first_long` meets its contract: the length of a token.
use Rattle.std.proofs.Common.{◌∙◌, ltb, rules, tests}
use Rattle.lexer.proofs.Along.{long_first}
use Rattle.lexer.proofs.Lexer.first_long.Goals as goal

pub returns : goal.returns
returns c = c.first.ensures (λ b n. ltb 24 n) (λ b n r h p. search (rules, tests)) ∙ long_first _ _
