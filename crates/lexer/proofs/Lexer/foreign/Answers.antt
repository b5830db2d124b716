-- `lexer::Lexer::foreign` meets its contract: the class of a token's first byte.
use Rattle.std.proofs.Common.{◌≡◌, ◌∙◌, eqb, rules, tests}
use Rattle.tokens.specs.Classes.{class_of, foreign}
use Rattle.lexer.proofs.Along.{foreign_zero, foreign_first}
use Rattle.lexer.proofs.Lexer.foreign.Goals as goal

pub returns : goal.returns
returns c = c.first.ensures (λ b n. foreign b) (λ b n r h p. let e : r ≡ eqb (class_of b) 0 = search (rules, tests) in e ∙ foreign_zero (class_of b)) ∙ foreign_first _ _
