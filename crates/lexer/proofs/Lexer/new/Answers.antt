-- `lexer::Lexer::new` meets its contract: the classes by one test over all 256, which antt computes.
use Rattle.std.proofs.Common.{◌≡◌, ℕ, Bool, true, List, length, get_or, eqb, refl}
use borrow.Author.Tests.{eqb-true}
use Rattle.tokens.specs.Classes.{class_of}
use Rattle.tokens.proofs.Below.{all_below, at_below}
use Rattle.lexer.specs.Lexicon.{Lexicon}
use Rattle.lexer.proofs.Lexer.new.Goals as goal

right : List ℕ → ℕ → Bool
right table b = eqb (get_or table b 0) (class_of b)

by-test : (table : List ℕ) → length table ≡ 256 → all_below (right table) 256 ≡ true → Lexicon table
unfolding right
by-test table n e = record { size = n; class = λ b h. eqb-true (get_or table b 0) (class_of b) (at_below (right table) 256 e b h) }

pub invariant_of-result : goal.invariant_of-result
unfolding class_of right
invariant_of-result c = record { known = by-test _ refl refl }
