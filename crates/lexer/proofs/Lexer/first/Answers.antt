-- `lexer::Lexer::first` meets its contract, token by token.
use Rattle.std.proofs.Common.{sym, ◌∙◌, arith, rules}
use Rattle.lexer.proofs.Ways.{end_after, less_left}
use Rattle.lexer.proofs.Along.{first_start, first_none, first_here, first_again}
use Rattle.lexer.proofs.Lexer.first.Goals as goal

pub loop-place-init : goal.loop-place-init
loop-place-init g c = λ test answers. first_start test _ _ c.gap-place.ensures

pub overflow_sub-end : goal.overflow_sub-end
overflow_sub-end g c = let a = end_after _ _ _ c.loop-place-test.true c.token_end-end.ensures in omega arith

pub returns-then-passes : goal.returns-then-passes
returns-then-passes g c = λ test answers.
    first_here test _ _ _ (c.loop-place.invariant test answers) c.loop-place-test.true c.token_end-end.ensures
    (sym (answers _ _ _ (search rules) c.passes.ensures) ∙ c.if-passes.true)

pub loop-place-smaller : goal.loop-place-smaller
loop-place-smaller g c = less_left _ _ _ _ c.loop-place-test.true c.token_end-end.ensures c.gap-place-in-loop-place.ensures

pub loop-place-preserved : goal.loop-place-preserved
loop-place-preserved g c = λ test answers.
    first_again test _ _ _ (c.loop-place.invariant test answers) c.loop-place-test.true c.token_end-end.ensures _
    (sym (answers _ _ _ (search rules) c.passes.ensures) ∙ c.if-passes.false) c.gap-place-in-loop-place.ensures

pub returns : goal.returns
returns g c = λ test answers. first_none test _ _ (c.loop-place.invariant test answers) c.loop-place-test.false
