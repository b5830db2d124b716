-- `lexer::past` meets its contract: the run ends at the first byte that does not pass, or with the text.
use Rattle.std.proofs.Common.{length, refl, sym, ◌∙◌, ⊎_elim, arith, rules}
use Rattle.std.proofs.lemmas.Bool.{cases_lt}
use Rattle.tokens.proofs.Front.{front_end, front_stop, front_more}
use Rattle.lexer.proofs.past.Goals as goal

pub loop-i-init : goal.loop-i-init
loop-i-init g c = λ test answers. refl

pub loop-i-preserved : goal.loop-i-preserved
loop-i-preserved g c =
    λ test answers.
    let l = c.loop-i in
    l.invariant test answers ∙ front_more test _ l.i c.loop-i-test.true (sym (answers _ _ (search rules) c.passes.ensures) ∙ c.if-not-passes.false)

pub returns-then-not-passes-clause-run : goal.returns-then-not-passes-clause-run
returns-then-not-passes-clause-run g c =
    λ test answers.
    let l = c.loop-i in
    sym (l.invariant test answers ∙ front_stop test _ l.i c.loop-i-test.true (sym (answers _ _ (search rules) c.passes.ensures) ∙ c.if-not-passes.true))

pub returns-clause-run : goal.returns-clause-run
returns-clause-run g c =
    λ test answers.
    let l = c.loop-i in
    let text = c.args.text.now in
    let e = l.invariant test answers ∙ front_end test text l.i c.loop-i-test.false in
    let m = c.max.ensures in
    ⊎_elim (λ h. omega (arith, m, front_end test text c.args.at (omega arith))) (λ h. omega (arith, e, m, l.auto.i-end h, c.loop-i-test.false))
    (cases_lt (length text) c.args.at)
