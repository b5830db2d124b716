-- `lexer::Lexer::gap` meets its contract: run by run.
use Rattle.std.proofs.Common.{◌≡◌, ◌+◌, drop, ◌∙◌, arith, rules, tests}
use Rattle.tokens.specs.Classes.{between}
use Rattle.tokens.specs.Words.{front}
use Rattle.lexer.proofs.Gaps.{reached_start, reached_more, reached_all, mark_inside}
use Rattle.lexer.proofs.Lexer.gap.Goals as goal

pub loop-i-init : goal.loop-i-init
loop-i-init c = reached_start _ _ _ c.run-i.ensures

-- Where what a remark holds ends.
remark : (c : goal.After-run-i-in-loop-i) → c.past-end.result ≡ c.loop-i.i + 1 + front (between 32 126) (drop (c.loop-i.i + 1) c.args.self.now.text.now)
remark c = c.past-end.ensures.run (between 32 126) (λ b r h p. search (rules, tests))

pub loop-i-smaller : goal.loop-i-smaller
loop-i-smaller c =
    let h = mark_inside c.args.self.now.text.now _ c.at.ensures c.loop-i-test.true in
    omega (arith, h.0, remark c, c.run-i-in-loop-i.ensures)

pub loop-i-preserved : goal.loop-i-preserved
loop-i-preserved c =
    let h = mark_inside c.args.self.now.text.now _ c.at.ensures c.loop-i-test.true in
    reached_more _ _ _ c.loop-i.invariant _ _ h.0 h.1 (remark c) c.run-i-in-loop-i.ensures

pub returns : goal.returns
returns c = reached_all _ _ _ c.loop-i.invariant (λ e. c.loop-i-test.false (c.at.ensures ∙ e))
