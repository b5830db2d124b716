-- The label, the condition and the line's end, where there is a condition.
use Rattle.std.proofs.Common.{sym, ◌∙◌, false, arith}
use Rattle.output.specs.Buffer.{put_all}
use Rattle.output.proofs.Buffers.{put_all_append}
use Rattle.variables.specs.code.Spelled.{naming}
use Rattle.conditions.specs.code.Asked.{wanted}
use Rattle.guarding.proofs.Labelled.{no_condition, condition_wrote}
use Rattle.guarding.proofs.complete_line.Goals as goal

pub returns-then-lacks : goal.returns-then-lacks
returns-then-lacks c = λ p e f. no_condition (naming c.args.spelling.now) c.args.k (wanted false p) _ (sym (c.lacks.ensures p e) ∙ c.if-lacks.true)

pub returns : goal.returns
unfolding put_all
returns c =
    λ p e f.
    let w = c.write.ensures p e f.numbered f.few in
    condition_wrote (naming c.args.spelling.now) c.args.k (wanted false p) _ _ (sym (c.lacks.ensures p e) ∙ c.if-lacks.false) (grind (arith, put_all_append))
