-- By the process's own code.
use Rattle.std.proofs.Common.{◌+◌, ◌<◌, sym, ◌∙◌, arith}
use Rattle.variables.specs.code.Spelled.{naming}
use Rattle.conditions.specs.code.Asked.{wanted}
use Rattle.conditions.proofs.Split.{some_codes, own_last, rest_inner}
use Rattle.conditions.proofs.Written.{absent_written, leaf_text, rounds_written, joint_written}
use Rattle.conditions.proofs.+write.Goals as goal

pub returns-in_default : goal.returns-in_default
returns-in_default t c = λ p e m few. absurd (some_codes _ p e c.in_default.ensures.cases)

pub returns-then-lacks : goal.returns-then-lacks
returns-then-lacks t c = λ p e m few. absent_written (naming c.args.spelling.now) (wanted c.args.settled p) _ (sym (c.lacks.ensures p e) ∙ c.if-lacks.true)

pub returns-then-from-gt511 : goal.returns-then-from-gt511
returns-then-from-gt511 t c = λ p e m few. absurd (some_codes _ p e (let h : 511 < c.args.from = c.if-from-gt511.true in omega (arith, few, h)))

pub returns-in-Leaf : goal.returns-in-Leaf
returns-in-Leaf t c =
    λ p e m few.
    let o = sym c.in-Leaf.is ∙ own_last _ _ _ p e c.in-Some.ensures.cases in
    rw (← (leaf_text (naming c.args.spelling.now) c.args.from c.args.settled p o m (sym (c.lacks.ensures p e) ∙ c.if-lacks.false))) c.is.ensures

pub returns-in-Rounds : goal.returns-in-Rounds
returns-in-Rounds t c =
    λ p e m few.
    let s = c.in-Some.ensures.cases in
    rounds_written (naming c.args.spelling.now) _ c.args.from c.args.settled p (sym c.in-Rounds.is ∙ own_last _ _ _ p e s) (rest_inner _ _ _ p e s) m _ _
    (λ q g n. c.write.ensures q g n (omega (arith, few, s.1)))

pub returns-in_default-code : goal.returns-in_default-code
returns-in_default-code t c =
    λ p e m few.
    let s = c.in-Some.ensures.cases in
    let other = c.in_default-code in
    let inside = c.shaped-s.ensures.inside in
    let parts = c.split_at.ensures in
    let asked = c.of_parts-asked.ensures in
    let wide : c.args.from + c.shaped-s.result.after < 512 = omega (arith, few, inside.its_after, s.1) in
    joint_written (naming c.args.spelling.now) c.in-Some.last.now c.in-Some.inner.now c.args.from c.args.settled c.shaped-s.result c.shaped-s.ensures.value (c.open.ensures wide)
    (λ q g n. rw asked at (c.write-in_default-code.ensures q (parts.front ∙ g) n (omega (arith, few, s.1, parts.front_len, inside.its_second))))
    (rw c.between.ensures at c.bytes.ensures)
    (λ q g n. rw asked at (c.write-in_default-code-2.ensures q (parts.back ∙ g) n (omega (arith, few, s.1, parts.back_len, inside.its_first))))
    (c.close.ensures wide) p (own_last _ _ _ p e s) (rest_inner _ _ _ p e s) m (sym (c.lacks.ensures p e) ∙ c.if-lacks.false) other.not-Leaf other.not-Rounds
