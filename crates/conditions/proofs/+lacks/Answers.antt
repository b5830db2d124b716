-- By the process's own code.
use Rattle.conditions.proofs.Split.{some_codes, own_last, rest_inner}
use Rattle.conditions.proofs.Absent.{leaf_lacks, again_lacks, rounds_lacks, parts_lack}
use Rattle.std.proofs.Common.{sym, ◌∙◌}
use Rattle.conditions.proofs.+lacks.Goals as goal

pub returns-in_default : goal.returns-in_default
returns-in_default t c = λ p e. absurd (some_codes _ p e c.in_default.ensures.cases)

pub returns-in-Leaf : goal.returns-in-Leaf
returns-in-Leaf t c = λ p e. leaf_lacks p c.args.settled (sym c.in-Leaf.is ∙ own_last _ _ _ p e c.in-Some.ensures.cases)

pub returns-in-Again : goal.returns-in-Again
returns-in-Again t c = λ p e. again_lacks p c.args.settled (sym c.in-Again.is ∙ own_last _ _ _ p e c.in-Some.ensures.cases)

pub returns-in-Rounds : goal.returns-in-Rounds
returns-in-Rounds t c =
    λ p e. let s = c.in-Some.ensures.cases in
    rounds_lacks p c.args.settled _ (sym c.in-Rounds.is ∙ own_last _ _ _ p e s) (λ q g. c.lacks.ensures q (rest_inner _ _ _ p e s ∙ g))

pub returns-in_default-code : goal.returns-in_default-code
returns-in_default-code t c =
    λ p e.
    let s = c.in-Some.ensures.cases in
    let other = c.in_default-code in
    rw c.joint_lacks.ensures
    (parts_lack _ _ c.args.settled _ _ _ p (own_last _ _ _ p e s) (rest_inner _ _ _ p e s) other.not-Leaf other.not-Again other.not-Rounds c.second.ensures.0
    (λ q g. rw c.of_parts-asked.ensures at (c.lacks-a.ensures q (c.split_at.ensures.front ∙ g)))
    (λ q g. rw c.of_parts-asked.ensures at (c.lacks-b.ensures q (c.split_at.ensures.back ∙ g))))
