-- By the joint's parts.
use Rattle.conditions.proofs.Split.{first_part, second_part}
use Rattle.conditions.proofs.Shapes.{joint_shape}
use Rattle.std.proofs.Common.{◌∙◌}
use Rattle.conditions.proofs.shaped.Goals as goal

pub returns-clause-value : goal.returns-clause-value
returns-clause-value c =
    λ j p q k e.
    let m = c.second.ensures.0 in
    let first = c.split_at.ensures.front ∙ first_part c.args.inner.now p q e _ m in
    let second = c.split_at.ensures.back ∙ second_part c.args.inner.now p q e _ m in
    rw (c.events.ensures.0, c.after.ensures.0, c.choosing.ensures, c.around.ensures)
    (joint_shape c.args.code c.args.inner.now _ c.args.settled _ _ j p q k e first (rw c.of_parts-asked.ensures at (c.lacks-a.ensures p first)) (rw c.of_parts-asked.ensures at (c.lacks-b.ensures q second)))
