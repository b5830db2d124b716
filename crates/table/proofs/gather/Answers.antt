-- `table::gather` meets its contract: the bits are those of the events passed.
use mathlib.Core.Path.{refl, ◌∙◌}
use mathlib.Core.Bool.{Bool, true, false}
use Prim.Native.Nat.{◌<◌}
use Rattle.layout.specs.Fields.{events}
use Rattle.table.specs.Steps.{offered}
use Rattle.table.proofs.Answered.{guard_within, gathered}
use Rattle.table.proofs.gather.Goals as goal
use Rattle.table.proofs.gather.Goals.{then-values-guard, else-values-guard}

pub loop-e-init : goal.loop-e-init
unfolding offered
loop-e-init c = refl

pub bounds-values-guard : goal.bounds-values-guard
bounds-values-guard c = guard_within _ c.requires _ _ (rw (← c.number-e-end.ensures.0) c.loop-e-test.true) c.number-w.ensures.0

pub loop-e-preserved : goal.loop-e-preserved
loop-e-preserved c =
    let below : c.loop-e.e < events c.args.t.now = rw (← c.number-e-end.ensures.0) c.loop-e-test.true in
    let more = λ (v : Bool). gathered _ _ _ _ _ v c.requires below c.number-w.ensures.0 c.loop-e.invariant in
    elim c.if-values-guard.branch [
      | then-values-guard y ↦ y.bits-is ∙ (y.set-more.ensures ∙ more true y.if-values-guard.true)
      | else-values-guard x ↦ x.bits-is ∙ more false x.if-values-guard.false
    ]
