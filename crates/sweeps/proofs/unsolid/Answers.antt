-- The weights of the solid children among the nodes from i on, and the first of these nodes that breaks the rule.
use Rattle.std.proofs.Common.{◌≡◌, ◌+◌, ◌-◌, ◌≤◌, ◌<◌, refl, ◌∙◌, arith}
use lib.ListN.{length-set}
use Rattle.sweeps.proofs.Weighed.{Weighed, First, weigh_start, first_start, weigh_next, first_next, first_all, blame_within}
use Rattle.names.proofs.Its.{its_depth}
use Rattle.walked.specs.Rows.{row_of}
use Rattle.sweeps.proofs.unsolid.Goals as goal

pub loop-i-init : goal.loop-i-init
loop-i-init c = (refl, tt, λ t. (weigh_start t, first_start t))

pub loop-i-preserved : goal.loop-i-preserved
loop-i-preserved c =
    let l = c.loop-i in
    let rows = c.args.nodes.now.rows.now in
    let its = c.row-row.ensures in
    let back : l.i - 1 + 1 ≡ l.i = omega (arith, c.loop-i-test.true) in
    let less : l.i - 1 < c.args.nodes.now.count = omega (arith, c.loop-i-test.true, l.auto.i) in (
      simp length-set l.invariant.0,
      rw c.blamed-first.ensures (blame_within (λ k. k < c.args.nodes.now.count) (l.i - 1) l.first _ _ l.invariant.1 less),
      λ t.
          let s : Weighed t.hs l.weights (l.i - 1 + 1) = rw back (l.invariant.2 t).0 in
          let f : First t.hs l.first (l.i - 1 + 1) = rw back (l.invariant.2 t).1 in
          let at : (row_of rows (l.i - 1)).node.depth ≤ 12 → c.level-depth.result ≡ (row_of rows (l.i - 1)).node.depth = λ z. omega (arith, c.level-depth.ensures, its_depth its) in
          (weigh_next t s less at l.invariant.0 refl (c.borne.ensures ∙ rw its refl), first_next t s less at f refl (c.blamed-first.ensures ∙ rw its refl)),
    )

pub returns-clause-within : goal.returns-clause-within
returns-clause-within c = c.loop-i.invariant.1

pub returns-clause-value : goal.returns-clause-value
returns-clause-value c = λ t. first_all (c.loop-i.invariant.2 t).1 c.loop-i-test.false
