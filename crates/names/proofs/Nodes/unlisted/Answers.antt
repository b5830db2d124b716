-- The nodes passed keep the rule, and the pars around a node are known at each depth at which the next one may be.
use Rattle.std.proofs.Common.{◌≡◌, ◌≤◌, Bool, true, false, not, cond, get_or, refl, ap, ◌∙◌, arith}
use Rattle.std.proofs.lemmas.List.{length-take}
use mir.Val.{bool_byte}
use Rattle.rules.specs.Kept.{parameters_kept}
use Rattle.walked.specs.Rows.{row_of}
use Rattle.names.proofs.Searched.{search_start, search_broken, search_kept, search_end}
use Rattle.names.proofs.Surrounding.{around_take}
use Rattle.names.proofs.Surrounded.{roomy_start, roomy_next, around_start, around_here, around_next}
use Rattle.names.proofs.Its.{its_depth}
use Rattle.names.proofs.Nodes.unlisted.Goals as goal

-- A test as a number.
as_number : (b : Bool) → bool_byte b ≡ cond b 1 0
as_number true = refl
as_number false = refl

at_most_one : (b : Bool) → bool_byte b ≤ 1
at_most_one true = omega arith
at_most_one false = omega arith

pub loop-i-init : goal.loop-i-init
loop-i-init c = (roomy_start, λ t. (around_start _ _ t.hs, search_start parameters_kept t.hs))

pub returns-then-not-keeps_parameters-clause-value : goal.returns-then-not-keeps_parameters-clause-value
returns-then-not-keeps_parameters-clause-value c = λ t.
    let l = c.loop-i in
    let h = c.loop-i-test.true in
    search_broken (l.invariant.1 t).1 (omega (arith, h, t.many))
    (c.keeps_parameters.ensures.value t h (around_take (around_here t h l.invariant.0 (l.invariant.1 t).0 (λ z. omega (arith, c.level-depth.ensures, its_depth c.row-row.ensures)) refl) (omega (arith, l.invariant.0.places, l.invariant.0.each c.level-depth.result))))
    (t.row l.i h).number (ap not c.if-not-keeps_parameters.true)

pub loop-i-preserved : goal.loop-i-preserved
loop-i-preserved c =
    let l = c.loop-i in
    let h = c.loop-i-test.true in
    let deep = c.level-depth.ensures in
    let depth = its_depth c.row-row.ensures in
    let few = c.keeps_parameters.ensures.few c.if-not-keeps_parameters.false in
    let n : get_or l.many c.level-depth.result 0 ≤ 3 =
    omega (arith, few, length-take (get_or l.many c.level-depth.result 0) l.pars, l.invariant.0.places, l.invariant.0.each c.level-depth.result) in
    let one = at_most_one c.is_replicator.result in (
      roomy_next l.invariant.0 _ _ _ _ (omega (arith, deep)) (omega (arith, n, one, c.from.ensures)),
      λ t.
          let at : (row_of c.args.self.now.rows.now l.i).node.depth ≤ 12 → c.level-depth.result ≡ (row_of c.args.self.now.rows.now l.i).node.depth = λ z. omega (arith, deep, depth) in (
            around_next t h l.invariant.0 (l.invariant.1 t).0 at refl n
                (c.from.ensures ∙ as_number c.is_replicator.result ∙ rw (c.is_replicator.ensures, c.row-row.ensures) refl),
            search_kept (l.invariant.1 t).1 (omega (arith, h, t.many))
                (c.keeps_parameters.ensures.value t h
                (around_take (around_here t h l.invariant.0 (l.invariant.1 t).0 at refl) (omega (arith, n, l.invariant.0.places)))) (ap not c.if-not-keeps_parameters.false),
          ),
    )

pub returns-clause-value : goal.returns-clause-value
returns-clause-value c = λ t. search_end (c.loop-i.invariant.1 t).1 (rw t.many c.loop-i-test.false)
