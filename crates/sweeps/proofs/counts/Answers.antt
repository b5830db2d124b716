-- The nodes passed keep number 10; the counts so far, and the copies of a node at each depth at which the next one may be.
use Rattle.std.proofs.Common.{◌≡◌, ◌≤◌, refl, ◌∙◌, arith}
use Rattle.base.specs.declared.Reason.TheVariants as Reason
use Rattle.rules.specs.Kept.{strongs_kept}
use Rattle.names.proofs.Searched.{search_start, search_end}
use Rattle.sweeps.proofs.Capped.{small_product}
use Rattle.sweeps.proofs.Switches.{strong_broken, strong_next}
use Rattle.sweeps.proofs.Counting.{count_start, count_next, small_next, small_start, copies_all, events_all}
use Rattle.sweeps.proofs.Ruled.{refused_key}
use Rattle.walked.specs.Rows.{row_of}
use Rattle.names.proofs.Its.{its_place, its_depth}
use Rattle.sweeps.proofs.counts.Goals as goal

pub loop-i-init : goal.loop-i-init
loop-i-init c = (omega arith, omega arith, small_start, λ t. (search_start strongs_kept t.hs, count_start t.hs))

pub returns-then-is_weak : goal.returns-then-is_weak
returns-then-is_weak c = λ t.
    let l = c.loop-i in
    let h = c.loop-i-test.true in
    let its = c.row-row.ensures in
    refused_key t (strong_broken t (l.invariant.3 t).0 h (c.is_weak.ensures ∙ rw its refl) c.if-is_weak.true) h _ Reason.Weak c.at.ensures (c.place.ensures ∙ its_place its)

pub overflow_add-copies : goal.overflow_add-copies
overflow_add-copies c = omega (arith, c.loop-i.invariant.0, c.loop-i.invariant.2.each c.level-depth.result)

pub overflow_add-events : goal.overflow_add-events
overflow_add-events c =
    omega (arith, c.loop-i.invariant.1, c.loop-i.invariant.2.each c.level-depth.result, c.happening.ensures.upper_bound)

pub overflow_mul-n : goal.overflow_mul-n
overflow_mul-n c =
    record {
      fits = small_product _ _ (c.loop-i.invariant.2.each c.level-depth.result) c.factor.ensures.fits;
    }

pub loop-i-preserved : goal.loop-i-preserved
loop-i-preserved c =
    let l = c.loop-i in
    let h = c.loop-i-test.true in
    let its = c.row-row.ensures in (
      c.cap-copies.ensures.upper_bound,
      c.cap-events.ensures.upper_bound,
      small_next l.invariant.2 _ _ (omega (arith, c.level-depth.ensures)) c.cap.ensures.upper_bound,
      λ t.
          let at : (row_of c.args.nodes.now.rows.now l.i).node.depth ≤ 12 → c.level-depth.result ≡ (row_of c.args.nodes.now.rows.now l.i).node.depth = λ z. omega (arith, c.level-depth.ensures, its_depth its) in (
            strong_next t (l.invariant.3 t).0 h (c.is_weak.ensures ∙ rw its refl) c.if-is_weak.false,
            count_next t (l.invariant.3 t).1 h at refl (c.happening.ensures.value t) (c.factor.ensures.value ∙ rw its refl)
                l.invariant.2.long c.cap-copies.ensures.value c.cap-events.ensures.value c.cap.ensures.value,
          ),
    )

pub returns : goal.returns
returns c = λ t.
    let l = c.loop-i.invariant in
    let h = c.loop-i-test.false in
    let s = l.3 t in
    rw (search_end s.0 (rw t.many h), ← copies_all t s.1 l.0 h, ← events_all t s.1 l.1 h) c.limits.ensures
