-- One value after the other.
use Rattle.std.proofs.Common.{refl, sym, ap, ◌∙◌, ◌+◌, ◌*◌, ◌%◌, get_or, arith}
use Rattle.std.specs.Prelude.{◌^◌}
use Rattle.std.proofs.lemmas.Nat.{pow_pos}
use Rattle.std.proofs.Math.Nat.{zero-mul}
use Rattle.std.proofs.Math.Seq.{take_all}
use Rattle.packing.specs.Packed.{beside}
use Rattle.packing.proofs.Packs.{beside_more, base_is, next_below, next_fits}
use Rattle.packing.proofs.beside.Goals as goal

pub loop-v-init : goal.loop-v-init
loop-v-init g c = (refl, rw (zero-mul g.row.W) (omega arith))

pub overflow_mul-n : goal.overflow_mul-n
overflow_mul-n g c =
    let l = c.loop-v in
    rw (base_is g.row.W l.v-index _ c.loop-v-test.true c.requires) (omega (arith, next_fits g.row.W l.v-index _ c.loop-v-test.true c.requires l.n 0 l.invariant.1))

pub nonzero_rem-n : goal.nonzero_rem-n
nonzero_rem-n g c = rw (base_is g.row.W c.loop-v.v-index _ c.loop-v-test.true c.requires) (pow_pos g.row.W)

pub overflow_add-n : goal.overflow_add-n
overflow_add-n g c =
    let l = c.loop-v in
    rw (base_is g.row.W l.v-index _ c.loop-v-test.true c.requires) (omega (arith, next_fits g.row.W l.v-index _ c.loop-v-test.true c.requires l.n (get_or c.args.values.now l.v-index 0) l.invariant.1))

pub loop-v-preserved : goal.loop-v-preserved
loop-v-preserved g c =
    let l = c.loop-v in
    rw (base_is g.row.W l.v-index _ c.loop-v-test.true c.requires)
    (ap (λ n. n * 2 ^ g.row.W + get_or c.args.values.now l.v-index 0 % 2 ^ g.row.W) l.invariant.0 ∙ sym (beside_more g.row.W c.args.values.now l.v-index c.loop-v-test.true), next_below g.row.W l.v-index _ c.loop-v-test.true c.requires l.n _ l.invariant.1)

pub returns : goal.returns
returns g c = c.loop-v.invariant.0 ∙ ap (beside g.row.W) (take_all c.loop-v.v-index c.args.values.now c.loop-v-test.false)
