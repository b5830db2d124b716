-- From 512 on there is nothing to clear.
use mathlib.Core.Path.{◌≡◌, ap, ◌∙◌}
use Prim.Native.Nat.{◌-◌, ◌+◌}
use native.Mathlib.Omega.{arith}
use lib.Dec.{ltb}
use borrow.Author.Tests.{ltb-true, ltb-false}
use Rattle.base.proofs.Truth.{by_cases}
use Rattle.record.specs.Bits.{clear_bits}
use Rattle.record.proofs.Bits.{clear_bits_none, clear_bits_more, clear_bits_past}
use Rattle.record.proofs.clear.Goals as goal

pub loop-e-init : goal.loop-e-init
loop-e-init c =
    let none : c.args.first - c.args.first ≡ 0 = omega arith in
    rw none (clear_bits_none c.args.bits c.args.first)

pub loop-e-preserved : goal.loop-e-preserved
loop-e-preserved c =
    let l = c.loop-e in
    let first = c.args.first in
    let here : first + (l.e - first) ≡ l.e = omega (arith, l.auto.e) in
    let next : l.e + 1 - first ≡ l.e - first + 1 = omega (arith, l.auto.e) in
    rw next (clear_bits_more c.args.bits l.b c.clear_bit-c.result first (l.e - first) l.invariant (rw here c.clear_bit-c.ensures))

pub returns : goal.returns
returns c =
    let l = c.loop-e in
    let a = c.args in
    by_cases (ltb (a.first + a.count) 512)
    (λ q. let below = ltb-true (a.first + a.count) 512 q in
    let all : l.e - a.first ≡ a.count = omega arith in
    l.invariant ∙ ap (clear_bits a.bits a.first) all)
    (λ q. let past = ltb-false (a.first + a.count) 512 q in
    clear_bits_past a.bits l.b a.first (l.e - a.first) a.count l.invariant (omega arith) past)
