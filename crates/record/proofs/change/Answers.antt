-- The word that holds the bit is changed; from 512 on there is none.
use mathlib.Core.Path.{sym, ap, ◌∙◌}
use Prim.Native.Nat.{ℕ, ◌/◌}
use native.Mathlib.Omega.{arith}
use lib.ListN.{set}
use Rattle.record.proofs.Bits.{one_shl, change_by, change_out}
use Rattle.record.proofs.change.Goals as goal
use Rattle.record.proofs.change.Goals.{then-e-lt-BITS, else-e-lt-BITS}

pub returns : goal.returns
returns g c by f =
    elim c.if-e-lt-BITS.branch [
      | then-e-lt-BITS w ↦ w.b-is ∙ ap (λ (x : ℕ). set c.args.bits (c.args.e / 64) x) (f _ _ _ w.f.ensures) ∙ change_by by _ _ _ w.if-e-lt-BITS.true (one_shl _ (omega arith))
      | else-e-lt-BITS w ↦ w.b-is ∙ sym (change_out by _ _ w.if-e-lt-BITS.false)
    ]
