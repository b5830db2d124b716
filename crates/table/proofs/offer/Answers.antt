-- `table::offer` meets its contract: 1, then what the first look refuses; else the gathered bits are stored.
use mathlib.Core.Path.{sym}
use Rattle.table.proofs.Answered.{done_sound, looked_offer}
use Rattle.table.proofs.offer.Goals as goal

pub gather-requires : goal.gather-requires
gather-requires c = done_sound _ _ (sym c.in_ok-admit.ensures.value)

pub returns-clause-out_after : goal.returns-clause-out_after
returns-clause-out_after c =
    looked_offer _ _ _ (sym c.in_ok-admit.ensures.value) c.in_ok-admit.ensures.values_after _ _ _ c.if-out-lt-BYTES.false c.gather.ensures c.store.ensures
