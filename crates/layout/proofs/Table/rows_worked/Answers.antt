-- One unsound row is enough; past the last, all are sound and worked out.
use mathlib.Core.Path.{refl, sym, ◌∙◌}
use native.Mathlib.Omega.{arith}
use lib.ListN.{length-set}
use Rattle.layout.specs.Sound.{rows_sound}
use Rattle.layout.specs.Values.{row_values}
use Rattle.layout.proofs.NextRow.{rows_more, rows_stop, worked_more}
use Rattle.layout.proofs.Table.rows_worked.Goals as goal

pub loop-i-init : goal.loop-i-init
unfolding rows_sound row_values
loop-i-init c = record { room = omega arith; sound = refl; worked = refl }

pub returns-then-not-row_sound-clause-value : goal.returns-then-not-row_sound-clause-value
returns-then-not-row_sound-clause-value c =
    let t = c.args.self.now in
    rows_stop _ _ _ _ t.its_events c.word-w.ensures _ (rw (← t.its_rows) c.loop-i-test.true) (sym c.row_sound.ensures ∙ c.if-not-row_sound.true)

pub loop-i-preserved : goal.loop-i-preserved
loop-i-preserved c =
    let t = c.args.self.now in
    let l = c.loop-i.invariant in
    let s = sym c.row_sound.ensures ∙ c.if-not-row_sound.false in
    record {
      room = length-set c.loop-i.values c.loop-i.i c.row_value-value.result ∙ l.room;
      sound = rows_more _ _ _ _ t.its_events c.word-w.ensures s l.sound;
      worked = worked_more _ _ _ _ t.its_events c.word-w.ensures _ _ _ (omega (arith, l.room, t.its_length)) l.worked s c.row_value-value.ensures;
    }
