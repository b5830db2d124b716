-- One unsound row is enough; past the last, all are sound.
use mathlib.Core.Path.{refl, sym, ◌∙◌}
use Rattle.layout.specs.Sound.{rows_sound}
use Rattle.layout.proofs.NextRow.{rows_more, rows_stop}
use Rattle.layout.proofs.Table.rows_sound.Goals as goal

pub loop-i-init : goal.loop-i-init
unfolding rows_sound
loop-i-init c = refl

pub returns-then-not-row_sound : goal.returns-then-not-row_sound
returns-then-not-row_sound c =
    let t = c.args.self.now in
    rows_stop _ _ _ _ t.its_events c.word.ensures _ (rw (← t.its_rows) c.loop-i-test.true) (sym c.row_sound.ensures ∙ c.if-not-row_sound.true)

pub loop-i-preserved : goal.loop-i-preserved
loop-i-preserved c =
    rows_more _ _ _ _ c.args.self.now.its_events c.word.ensures (sym c.row_sound.ensures ∙ c.if-not-row_sound.false) c.loop-i.invariant
