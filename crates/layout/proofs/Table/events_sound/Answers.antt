-- One unsound record is enough; past the last, all are sound.
use mathlib.Core.Path.{refl, sym, ◌∙◌}
use Rattle.layout.specs.Sound.{events_sound}
use Rattle.layout.proofs.Events.{events_more, events_stop}
use Rattle.layout.proofs.Table.events_sound.Goals as goal

pub loop-e-init : goal.loop-e-init
unfolding events_sound
loop-e-init c = refl

pub returns-then-not-event_sound : goal.returns-then-not-event_sound
returns-then-not-event_sound c =
    let t = c.args.self.now in
    events_stop _ _ _ _ t.its_rows c.word.ensures _ (rw (← t.its_events) c.loop-e-test.true) (sym c.event_sound.ensures ∙ c.if-not-event_sound.true)

pub loop-e-preserved : goal.loop-e-preserved
loop-e-preserved c =
    events_more _ _ _ _ c.args.self.now.its_rows c.word.ensures (sym c.event_sound.ensures ∙ c.if-not-event_sound.false) c.loop-e.invariant
