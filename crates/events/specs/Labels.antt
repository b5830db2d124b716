-- What the values call answers: "The values call takes the same and gives the values with a mark that tells a reset from a leaf, or the refusal."
use Rattle.std.specs.Prelude.{◌≡◌, cond, List, ℕ, ltb, Result, Ok, Err}
use Rattle.base.specs.Refusals.{refusal}
use Rattle.base.specs.declared.Reason.TheVariants as Reason
use Rattle.base.specs.declared.Refusal.{Refusal}
use Rattle.diagram.specs.Count.{flow_events}
use Rattle.process.specs.Process.{Event, event_of}
use Rattle.process.specs.Expand.{expand}
use Rattle.labels.specs.Values.{packed}
use Rattle.reading.specs.Reading.{Reading, drawing, no_drawing}
use Rattle.events.specs.declared.Label.{Label}
use Rattle.events.specs.declared.Label.TheVariants.{Leaf, Reset}

-- An event as the answer tells it.
abbrev pub label : Event → Label
label l = cond l.reset (Reset (packed l.values)) (Leaf (packed l.values))

-- Event e of the drawing; number 14 at or past E, and reading's refusal where the text is turned away.
unfoldable pub label_of : {text : List ℕ} → Reading text → ℕ → Result Label Refusal
label_of (drawing d a) e = cond (ltb e (flow_events d)) (Ok (label (event_of (expand d) e))) (Err (refusal Reason.Event 0))
label_of (no_drawing reason place r) e = Err (refusal reason place)

pub record Valued (text : List ℕ) (e : ℕ) (r : Result Label Refusal) : Type 0 where
  pub reading : Reading text
  pub its_label : r ≡ label_of reading e
