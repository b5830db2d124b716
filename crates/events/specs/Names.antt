-- What the name call answers: "it hands back the leaf's name as that very part of the text, for a reset that of its body's flow"; "the name call gives just an
-- empty name" where refused.
use Rattle.std.specs.Prelude.{◌≡◌, cond, List, [], ℕ, ◌≤◌, ◌<◌, ltb, length}
use Rattle.std.specs.Borrow.{Bor}
use Rattle.diagram.specs.Tree.{Name}
use Rattle.diagram.specs.Count.{flow_events}
use Rattle.process.specs.Process.{event_of}
use Rattle.process.specs.Expand.{expand}
use Rattle.tokens.specs.Parts.{Part}
use Rattle.labels.specs.Stands.{Stands}
use Rattle.reading.specs.Reading.{Reading, drawing, no_drawing}

-- The name of event e; none where the text is turned away or e is at or past E.
unfoldable pub name_of : {text : List ℕ} → Reading text → ℕ → Name
name_of (drawing d a) e = cond (ltb e (flow_events d)) (event_of (expand d) e).name []
name_of (no_drawing reason place r) e = []

-- Where it stands in the text; an empty name stands at the text's begin.
unfoldable pub Placed : {text : List ℕ} → Reading text → ℕ → ℕ → Type 0
Placed {text} (drawing d a) e place = (e < flow_events d → Stands text (event_of (expand d) e).name place) × (flow_events d ≤ e → place ≡ 0)
Placed (no_drawing reason place r) e at = at ≡ 0

pub record Named (text : Bor (List ℕ)) (e : ℕ) (r : Bor (List ℕ)) : Type 0 where
  pub reading : Reading text.now
  pub its_name : r.now ≡ name_of reading e
  pub place : ℕ
  pub its_place : Placed reading e place
  pub its_part : Part text r place (length (name_of reading e))
