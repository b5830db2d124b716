-- What the values call answers, as document 01 tells it: the mark that tells a reset from a leaf, how many values there are, and the values outermost first;
-- or the refusal.
use Rattle.std.specs.Prelude.{cond, List, [], ◌∷◌, ℕ, Result}
use Rattle.base.specs.Reports.{Report, answer}
use Rattle.base.specs.declared.Refusal.{Refusal}
use Rattle.process.specs.Process.{Event}
use Rattle.labels.specs.Values.{packed}
use Rattle.labels.specs.declared.Values.{Values}
use Rattle.events.specs.declared.Label.{Label}
use Rattle.events.specs.declared.Label.TheVariants.{Leaf, Reset}

-- A value that is not there is 0.
abbrev pub marked : ℕ → Values → List ℕ
marked mark v = mark ∷ v.count ∷ v.first ∷ v.second ∷ v.third ∷ []

-- An event: 1 for a reset and 0 for a leaf, and its values.
abbrev pub event_marked : Event → List ℕ
event_marked l = marked (cond l.reset 1 0) (packed l.values)

abbrev pub label_marked : Label → List ℕ
label_marked (Leaf v) = marked 0 v
label_marked (Reset v) = marked 1 v

abbrev pub report : Result Label Refusal → Report
report = answer label_marked
