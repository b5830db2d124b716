-- What reading answers, as document 01 tells it: the counts of the diagram, or the refusal.
use Rattle.std.specs.Prelude.{[], ◌∷◌}
use Rattle.base.specs.Reports.{Report, answer}
use Rattle.reading.specs.Answers.{Read}

-- The nodes, node copies and events of the diagram; or number and place.
abbrev pub report : Read → Report
report = answer (λ d. d.count ∷ d.copies ∷ d.events ∷ [])
