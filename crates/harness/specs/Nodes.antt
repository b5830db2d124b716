-- What a node of a text is told as: the diagram of an answer, node by node.
use Rattle.std.specs.Prelude.{cond, List, ℕ, ltb, get_or, Option, Some, None, Result, Ok, Err}
use Rattle.base.specs.Refusals.{number}
use Rattle.base.specs.Reports.{Report, result, refusal}
use Rattle.base.specs.declared.Refusal.{Refusal}
use Rattle.diagram.specs.Stored.{blank_node}
use Rattle.diagram.specs.declared.Diagram.{Diagram}
use Rattle.diagram.specs.declared.Node.{Node}
use Rattle.reading.specs.Answers.{Read}

-- The node with an index, in the order of the text; none past the last one.
abbrev pub stored_at : Diagram → ℕ → Option Node
stored_at d i = cond (ltb i d.count) (Some (get_or d.nodes i blank_node)) None

-- Or the refusal of a text that is not read.
abbrev pub Found : Type 0
Found = Result (Option Node) Refusal

abbrev pub found_at : Read → ℕ → Found
found_at (Ok d) i = Ok (stored_at d i)
found_at (Err r) i = Err r

-- What is told of a node that is found: these values of it; 255 for an index past the last one; or number and place.
abbrev pub report : (Node → List ℕ) → Found → Report
report values (Ok (Some n)) = result (values n)
report values (Ok None) = refusal 255 0
report values (Err r) = refusal (number r.reason) r.place
