-- Document 01, "Numbers for what is turned away", numbers 7 to 11, in this order over the whole text.
use Rattle.std.specs.Prelude.{◌||◌, cond, List, [], ℕ, ltb, Option, Some, None, Result, Ok, Err}
use Rattle.base.specs.Refusals.{refusal}
use Rattle.base.specs.declared.Reason.{Reason}
use Rattle.base.specs.declared.Refusal.{Refusal}
use Rattle.diagram.specs.TreeNodes.{TextNode}
use Rattle.grammar.specs.Keys.{keyword_at, name_at}
use Rattle.rules.specs.Kept.{names_kept, parameters_kept, solids_kept, strongs_kept, fault}
use Rattle.rules.specs.Counted.{any_node, eventful, total, capped}
use Rattle.rules.specs.declared.Counts.{Counts}

-- How many node copies and events a drawing has, or the refusal.
abbrev pub Verdict : Type 0
Verdict = Result Counts Refusal

-- A node that breaks a rule is refused at its place; where there is none the next rule is asked.
abbrev pub refuse : Reason → (ℕ → ℕ) → Option ℕ → Verdict → Verdict
refuse reason place (Some i) next = Err (refusal reason (place i))
refuse reason place None next = next

-- Number 11: "over 768 node copies or 512 events".
abbrev pub counted : ℕ → ℕ → Verdict
counted copies events = cond (ltb 768 copies || ltb 512 events) (Err (refusal Reason.Count 0)) (Ok (record { copies = copies; events = events }))

-- The node copies and events of the nodes of a text, or the refusal: at the name that is twice, or at the node's keyword.
unfoldable pub verdict : List ℕ → List TextNode → Verdict
verdict text hs =
    refuse Reason.Name (name_at text) (fault names_kept [] hs)
    (refuse Reason.Parameter (keyword_at text) (fault parameters_kept [] hs)
    (refuse Reason.Solid (keyword_at text) (fault solids_kept [] hs)
    (refuse Reason.Weak (keyword_at text) (fault strongs_kept [] hs)
    (counted (capped (total any_node [] hs)) (capped (total eventful [] hs))))))
