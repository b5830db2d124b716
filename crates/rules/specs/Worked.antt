-- Number 11 at both sides of its limits, worked through: node copies, events, and what they come to.
use Rattle.std.specs.Prelude.{◌≡◌, List, [], ◌∷◌, map, ℕ, Ok, Err}
use Rattle.base.specs.Refusals.{refusal}
use Rattle.base.specs.declared.Reason.TheVariants.{Count}
use Rattle.rules.specs.Counted.{capped}
use Rattle.rules.specs.Judged.{Verdict, counted}

abbrev many : Verdict
many = Err (refusal Count 0)

abbrev few : ℕ → ℕ → Verdict
few copies events = Ok (record { copies = copies; events = events })

-- "over 768 node copies or 512 events": document 01's drawings have 544 copies and 512 events, or 768 copies.
abbrev pub counts : List (ℕ × ℕ × Verdict)
counts =
    (2, 1, few 2 1) ∷ (544, 512, few 544 512) ∷ (768, 376, few 768 376) ∷ (768, 512, few 768 512) ∷ (545, 513, many) ∷ (768, 513, many)
    ∷ (769, 377, many) ∷ (769, 1, many) ∷ (769, 513, many) ∷ (800, 400, many) ∷ (1048576, 1048576, many) ∷ []

abbrev pub Counted : List (ℕ × ℕ × Verdict) → Type 0
Counted cs = map (λ c. counted (capped c.0) (capped c.1)) cs ≡ map (λ c. c.2) cs
