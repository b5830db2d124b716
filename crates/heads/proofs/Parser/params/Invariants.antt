-- From the first comma to the next one nothing but pars was taken.
use Rattle.std.proofs.Common.{ℕ, ◌-◌, List, [], ◌∷◌, length}
use Rattle.grammar.specs.Machine.{params}
use Rattle.walked.specs.Walk.{state}
use Rattle.walked.proofs.Laws.{Leads}
use Rattle.heads.proofs.Parser.params.Given as goal

abbrev pub invariant-loop-p : goal.invariant-loop-p
invariant-loop-p l =
    (s : List ℕ) → Leads l.self.lexer.text.now (params ∷ []) l.p.nodes l.p.at (state l.initial.rows s) (params ∷ []) l.p.nodes l.at (state l.rows s)

abbrev pub decreases-loop-p : goal.decreases-loop-p
decreases-loop-p l = length l.self.lexer.text.now - l.at
