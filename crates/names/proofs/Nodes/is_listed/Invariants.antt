-- The pars read are the first of those around.
use Rattle.std.proofs.Common.{◌≡◌, ℕ, List, length}
use Rattle.diagram.specs.Tree.{Name}
use Rattle.walked.specs.Rows.{past_word, Listed}
use Rattle.names.specs.code.Pars.{Around}
use Rattle.names.proofs.Reading.{Reading}
use Rattle.names.proofs.Nodes.is_listed.Given as goal

abbrev pub invariant-loop-k : goal.invariant-loop-k
invariant-loop-k l =
    let text = l.self.lexer.now.text.now in
    let rows = l.self.rows.now in
    let n = length l.around in
    (at : ℕ) (ps ns : List Name) → l.past ≡ past_word text at → Listed text at ps → Around text rows l.around n ns
    → Reading text rows l.around n ps ns l.at l.k-index
