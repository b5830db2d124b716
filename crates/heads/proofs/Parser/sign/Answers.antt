-- `heads::Parser::sign` meets its contract: the sign that is wanted, or another token.
use Rattle.grammar.proofs.Takes.{sign_same}
use Rattle.walked.proofs.Laws.{starts, arrives, sign_taken, other_sign}
use Rattle.heads.proofs.Parser.sign.Goals as goal

pub returns-in-Ok : goal.returns-in-Ok
returns-in-Ok c st =
    let q = c.in-Ok.ensures in
    let b = q.1.1.onward (λ z. let y : ⊥ = cc in y) in
    arrives (sign_taken q.1.1 _ (sign_same _) starts) b.0 b.1

pub returns-in-Err : goal.returns-in-Err
returns-in-Err c st = let q = c.in-Err.ensures in other_sign _ c.at.ensures (q.0, (q.1.0, q.1.1, q.1.2))
