-- `second_pass` meets its contract: each turn is a step of the pass.
use Rattle.std.proofs.Common.{◌≡◌, rules}
use Rattle.guards.specs.code.Passes.{no_needs}
use Rattle.guards.proofs.SecondTurns.{second_turn}
use Rattle.guards.proofs.second_pass.Goals as goal

pub loop-op-preserved : goal.loop-op-preserved
loop-op-preserved c =
    let l = c.loop-op in
    let none : c.default.result ≡ no_needs = search rules in
    second_turn _ _ _ _ l.table l.e l.gates.items l.needs.items l.invariant c.in-Some.op c.pop-n.result c.guard-e.new.table _ _ _
    (rw none at c.pop-n.ensures.taken) c.guard-e.ensures.guarded c.guard-e.ensures.few
