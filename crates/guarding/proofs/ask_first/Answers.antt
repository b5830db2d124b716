-- A choice: its variables are those from its first event on.
use Rattle.std.proofs.Common.{◌-◌, List, refl, ap, ◌∙◌, arith}
use Rattle.postfix.specs.declared.Code.{Code}
use Rattle.parts.specs.code.Cuts.{event_count}
use Rattle.parts.proofs.Ends.{some_number}
use Rattle.conditions.proofs.Phrases.{idle_over}
use Rattle.guarding.proofs.ask_first.Goals as goal

pub returns-in-Xor : goal.returns-in-Xor
returns-in-Xor c =
    λ p e f.
    let n = c.after.ensures in
    let count = n.0 ∙ ap (λ (cs : List Code). event_count cs - 1) e in
    rw (c.in-Xor.is, idle_over p c.args.from f.numbered, ← count)
    (record { its_lines = c.idle_line.ensures (omega (arith, f.few, n.1, some_number c.args.codes.now p e)); its_next = refl })
