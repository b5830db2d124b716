-- By what the text is, and where the event stands.
use Rattle.std.proofs.Common.{refl, sym, ◌∙◌, arith}
use Rattle.events.proofs.Answers.{named_refused, named_past, named_some}
use Rattle.events.proofs.name.Goals as goal

pub returns : goal.returns
returns c =
    let a = c.args in
    named_some a.text c.word.result c.in-Ok.d a.event c.in-Some.spot (sym c.in-Ok.ensures) (sym c.find.ensures ∙ c.in-Some.is) c.word.ensures

pub returns-in_default : goal.returns-in_default
returns-in_default c =
    let a = c.args in
    named_refused a.text _ a.event c.in_default.field-0 (sym c.in_default.ensures) (record { its_block = refl; its_offset = omega arith; its_bytes = refl }) refl

pub returns-in_default-find : goal.returns-in_default-find
returns-in_default-find c =
    let a = c.args in
    named_past a.text _ c.in-Ok.d a.event (sym c.in-Ok.ensures) (sym c.find.ensures ∙ c.in_default-find.is)
    (record { its_block = refl; its_offset = omega arith; its_bytes = refl }) refl
