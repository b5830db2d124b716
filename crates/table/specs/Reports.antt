-- What the calls on tables answer, as document 01 tells it: "0 for sound, done or not finished, 255 for finished, otherwise the refusal's".
use Rattle.std.specs.Prelude.{Bool, true, false, [], ⊤, Result, Ok, Err}
use Rattle.base.specs.Reports.{Report, result, refusal, answer}
use Rattle.base.specs.Refusals.{number}
use Rattle.base.specs.declared.Refusal.{Refusal}

abbrev pub report : Result ⊤ Refusal → Report
report = answer (λ done. [])

abbrev pub finish_report : Result Bool Refusal → Report
finish_report (Ok false) = result []
finish_report (Ok true) = record { number = 255; place = 0; values = [] }
finish_report (Err r) = refusal (number r.reason) r.place
