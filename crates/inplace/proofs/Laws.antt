-- The law of the thin call.
use mathlib.Core.Path.{◌≡◌, ap}
use mathlib.Core.List.{List}
use Prim.Native.Nat.{ℕ}
use Rattle.record.specs.declared.Record.{Record}
use Rattle.std.specs.Prelude.{Err}
use Rattle.base.specs.declared.Refusal.{Refusal}
use Rattle.table.specs.declared.Stepped.{Stepped}
use Rattle.table.proofs.Laws.{step_refused}
use Rattle.inplace.specs.Updates.{answer_of, left_of}

-- A refusal leaves the lent record as it was.
pub refused_untouched : (t : List ℕ) (before : Record) (e : ℕ) (r : Refusal) → answer_of t before e ≡ Err r → left_of t before e ≡ before
refused_untouched t before e r refused = ap (λ (s : Stepped). s.after) (step_refused t before e r refused).0
