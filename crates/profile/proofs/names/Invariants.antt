-- The variables of the events before e.
use Rattle.std.proofs.Common.{◌≡◌, ℕ, ◌<◌, length, get_or}
use Rattle.labels.specs.Seeks.{spot_of}
use Rattle.variables.specs.code.Spelled.{none}
use Rattle.profile.specs.code.Profiles.{variable}
use Rattle.profile.proofs.names.Given as goal

abbrev pub invariant-loop-e : goal.invariant-loop-e
invariant-loop-e l = record {
  long : length l.variables ≡ 32;
  filled : (n : ℕ) → n < l.e → get_or l.variables n none ≡ variable (spot_of l.d n);
}
