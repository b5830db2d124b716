-- The kinds of rows by name: for the contract of a private function.
use Rattle.std.specs.Prelude.{◌≡◌, ℕ, ◌≤◌}
use Rattle.layout.specs.declared.Kind.{Kind}
use Rattle.layout.specs.declared.Kind.TheVariants.{Bit, Not, Both, Either}

-- A kind has a number; one past 3 stands for the last, as `says` takes it.
abbrev pub Numbered : Kind → ℕ → Type 0
Numbered Bit k = k ≡ 0
Numbered Not k = k ≡ 1
Numbered Both k = k ≡ 2
Numbered Either k = 3 ≤ k
