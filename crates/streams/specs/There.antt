-- How many bytes stand there after a read, whether it came to its end or failed.
use Rattle.std.specs.Prelude.{ℕ, Result, Ok, Err}

abbrev pub there : Result ℕ ℕ → ℕ
there (Ok n) = n
there (Err n) = n
