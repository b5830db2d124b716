-- What the program shows is written from the front of a buffer that has room for all of it (`player.proofs.Bounds`).
use Rattle.std.specs.Prelude.{◌≡◌, length}
use Rattle.output.specs.declared.Writer.{Writer}

-- Nothing is written yet, and there is room.
pub record Ready (w : Writer) : Type 0 where
  pub none : w.at ≡ 0
  pub room : length w.out.now ≡ 262144
