-- What a writer has written.
use Rattle.std.specs.Prelude.{◌≡◌, List, ℕ}
use Rattle.output.specs.declared.Writer.{Writer}
use Rattle.output.specs.Buffer.{Buffer, buffer, put_all}

abbrev pub written : Writer → Buffer
written w = buffer w.at w.out.now

-- The writer w goes on to v by these bytes, over the same buffer.
pub record Writes (w v : Writer) (bs : List ℕ) : Type 0 where
  pub same : v.out.ghost_name ≡ w.out.ghost_name
  pub bytes : written v ≡ put_all bs (written w)
