-- What is written goes on in the same buffer, and what was shown makes room for as much.
use mathlib.Core.Path.{◌≡◌, ap, ◌∙◌}
use mathlib.Core.List.{List}
use Prim.Native.Nat.{ℕ}
use lib.ListN.{length}
use Rattle.output.specs.Buffer.{Buffer, buffer, put_all}
use Rattle.output.specs.Writes.{written}
use Rattle.output.specs.declared.Writer.{Writer}
use Rattle.output.proofs.Buffers.{put_all_length}
use Rattle.play.specs.Room.{Ready}

pub ready : (w v u : Writer) (bs : List ℕ) → Ready w → written v ≡ put_all bs (written w) → written u ≡ buffer 0 v.out.now → Ready u
ready w v u bs r e f = record {
  none = ap (λ (s : Buffer). s.at) f;
  room = ap (λ (s : Buffer). length s.bytes) f ∙ (ap (λ (s : Buffer). length s.bytes) e ∙ (put_all_length bs (written w) ∙ r.room));
}
