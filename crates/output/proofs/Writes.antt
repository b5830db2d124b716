-- Laws of writers that write one thing after the other. A function that does so is proved alone under
-- `#[tactic(auto, using(output::proofs::Buffers::put_all_append), unfolding(output::specs::Buffer::put_all))]`; these are for an answer by hand.
use Rattle.std.proofs.Common.{ℕ, ◌≤◌, List, [], ◌++◌, length, refl, sym, ◌∙◌, subst}
use Rattle.output.specs.Buffer.{put_all}
use Rattle.output.specs.Writes.{Writes, written}
use Rattle.output.specs.declared.Writer.{Writer}
use Rattle.output.proofs.Buffers.{Within, put_all_within, before}

module _ (w v : Writer) where
  -- These, and then those.
  pub both : (u : Writer) (bs cs : List ℕ) → Writes w v bs → Writes v u cs → Writes w u (bs ++ cs)
  both u bs cs p q = record { same = q.same ∙ p.same; bytes = before (written w) bs cs p.bytes q.bytes }

  -- What is written stays within the buffer.
  pub within : (bs : List ℕ) → Writes w v bs → w.at ≤ length w.out.now → v.at ≤ length v.out.now
  within bs p h = subst Within (sym p.bytes) (put_all_within bs (written w) h)

pub none : (w : Writer) → Writes w w []
unfolding put_all
none w = record { same = refl; bytes = refl }
