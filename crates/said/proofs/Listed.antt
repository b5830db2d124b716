-- The lines of the events of a listing, as the iterator over its lines gives them.
use Rattle.std.proofs.Common.{◌≡◌, Bor, List, ℕ, drop}
use Rattle.std.specs.Iterator.{YieldsFirstRef}
use Rattle.std.specs.Iterator.Adapters.{skip_source, skip_count, skip_steps}
use Rattle.std.proofs.lemmas.Iterator.{YieldsList}
use Rattle.std.proofs.lemmas.Iterator.Consumers.{YieldsList-from_first, YieldsList-at}
use Rattle.std.proofs.lemmas.Iterator.Adapters.{YieldsList-from_skip}
use Rattle.said.specs.Lines.{lines}
use Rattle.said.specs.Left.{lines_left}
use Rattle.said.specs.declared.ListingLines.{ListingLines}

pub after_first_line : (listing : List ℕ) (s : ListingLines) {k : _} → lines_left s ≡ lines listing → skip_source k ≡ s → skip_count k ≡ 1
    → YieldsList (skip_steps (YieldsFirstRef lines_left)) (λ x. x.now) k (drop 1 (lines listing))
after_first_line listing s e p q =
    YieldsList-from_skip 1 (YieldsList-at p (YieldsList-from_first (λ (x : Bor (List ℕ)). x.now) lines_left (lines listing) e)) q
