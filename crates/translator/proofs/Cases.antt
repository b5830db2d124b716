-- The answers of a translation, case by case.
use mathlib.Core.Path.{◌≡◌, refl, sym, ap, ◌∙◌}
use mathlib.Core.List.{List}
use Prim.Native.Nat.{ℕ, ◌≤◌}
use lib.ListN.{length, take}
use Rattle.std.specs.Prelude.{Ok, Err, IsErr, IsErrAnd}
use Rattle.base.specs.Refusals.{number}
use Rattle.base.specs.Reports.{Written as Answer}
use Rattle.base.specs.declared.Refusal.{Refusal}
use Rattle.base.proofs.Reports.{passed}
use Rattle.diagram.specs.Tree.{Flow}
use Rattle.diagram.specs.declared.Diagram.{Diagram}
use Rattle.reading.specs.Answers.{read_of}
use Rattle.reading.specs.Accepted.{Accepted}
use Rattle.reading.specs.Shows.{Shows}
use Rattle.reading.proofs.Exact.{accepted_exactly, turned_away_exactly}
use Rattle.reading.proofs.Shown.{accepted_shown}
use Rattle.process.specs.Expand.{expand}
use Rattle.postfix.specs.declared.Code.{Code}
use Rattle.postfix.specs.Postfix.{postfix}
use Rattle.guards.specs.Table.{TableWritten}
use Rattle.translator.specs.Reports.{report}
use Rattle.translator.specs.Translates.{Translation, refused, done, Read, Writes}
use Rattle.translator.proofs.Tables.{codes, count_is, count_fits, numbers_are, plan_written}

-- Where a text is read.
module _ (text : List ℕ) (g : Diagram) (read : Ok g ≡ read_of text) where
  its_tree : (d : Flow) × Accepted text d
  its_tree = (accepted_exactly text).0 (g, sym read)

  its_shown : Shows text its_tree.0 g
  its_shown = accepted_shown text its_tree.0 its_tree.1 (sym read)

  -- The diagram is one that was read.
  pub is_read : Read g
  is_read = record { text = text; tree = its_tree.0; accepted = its_tree.1; shown = its_shown }

  -- Where its table is written, the text is translated.
  pub translated : (lent : List ℕ) (n : ℕ) (left : List ℕ) → 51204 ≤ length lent → Writes g lent n left → Translation text lent (Ok n) left
  translated lent n left long w = done its_tree.0 n long its_tree.1 refl (w text its_tree.0 its_tree.1 its_shown)

-- Where it is refused, and the refusal passed on.
pub refused_answer : (text : List ℕ) (x : Refusal) → Err x ≡ read_of text → (r : Answer) → IsErr r × IsErrAnd r (λ y. y ≡ x) → (lent : List ℕ)
    → 51204 ≤ length lent → Translation text lent r lent
refused_answer text x e r h lent long =
    refused (number x.reason) x.place long ((turned_away_exactly text x.reason x.place).0 (sym e)) (ap report (passed h)) refl

-- The table that is written over the lent bytes is the diagram's.
module _ (g : Diagram) (lent : List ℕ) (long : 51204 ≤ length lent) where
  pub table_written : (n size : ℕ) (ops : List Code) (left : List ℕ) → n ≡ (codes g).walk.count → ops ≡ (codes g).codes → TableWritten (take n ops) g.events lent size left
      → Writes g lent size left
  table_written n size ops left a b w text d acc s =
      plan_written text d acc lent long (take n ops) g.events size left w (rw (a, b) (numbers_are text d acc g s)) s.events

-- The numbers in postfix order stand in the column.
pub numbers_fit : (g : Diagram) → Read g → (n : ℕ) (ops : List Code) → n ≡ (codes g).walk.count → ops ≡ (codes g).codes → n ≤ length ops
numbers_fit g k n ops a b = rw (a, b) (count_fits k.text k.tree k.accepted g k.shown)

pub numbers_there : (g : Diagram) → Read g → (n : ℕ) (ops : List Code) → n ≡ (codes g).walk.count → ops ≡ (codes g).codes → n ≡ length (take n ops)
numbers_there g k n ops a b =
    let q : take n ops ≡ postfix (expand k.tree) = rw (a, b) (numbers_are k.text k.tree k.accepted g k.shown) in
    a ∙ (count_is k.text k.tree k.accepted g k.shown ∙ sym (ap length q))
