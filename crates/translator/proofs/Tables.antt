-- The table of an accepted text's diagram: from the nodes to the process in postfix order, and from there to the bytes.
use mathlib.Core.Path.{◌≡◌, ap, ◌∙◌}
use mathlib.Core.List.{List}
use Prim.Native.Nat.{ℕ, ◌≤◌}
use native.Mathlib.Omega.{arith}
use lib.ListN.{length, take, replicate}
use borrow.Author.Tests.{le-leb}
use Rattle.base.specs.Fill.{fill}
use Rattle.base.proofs.Truth.{and_i}
use Rattle.base.proofs.Filled.{fill_length, fill_front}
use Rattle.diagram.specs.Tree.{Flow}
use Rattle.diagram.specs.Count.{flow_nodes, flow_events}
use Rattle.diagram.specs.declared.Diagram.{Diagram}
use Rattle.reading.specs.Accepted.{Accepted}
use Rattle.reading.specs.Shows.{Shows}
use Rattle.process.specs.Expand.{expand}
use Rattle.postfix.specs.declared.Code.{Code}
use Rattle.postfix.specs.declared.Code.TheVariants.{Leaf}
use Rattle.postfix.specs.Postfix.{postfix}
use Rattle.process.proofs.Numbered.{size, Numbered}
use Rattle.process.proofs.Events.{expand_laid}
use Rattle.agreement.specs.Agrees.{Agrees}
use Rattle.book.proofs.Played.{agreeing_plays}
use Rattle.expansion.specs.Walks.{Place, place, expanded}
use Rattle.postfix.proofs.Short.{postfix_short}
use Rattle.expansion.proofs.Postfixed.{expansion_exact}
use Rattle.plan.specs.Plan.{rows_of}
use Rattle.plan.proofs.Few.{rows_few}
use Rattle.plan.proofs.Lengths.{planned_length}
use Rattle.plan.proofs.Guarded.{plan_agrees, plan_rows}
use Rattle.guards.specs.Table.{TableWritten}
use Rattle.translator.specs.Translates.{TableOf, table_of, Written}

-- What the walk over the nodes leaves in a column of 1,024 codes.
abbrev pub codes : Diagram → Place
codes g = expanded g (replicate 1024 Leaf)

module _ (text : List ℕ) (d : Flow) (a : Accepted text d) where
  pub its_numbers : Numbered (expand d) 0
  its_numbers = (expand_laid d a.keeps.sizes).numbered

  pub its_size : size (expand d) ≡ flow_events d
  its_size = let e = (expand_laid d a.keeps.sizes).end in omega (arith, e)

  its_short : length (postfix (expand d)) ≤ 1024
  its_short = omega (arith, postfix_short (expand d), its_size, a.events)

  few : length (rows_of (expand d)) ≤ 12288
  few = omega (arith, rows_few d a.keeps.sizes, a.copies)

  module _ (g : Diagram) (s : Shows text d g) where
    walked : codes g ≡ place (flow_nodes d) (length (postfix (expand d))) (fill (replicate 1024 Leaf) (postfix (expand d)))
    walked = expansion_exact text d g s a.keeps.sizes a.depth a.nodes a.events (replicate 1024 Leaf)

    -- How many numbers there are, and which.
    pub count_is : (codes g).walk.count ≡ length (postfix (expand d))
    count_is = ap (λ (p : Place). p.walk.count) walked

    pub count_fits : (codes g).walk.count ≤ length (codes g).codes
    count_fits =
        let l = ap (λ (p : Place). length p.codes) walked ∙ fill_length (replicate 1024 Leaf) (postfix (expand d)) in
        omega (arith, count_is, its_short, l)

    pub numbers_are : take (codes g).walk.count (codes g).codes ≡ postfix (expand d)
    numbers_are =
        rw count_is
        (ap (λ (p : Place). take (length (postfix (expand d))) p.codes) walked ∙ fill_front (replicate 1024 Leaf) (postfix (expand d)) its_short)

  -- The bytes that are chosen are a table of the diagram.
  its_length : length (table_of d) ≤ 51204
  unfolding table_of
  its_length = omega (arith, planned_length (expand d) (flow_events d) its_size, a.events, few)

  -- They say of the control bits what the diagram's process says.
  pub its_agreement : Agrees (expand d) (flow_events d) (table_of d)
  unfolding table_of
  its_agreement = plan_agrees (expand d) (flow_events d) its_numbers its_size a.events few

  pub its_table : TableOf d (table_of d)
  unfolding table_of
  its_table = record {
    its_sound = its_agreement.its_sound;
    its_events = its_agreement.its_events;
    its_clears = its_agreement.its_clears;
    its_rows = rw (plan_rows (expand d) (flow_events d) its_numbers its_size a.events few) (rows_few d a.keeps.sizes);
    its_runs = agreeing_plays d a.keeps a.events (table_of d) its_agreement;
  }

  -- They are what is written, whatever was lent.
  pub plan_written : (lent : List ℕ) → 51204 ≤ length lent → (ops : List Code) (events size : ℕ) (left : List ℕ) → TableWritten ops events lent size left
      → ops ≡ postfix (expand d) → events ≡ flow_events d → Written d lent size left
  unfolding table_of
  plan_written lent long ops events size left w o e =
      let short = length_of ops o in
      let plan = w.its_plan d a.keeps.sizes o e (and_i (le-leb (length ops) 1024 short) (and_i (le-leb events 512 (omega (arith, e, a.events))) (le-leb 51204 (length lent) long))) in
      record { its_count = plan.0; its_left = plan.1; fits = omega (arith, its_length, long); its_table = its_table }
    where
      length_of : (ops : List Code) → ops ≡ postfix (expand d) → length ops ≤ 1024
      length_of ops o = rw o its_short
