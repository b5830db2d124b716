-- The turns of the second pass's loop.
use Rattle.std.proofs.Common.{◌≡◌, ap, ◌∙◌, List, [], ◌∷◌, ◌++◌, ℕ, ◌+◌, ◌-◌, ◌*◌, ◌≤◌, length, reverse, arith, length-append}
use Rattle.postfix.specs.declared.Code.{Code}
use Rattle.plan.specs.declared.Needs.{Needs}
use Rattle.guards.specs.declared.Table.{Table}
use Rattle.guards.specs.code.Rows.{base_of}
use Rattle.postfix.specs.declared.Code.TheVariants.{Leaf, Again, Rounds, Seq, And, Or, Xor}
use Rattle.std.proofs.lemmas.List.{reverse-append}
use Rattle.guards.specs.code.Passes.{stacked, top, no_needs, Pops, second_words, Guarded, SecondAt, second_start, second_step, second_pass}

abbrev pub second_at : Table → ℕ → List ℕ → List Needs → SecondAt
second_at rows event gates needs =
    record { rows = rows.next; event = event; gates = stacked gates; needs = stacked needs; out = rows.out.now }

-- After these codes, from the end: bounds, and the state.
pub record SecondTo (ops : List Code) (start : Table) (from : ℕ) (column : List Needs) (rows : Table) (event : ℕ) (gates : List ℕ) (needs : List Needs) : Type 0 where
  pub same : rows.out.ghost_name ≡ start.out.ghost_name
  pub its_events : rows.events ≡ start.events
  pub few_rows : rows.next ≤ start.next + 2 * length ops
  pub few_gates : length gates ≤ 1 + length ops
  pub its_state : second_at rows event gates needs ≡ second_pass (base_of start.events) (reverse ops) (second_start start.next from (stacked column) start.out.now)

-- A code has few rows.
words_short : (op : Code) (m : ℕ) (n : Needs) → length (second_words op m n) ≤ 2
words_short Leaf m n = omega arith
words_short Again m n = omega arith
words_short Rounds m n = omega arith
words_short Seq m n = omega arith
words_short And m n = omega arith
words_short Or m n = omega arith
words_short Xor m n = omega arith

-- One code more.
module _ (ops : List Code) (start : Table) (from : ℕ) (column : List Needs) (rows : Table) (event : ℕ) (gates : List ℕ) (needs : List Needs) where
  pub second_turn : SecondTo ops start from column rows event gates needs → (op : Code) (n : Needs) (v : Table) (r : ℕ) (gates' : List ℕ) (needs' : List Needs)
      → Pops needs needs' no_needs n → Guarded op event n gates gates' rows v r → length gates' ≤ length gates - 1 + 2
      → SecondTo (ops ++ (op ∷ [])) start from column v r gates' needs'
  unfolding second_step
  second_turn u op n v r gates' needs' p g f =
      let base = base_of start.events in
      let more = length-append ops (op ∷ []) in
      record {
        same = g.same ∙ u.same;
        its_events = g.its_events ∙ u.its_events;
        few_rows = omega (arith, more, g.its_rows, u.few_rows, words_short op (top 0 (stacked gates)) n);
        few_gates = omega (arith, more, f, u.few_gates);
        its_state =
            rw (g.its_gates, p.its_rest, g.its_rows, g.its_out, g.its_event, u.its_events, p.its_top, reverse-append ops (op ∷ []))
            (ap (second_step base op) u.its_state);
      }
