-- The two passes one after the other, with the rows before and after them.
use Rattle.std.proofs.Common.{◌≡◌, subst, ◌∙◌, List, [], ◌∷◌, ℕ, ◌+◌, ◌*◌}
use Rattle.base.specs.Packed.{put_word}
use Rattle.layout.specs.Fields.{both_row}
use Rattle.postfix.specs.declared.Code.{Code}
use Rattle.plan.specs.declared.Needs.{Needs}
use Rattle.plan.specs.Pieces.{constants}
use Rattle.guards.specs.declared.Table.{Table}
use Rattle.guards.specs.code.Rows.{base_of, Adds, Keeps}
use Rattle.guards.specs.declared.Whole.{Whole}
use Rattle.guards.specs.code.Passes.{stacked, first_start, first_pass, FirstAt, FirstEnds, SecondAt, second_start, second_pass, SecondEnds, first_of, second_of, Passes}

module _ (ops : List Code) (events : ℕ) (lent : List ℕ) where
  first_joined : (start w v : Table) (needs : List Needs) (r : Whole) → start.events ≡ events → start.next ≡ 0 → start.out.now ≡ lent → Adds start w constants
      → FirstEnds (first_pass (base_of w.events) ops (first_start 3 w.out.now)) w v needs r → FirstEnds (first_of ops events lent) w v needs r
  unfolding first_of
  first_joined start w v needs r e n o a f =
      let same : first_pass (base_of w.events) ops (first_start 3 w.out.now) ≡ first_of ops events lent = rw (a.its_events, a.its_bytes, e, n, o) in
      subst (λ (u : FirstAt). FirstEnds u w v needs r) same f

  second_joined : (u : FirstAt) (w v x : Table) (needs : List Needs) (r : Whole) → v.events ≡ events → FirstEnds u w v needs r
      → SecondEnds (second_pass (base_of v.events) ops (second_start v.next r.event (stacked needs) v.out.now)) v x → SecondEnds (second_of ops events u) v x
  unfolding second_of
  second_joined u w v x needs r e f g =
      let same : second_pass (base_of v.events) ops (second_start v.next r.event (stacked needs) v.out.now) ≡ second_of ops events u =
      rw (e, f.its_rows, f.its_event, f.its_needs, f.its_out) in
      subst (λ (d : SecondAt). SecondEnds d v x) same g

  pub passes_joined : (start w v x y z : Table) (needs : List Needs) (r : Whole) (size : ℕ) (left : List ℕ) → start.events ≡ events → start.next ≡ 0 → start.out.now ≡ lent
      → Adds start w constants → FirstEnds (first_pass (base_of w.events) ops (first_start 3 w.out.now)) w v needs r
      → SecondEnds (second_pass (base_of v.events) ops (second_start v.next r.event (stacked needs) v.out.now)) v x
      → Adds x y (both_row r.done r.done ∷ []) → size ≡ base_of y.events + 4 * y.next
      → Keeps y z (put_word y.out.now 0 (y.events * 65536 + y.next)) → left ≡ z.out.now → Passes ops events lent size left
  passes_joined start w v x y z needs r size left e n o a f g l s k q =
      let first = first_joined start w v needs r e n o a f in
      let same : v.events ≡ events = f.its_events ∙ (a.its_events ∙ e) in
      let second = second_joined (first_of ops events lent) w v x needs r same first g in
      let there : x.events ≡ events = g.its_events ∙ same in
      let end : y.events ≡ events = l.its_events ∙ there in
      record {
        its_size = rw (s, end, l.its_next, second.its_rows);
        its_bytes = rw (q, k.its_bytes, end, l.its_next, l.its_bytes, there, first.its_done, second.its_rows, second.its_out);
      }
