-- The second pass over a process in postfix order, from the end, writes the process's guards and event records.
use Rattle.std.proofs.Common.{◌≡◌, refl, sym, ap, subst, ◌∙◌, List, [], ◌∷◌, ◌++◌, ℕ, suc, ◌+◌, ◌-◌, ◌*◌, ◌≤◌, length, length-append, add-one, arith}
use Rattle.std.proofs.lemmas.List.{reverse-append}
use mathlib.Core.List.{append-nil, foldr-append}
use native.Mathlib.Nat.{sub-zero}
use Rattle.process.specs.Process.{Event, Joint, seq, and, or, xor, Process, event, join, again, rounds}
use Rattle.process.proofs.Numbered.{size, Numbered}
use Rattle.postfix.specs.declared.Code.{Code}
use Rattle.postfix.specs.declared.Code.TheVariants.{Leaf, Again, Rounds}
use Rattle.postfix.specs.Postfix.{postfix, joint_code}
use Rattle.postfix.specs.Fold.{fold}
use Rattle.layout.specs.Fields.{both_row, event_record}
use Rattle.plan.specs.declared.Needs.{Needs}
use Rattle.plan.specs.Plan.{joined, plan_of, Guards, joint_words, later_gate, earlier_gate, guards_of}
use Rattle.plan.proofs.Lengths.{records_length}
use Rattle.guards.specs.code.Rows.{put_rows}
use Rattle.guards.proofs.RowsWritten.{put_rows_append, rows_below_rows}
use Rattle.guards.specs.code.Passes.{stacked, event_count, second_words, gates_over, put_record, SecondAt, second_step, second_pass}
use Rattle.guards.proofs.FirstPassed.{needs_joined}

-- ---- what is written
-- From d to e the pass wrote rows ws after d's, and records rs of the events before d's.
pub record Wrote (base : ℕ) (ws rs : List ℕ) (d e : SecondAt) : Type 0 where
  pub its_rows : e.rows ≡ d.rows + length ws
  pub its_event : e.event + length rs ≡ d.event
  pub its_out : e.out ≡ put_rows base d.rows ws (put_rows 4 e.event rs d.out)

wrote_out : (base k n n' : ℕ) (ws rs vs ss o : List ℕ) → 4 + 4 * n ≤ base → n' + length ss ≡ n
    → put_rows base (k + length ws) vs (put_rows 4 n' ss (put_rows base k ws (put_rows 4 n rs o)))
    ≡ put_rows base k (ws ++ vs) (put_rows 4 n' (ss ++ rs) o)
wrote_out base k n n' ws rs vs ss o h e =
    ap (put_rows base (k + length ws) vs)
    (rows_below_rows 4 n' base k ss ws (put_rows 4 n rs o) (omega arith)
    ∙ ap (put_rows base k ws) (rows_below_rows 4 n' 4 n ss rs o (omega arith) ∙ rw (← e) (sym (put_rows_append 4 n' ss rs o))))
    ∙ sym (put_rows_append base k ws vs (put_rows 4 n' (ss ++ rs) o))

-- Rows and records, and then more rows and the records before.
wrote_then : (base : ℕ) (ws rs vs ss : List ℕ) (d e f : SecondAt) → 4 + 4 * d.event ≤ base → Wrote base ws rs d e → Wrote base vs ss e f
    → Wrote base (ws ++ vs) (ss ++ rs) d f
wrote_then base ws rs vs ss d e f h a b = record {
  its_rows = omega (arith, a.its_rows, b.its_rows, length-append ws vs);
  its_event = omega (arith, a.its_event, b.its_event, length-append ss rs);
  its_out =
      b.its_out
      ∙ rw (a.its_out, a.its_rows)
      (wrote_out base d.rows e.event f.event ws rs vs ss d.out (omega (arith, a.its_event)) b.its_event);
}

-- ---- what is so after a part
-- From d to e the pass went over a part with these guards. It took the part's gate and what the part needs, and left those of others.
pub record Passed (base : ℕ) (g : Guards) (gates : List ℕ) (needs : List Needs) (d e : SecondAt) : Type 0 where
  pub wrote : Wrote base g.words g.records d e
  pub its_gates : e.gates ≡ gates
  pub its_needs : e.needs ≡ needs

-- ---- one code
-- Where m is the latest gate, and n the latest that is needed.
abbrev went : ℕ → Code → ℕ → Needs → List ℕ → List Needs → SecondAt → SecondAt
went base op m n gates needs d = record {
  rows = d.rows + length (second_words op m n);
  event = d.event - event_count op;
  gates = gates_over op d.rows m gates;
  needs = needs;
  out = put_rows base d.rows (second_words op m n) (put_record op d.rows m (d.event - event_count op) n d.out);
}

step_is : (base : ℕ) (op : Code) (m : ℕ) (n : Needs) (gates : List ℕ) (needs : List Needs) (d : SecondAt) → d.gates ≡ m ∷ gates → d.needs ≡ n ∷ needs
    → second_step base op d ≡ went base op m n gates needs d
unfolding second_step
step_is base op m n gates needs d e f = rw (e, f)

-- A joint writes its rows, and puts the gates of its parts.
abbrev parted : Joint → (base m : ℕ) → Needs → List ℕ → List Needs → SecondAt → SecondAt
parted j base m n gates needs d = record {
  rows = d.rows + length (joint_words j m n);
  event = d.event;
  gates = later_gate j d.rows m ∷ earlier_gate j d.rows m ∷ gates;
  needs = needs;
  out = put_rows base d.rows (joint_words j m n) d.out;
}

joint_went : (j : Joint) (base m : ℕ) (n : Needs) (gates : List ℕ) (needs : List Needs) (d : SecondAt)
    → went base (joint_code j) m n gates needs d ≡ parted j base m n gates needs d
joint_went seq base m n gates needs d = rw (sub-zero d.event)
joint_went and base m n gates needs d = rw (sub-zero d.event)
joint_went or base m n gates needs d = rw (sub-zero d.event)
joint_went xor base m n gates needs d = rw (sub-zero d.event)

-- ---- the pass over a process
-- Where its plan begins at row u, its events begin at lo, and it may go on by row m; with the gates of others, and what they need.
pub record Stands (p : Process) (base u lo m : ℕ) (gates : List ℕ) (needs : List Needs) (d : SecondAt) : Type 0 where
  pub numbered : Numbered p lo
  pub its_event : d.event ≡ lo + size p
  pub low : 4 + 4 * d.event ≤ base
  pub its_gates : d.gates ≡ m ∷ gates
  pub its_needs : d.needs ≡ stacked (plan_of p u).needs ++ needs

abbrev pub Passes : Process → Type 0
Passes p =
    (base u lo m : ℕ) (gates : List ℕ) (needs : List Needs) (d : SecondAt) → Stands p base u lo m gates needs d
    → Passed base (guards_of p u d.rows m) gates needs d (second_pass base (postfix p) d)

-- A leaf or a loop over one, whose guards these are.
leaf_passed : (base : ℕ) (op : Code) (m : ℕ) (n : Needs) (gates : List ℕ) (needs : List Needs) (g : Guards) (d : SecondAt) → d.gates ≡ m ∷ gates
    → d.needs ≡ n ∷ needs → gates_over op d.rows m gates ≡ gates → Wrote base g.words g.records d (went base op m n gates needs d)
    → Passed base g gates needs d (second_step base op d)
leaf_passed base op m n gates needs g d p q o w = rw (step_is base op m n gates needs d p q) record { wrote = w; its_gates = o; its_needs = refl }

-- A loop over a flow: after the reset's row the body, which goes on as the loop.
rounds_passes : (p : Process) (r : ℕ) (l : Event) → Passes p → Passes (rounds p r l)
unfolding postfix size Numbered fold guards_of put_rows
rounds_passes p r l f base u lo m gates needs d h =
    let a = plan_of p u in
    let n : Needs = record { later = a.part.done; earlier = a.part.first } in
    let b : SecondAt = went base Rounds m n gates (stacked a.needs ++ needs) d in
    let e : SecondAt = second_pass base (postfix p) b in
    let body : Passed base (guards_of p u (suc d.rows) m) gates needs b e =
    subst (λ (k : ℕ). Passed base (guards_of p u k m) gates needs b e) (add-one d.rows)
    (f base u lo m gates needs b
    (record {
      numbered = h.numbered.0;
      its_event = omega (arith, h.its_event);
      low = omega (arith, h.low);
      its_gates = refl;
      its_needs = refl;
    })) in
    let last : d.event - 1 ≡ r = omega (arith, h.its_event, h.numbered.1) in
    rw (
      foldr-append (second_step base) d (postfix p) (Rounds ∷ []),
      step_is base Rounds m n gates (stacked a.needs ++ needs) d h.its_gates (rw (reverse-append a.needs (n ∷ [])) at h.its_needs),
      ← last,
    )
    record {
      wrote =
          wrote_then base (both_row m n.later ∷ []) (event_record d.rows n.earlier (d.event - 1 - n.earlier) ∷ []) (guards_of p u (suc d.rows) m).words
          (guards_of p u (suc d.rows) m).records d b e h.low
          (record { its_rows = refl; its_event = omega (arith, h.its_event); its_out = refl }) body.wrote;
      its_gates = body.its_gates;
      its_needs = body.its_needs;
    }

-- A joint: after its rows the later part, and then the earlier one.
join_passes : (j : Joint) (p q : Process) → Passes p → Passes q → Passes (join j p q)
unfolding postfix size Numbered fold guards_of put_rows
join_passes j p q f g base u lo m gates needs d h =
    let a = plan_of p u in
    let v : ℕ = u + length a.words in
    let n : Needs = (joined j u a (plan_of q v)).needs in
    let ns = stacked a.needs ++ needs in
    let ms = stacked (plan_of q v).needs ++ ns in
    let b : SecondAt = parted j base m n gates ms d in
    let e : SecondAt = second_pass base (postfix q) b in
    let last : SecondAt = second_pass base (postfix p) e in
    let later_guards : Guards = guards_of q v b.rows (later_gate j d.rows m) in
    let later : Passed base later_guards (earlier_gate j d.rows m ∷ gates) ns b e =
    g base v (lo + size p) (later_gate j d.rows m) (earlier_gate j d.rows m ∷ gates) ns b
    (record {
      numbered = h.numbered.1;
      its_event = omega (arith, h.its_event);
      low = h.low;
      its_gates = refl;
      its_needs = refl;
    }) in
    let earlier : Passed base (guards_of p u e.rows (earlier_gate j d.rows m)) gates needs e last =
    f base u lo (earlier_gate j d.rows m) gates needs e
    (record {
      numbered = h.numbered.0;
      its_event = omega (arith, h.its_event, later.wrote.its_event, records_length q v b.rows (later_gate j d.rows m));
      low = omega (arith, h.low, later.wrote.its_event);
      its_gates = later.its_gates;
      its_needs = later.its_needs;
    }) in
    let last_guards : Guards = guards_of p u (b.rows + length later_guards.words) (earlier_gate j d.rows m) in
    let w : Wrote base last_guards.words last_guards.records e last =
    subst (λ (k : ℕ). Wrote base (guards_of p u k (earlier_gate j d.rows m)).words (guards_of p u k (earlier_gate j d.rows m)).records e last)
    later.wrote.its_rows earlier.wrote in
    rw (
      foldr-append (second_step base) d (postfix p) (postfix q ++ (joint_code j ∷ [])),
      foldr-append (second_step base) d (postfix q) (joint_code j ∷ []),
      step_is base (joint_code j) m n gates ms d h.its_gates (h.its_needs ∙ needs_joined a.needs (plan_of q v).needs needs n),
      joint_went j base m n gates ms d,
    )
    record {
      wrote =
          rw (← append-nil (last_guards.records ++ later_guards.records))
          (wrote_then base (joint_words j m n) [] (later_guards.words ++ last_guards.words) (last_guards.records ++ later_guards.records) d b last h.low
          (record { its_rows = refl; its_event = omega arith; its_out = refl })
          (wrote_then base later_guards.words later_guards.records last_guards.words last_guards.records b e last h.low later.wrote w));
      its_gates = earlier.its_gates;
      its_needs = earlier.its_needs;
    }

-- The second pass over a process writes its guards and event records.
pub second_passed : (p : Process) → Passes p
unfolding postfix size Numbered fold guards_of put_rows
second_passed (event n l) = λ base u lo m gates needs d h.
    leaf_passed base Leaf m (record { later = u + 1; earlier = 0 }) gates needs _ d h.its_gates h.its_needs refl
    (record { its_rows = refl; its_event = omega (arith, h.its_event); its_out = refl })
second_passed (join j p q) = join_passes j p q (second_passed p) (second_passed q)
second_passed (again n l) = λ base u lo m gates needs d h.
    leaf_passed base Again m (record { later = 0; earlier = 0 }) gates needs _ d h.its_gates h.its_needs refl
    (record { its_rows = refl; its_event = omega (arith, h.its_event); its_out = refl })
second_passed (rounds p r l) = rounds_passes p r l (second_passed p)
