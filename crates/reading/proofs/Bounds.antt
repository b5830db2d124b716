-- Property 1, for reading.
use mathlib.Core.Path.{◌≡◌, sym, ◌∙◌, ap, subst}
use mathlib.Core.Logic.{⊎_elim}
use mathlib.Core.Bool.{Bool, true, false}
use mathlib.Core.List.{List, [], ◌∷◌, head-eq_of_cons-eq}
use Prim.Native.Nat.{ℕ, ◌+◌, ◌≤◌, ◌<◌}
use native.Mathlib.Omega.{arith}
use lib.Dec.{ltb}
use lib.ListN.{length, get_or, get_or-eq_default}
use lib.Seq.{drop-cons}
use borrow.Author.Tests.{ltb-true, ltb-false}
use Rattle.std.specs.Prelude.{Ok}
use Rattle.base.specs.Refusals.{number}
use Rattle.base.specs.Reports.{result as result_report}
use Rattle.diagram.specs.Tree.{Flow}
use Rattle.diagram.specs.Count.{flow_nodes, flow_copies, flow_events}
use Rattle.diagram.specs.TreeNodes.{TreeNode}
use Rattle.diagram.specs.declared.Diagram.{Diagram}
use Rattle.base.proofs.Truth.{cases}
use Rattle.tokens.specs.Spans.{places}
use Rattle.tokens.proofs.Spans.{tokens_length, places_length, places_below}
use Rattle.grammar.specs.Keys.{key_token, keyword_at, name_at}
use Rattle.reading.specs.Answers.{Read, read_of}
use Rattle.reading.specs.Reports.{report}
use Rattle.reading.specs.Shows.{Shows}
use Rattle.reading.specs.Refused.{Derived, Breaks, RefusedAt, by_size, by_byte, by_word, by_token, by_limit, by_name, by_parameter, by_solid, by_strong, by_count}
use Rattle.reading.specs.Bounds.{Bounded, result, refusal}
use Rattle.reading.proofs.Exact.{held, accepted_read, turned_away_exactly, Fate, taken, refused_at, fate}
use Rattle.reading.proofs.Shown.{accepted_shown}
use Rattle.reading.proofs.Placed.{read_placed, one_diagram}

-- Inside a list it does not matter what stands for what is past its end.
same_inside : (ps : List ℕ) (k none : ℕ) → k < length ps → get_or ps k 0 ≡ get_or ps k none
same_inside ps k none h = head-eq_of_cons-eq (sym (drop-cons ps k 0 h) ∙ drop-cons ps k none h)

-- A token's place is in the text, and what stands for no place is at most the text's length.
place_near : (text : List ℕ) (k none : ℕ) → none ≤ length text → get_or (places text) k none ≤ length text
place_near text k none h = ⊎_elim inside outside (cases (ltb k (length (places text))))
  where
    inside : ltb k (length (places text)) ≡ true → get_or (places text) k none ≤ length text
    inside q =
        let l : k < length (places text) = ltb-true k (length (places text)) q in
        let b = places_below text k (omega (arith, tokens_length text, places_length text)) in
        subst (λ (n : ℕ). n ≤ length text) (same_inside (places text) k none l) (omega arith)

    outside : ltb k (length (places text)) ≡ false → get_or (places text) k none ≤ length text
    outside q = rw (get_or-eq_default (places text) none (ltb-false k (length (places text)) q)) h

-- The numbers and places of the table.
pub record Near (text : List ℕ) (c at : ℕ) : Type 0 where
  pub low : 2 ≤ c
  pub high : c ≤ 11
  pub close : at ≤ 16384

near : (text : List ℕ) (c at : ℕ) (n : ℕ) → c ≡ n → 2 ≤ n → n ≤ 11 → at ≤ 16384 → Near text c at
near text c at n e l h k = record { low = omega arith; high = omega arith; close = k }

-- Where the nodes of a derived text stand.
named_near : (text : List ℕ) (d : Flow) (at i : ℕ) → Derived text d → at ≡ name_at text i → at ≤ 16384
unfolding name_at
named_near text d at i g e = omega (arith, g.size, place_near text (key_token text i + 2) 0 (omega arith))

broken_near : (text : List ℕ) (d : Flow) (at : ℕ) {fit : TreeNode → Bool} → Breaks text at d fit → at ≤ 16384
unfolding keyword_at
broken_near text d at b = omega (arith, b.derived.size, b.place, place_near text (key_token text b.node) 0 (omega arith))

pub refused_at_near : (text : List ℕ) (c at : ℕ) → RefusedAt text c at → Near text c at
refused_at_near text c at (by_size e h) = near text c at 2 e (omega arith) (omega arith) (omega (arith, h.place))
refused_at_near text c at (by_byte e h) = near text c at 3 e (omega arith) (omega arith) (omega (arith, h.inside, h.size))
refused_at_near text c at (by_word e h) =
    near text c at 4 e (omega arith) (omega arith) (omega (arith, h.place, h.size, place_near text h.token 0 (omega arith)))
refused_at_near text c at (by_token e h) =
    near text c at 5 e (omega arith) (omega arith) (omega (arith, h.place, h.clean.size, place_near text h.token (length text) (omega arith)))
refused_at_near text c at (by_limit e h) =
    near text c at 6 e (omega arith) (omega arith) (omega (arith, h.place, h.clean.size, place_near text h.token (length text) (omega arith)))
refused_at_near text c at (by_name e d h) = near text c at 7 e (omega arith) (omega arith) (named_near text d at h.node h.derived h.place)
refused_at_near text c at (by_parameter e d h) = near text c at 8 e (omega arith) (omega arith) (broken_near text d at h.broken)
refused_at_near text c at (by_solid e d h) = near text c at 9 e (omega arith) (omega arith) (broken_near text d at h.broken)
refused_at_near text c at (by_strong e d h) = near text c at 10 e (omega arith) (omega arith) (broken_near text d at h.broken)
refused_at_near text c at (by_count e d h) = near text c at 11 e (omega arith) (omega arith) (omega (arith, h.place))

-- "Every answer is a result within the limits or one numbered refusal with its place."
pub read_bounded : (text : List ℕ) → Bounded text (read_of text)
read_bounded text = go (fate text)
  where
    counts : (d : Flow) → Shows text d (held text d) → read_of text ≡ Ok (held text d)
        → report (read_of text) ≡ result_report (flow_nodes d ∷ flow_copies d ∷ flow_events d ∷ [])
    counts d s e = rw (e, s.count, s.copies, s.events)

    go : Fate text → Bounded text (read_of text)
    go (taken d a) =
        let e = accepted_read text d a in
        let s = accepted_shown text d a e in
        result
        record {
          tree = d;
          limits = a;
          reported = counts d s e;
          diagram = held text d;
          done = e;
          shown = s;
          placed = read_placed text d a e;
        }
    go (refused_at c at t) =
        let n = refused_at_near text (number c) at t in
        let e = (turned_away_exactly text c at).1 t in
        refusal record { reason = c; place = at; why = t; reported = ap report e; is = e; low = n.low; high = n.high; near = n.close }

-- And there is no other: the text alone says whether it is read, with which diagram, and else the number and the place.
pub one_answer : (text : List ℕ) (o : Read) → Bounded text o → o ≡ read_of text
one_answer text o (result r) =
    let d = r.tree in
    let a = r.limits in
    let e = accepted_read text d a in
    r.done
    ∙ ap (λ (g : Diagram). Ok g) (one_diagram text d r.diagram (held text d) r.shown r.placed (accepted_shown text d a e) (read_placed text d a e))
    ∙ sym e
one_answer text o (refusal r) = r.is ∙ sym ((turned_away_exactly text r.reason r.place).1 r.why)
