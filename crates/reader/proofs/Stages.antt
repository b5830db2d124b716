-- How the walk and the scans lead to the answer.
use mathlib.Core.Path.{◌≡◌, refl, sym, ◌∙◌, ap}
use mathlib.Core.Bool.{Bool, true, false, cond}
use mathlib.Core.List.{List, []}
use Prim.Native.Nat.{ℕ, ◌≤◌, ◌<◌}
use native.Mathlib.Omega.{arith}
use lib.Dec.{ltb}
use lib.ListN.{length, get_or, replicate}
use borrow.Author.Tests.{lt-ltb, le-ltb}
use Rattle.std.specs.Prelude.{Ok, Err}
use Rattle.base.specs.Refusals.{refusal}
use Rattle.base.specs.declared.Reason.TheVariants.{Text, Byte, Word}
use Rattle.base.specs.declared.Refusal.{Refusal}
use Rattle.diagram.specs.TreeNodes.{own, nodes_by}
use Rattle.diagram.specs.declared.Diagram.{Diagram}
use Rattle.diagram.proofs.Mapped.{nodes_counted}
use Rattle.tokens.specs.Words.{keywords}
use Rattle.tokens.specs.Spans.{spans_of, places}
use Rattle.tokens.specs.Token.{text_tokens}
use Rattle.tokens.specs.Scanned.{first_foreign, first_long, scan_of}
use Rattle.grammar.specs.Machine as Machine
use Rattle.grammar.specs.Machine.{Outcome, outcome}
use Rattle.walked.specs.Walk.{State, state, blank_row, whole, stop, ending, unwritten, placed_by}
use Rattle.walked.specs.declared.Row.{Row}
use Rattle.walked.specs.code.Readers.{told as told_as}
use Rattle.walked.proofs.Located.{ends_as}
use Rattle.walked.proofs.Told.{told}
use Rattle.walked.proofs.Deep.{nested}
use Rattle.rules.specs.Judged.{Verdict, verdict}
use Rattle.rules.specs.declared.Counts.{Counts}
use Rattle.reading.specs.Nodes.{stored}
use Rattle.reading.specs.Answers.{Read, judged, parsed, scanned, read_of}
use Rattle.reading.proofs.Verdicts.{tree_judged}
use Rattle.reading.proofs.Derived.{whole_derived, derived_answer}
use Rattle.reader.specs.code.Stages.{turned_away, Walked}

-- A text over the limit.
pub long_text : (text : List ℕ) → 16384 < length text → {r : Refusal} → r ≡ refusal Text 16384 → Err r ≡ read_of text
unfolding read_of scan_of
long_text text h e = rw (e, lt-ltb 16384 (length text) h)

abbrev blank_rows : List Row
blank_rows = replicate 257 blank_row

-- Where the walk stops, numbers 3 and 4 come first.
by_scan : (text : List ℕ) (r : Refusal) → ending text blank_rows ≡ stop r.reason r.place → (a b : Bool) (f l n : ℕ)
    → Err (cond a (refusal Byte f) (cond b (refusal Word l) r)) ≡ scanned text (cond a (Err (refusal Byte f)) (cond b (Err (refusal Word l)) (Ok n)))
by_scan text r e true b f l n = refl
by_scan text r e false true f l n = refl
by_scan text r e false false f l n = sym (ap (parsed text) e)

stopped : (text : List ℕ) (r : Refusal) → length text ≤ 16384 → ending text blank_rows ≡ stop r.reason r.place → Err (turned_away text r) ≡ read_of text
unfolding read_of scan_of turned_away
stopped text r h e =
    let l = first_long (spans_of text) (length text) in
    by_scan text r e (ltb (first_foreign text) (length text)) (ltb l (length text)) (first_foreign text) l (length (spans_of text))
    ∙ sym (rw (le-ltb 16384 (length text) h))

whole_outcome : (text : List ℕ) (n : ℕ) (o : Outcome) → Machine.whole n ≡ placed_by (λ j. get_or (places text) j (length text)) o → o ≡ Machine.whole n
whole_outcome text n (Machine.whole m) e = sym e
whole_outcome text n (Machine.stop c j) e = let z : ◌≡◌ {A = ℕ} 0 1 = cc in let w : ⊥ = omega arith in absurd w

pub walked : (text : List ℕ) (n : ℕ) (st : State) → length text ≤ 16384 → ending text blank_rows ≡ whole n st → Walked text n st.rows
walked text n st h e =
    let o = whole_outcome text n (outcome (text_tokens keywords text)) (sym (ap unwritten e) ∙ ends_as text blank_rows) in
    let r = whole_derived text n h o in
    let d = r.0 in
    let t = told text d r.1.derives r.1.nodes r.1.depth n st e in
    record {
      nodes = nodes_by own d;
      count = sym t.count;
      few = let c = t.count in let m = nodes_counted own d in omega (arith, r.1.nodes);
      told = t.nodes;
      deep = nested d r.1.depth;
      answer = derived_answer text d r.1 ∙ ap (judged text (nodes_by own d)) (sym (tree_judged text d));
    }

-- By the answer of the walk.
module _ (text : List ℕ) (rows : List Row) (h : length text ≤ 16384) where
  pub walk_refused : {x y : Refusal} → ending text blank_rows ≡ told_as (Err x) rows → y ≡ turned_away text x → Err y ≡ read_of text
  walk_refused {x} e q = ap (λ (z : Refusal). Err z) q ∙ stopped text x h e

  pub walk_whole : {n : ℕ} → ending text blank_rows ≡ told_as (Ok n) rows → Walked text n rows
  walk_whole {n} e = walked text n (state rows []) h e

-- By the answer of the sweeps.
module _ {text : List ℕ} {rows : List Row} {n : ℕ} (w : Walked text n rows) {v : Verdict} (q : v ≡ verdict text w.nodes) where
  pub judged_refused : {x : Refusal} {r : Read} → v ≡ Err x → r ≡ Err x → r ≡ read_of text
  judged_refused e p = p ∙ sym (w.answer ∙ ap (judged text w.nodes) (sym q ∙ e))

  pub judged_kept : {c : Counts} → v ≡ Ok c → {d : Diagram} → d ≡ stored text w.nodes c.copies c.events → Ok d ≡ read_of text
  judged_kept e {d} p = ap (λ (d : Diagram). Ok d) p ∙ sym (w.answer ∙ ap (judged text w.nodes) (sym q ∙ e))
