-- The answers of the calls, case by case.
use mathlib.Core.Path.{◌≡◌, refl, sym, ap}
use mathlib.Core.Bool.{true, false}
use mathlib.Core.List.{List}
use Prim.Native.Nat.{ℕ, ◌≤◌, ◌<◌}
use native.Mathlib.Omega.{arith}
use lib.ListN.{length}
use Rattle.std.specs.Prelude.{Result, Ok, Err}
use Rattle.base.specs.Refusals.{number, refusal}
use Rattle.base.specs.declared.Reason.{Reason}
use Rattle.base.specs.declared.Refusal.{Refusal}
use Rattle.diagram.specs.Tree.{Flow}
use Rattle.diagram.specs.Count.{flow_events}
use Rattle.diagram.specs.declared.Diagram.{Diagram}
use Rattle.reading.specs.Answers.{read_of}
use Rattle.reading.specs.Shows.{Shows}
use Rattle.reading.proofs.Exact.{accepted_exactly, turned_away_exactly, done_refused}
use Rattle.reading.proofs.Shown.{accepted_shown}
use Rattle.output.specs.Buffer.{buffer, put_all}
use Rattle.output.proofs.Buffers.{whole}
use Rattle.profile.specs.code.Profiles.{outside_of}
use Rattle.modelling.specs.Texts.{event_text, opening_text}
use Rattle.modelling.proofs.Guarded.{guards_right}
use Rattle.modelling.proofs.Machines.{event_fits, opening_fits}
use Rattle.modelling.specs.Reports.{report}
use Rattle.modelling.specs.Answers.{Answered, refused, outside, inside, Filled, no_event, event, EventAnswer, OpeningAnswer}
use Rattle.machines.specs.code.Drawn.{Drawn, Admission, unread, outside as outside_profiled, inside as admitted}
use Rattle.machines.proofs.Drawn.{outside_profile, inside_profile, its_shown}

-- Bytes that were written from the front on, and fit.
filled : (text lent left : List ℕ) (r : ℕ) → buffer r left ≡ put_all text (buffer 0 lent) → length text ≤ 65536 → 65536 ≤ length lent → Filled text lent (Ok r) left
filled text lent left r q h long =
    let w = whole text lent left r q (omega arith) in
    record { its_count = ap (λ (n : ℕ). report (Ok n)) w.0; its_bytes = w.1; enough = h }

-- ---- whether a text has a machine
module _ (text : List ℕ) where
  -- A refused text.
  pub unread_admission : (r : Refusal) → read_of text ≡ Err r → Admission text (Err r)
  unread_admission r q = unread r ((turned_away_exactly text r.reason r.place).0 q) refl

  module _ (g : Diagram) (q : read_of text ≡ Ok g) where
    -- A diagram outside the profile, and one in it.
    pub outside_admission : outside_of g ≡ true → Admission text (Err (refusal Reason.Profile 0))
    outside_admission h =
        let (d, b) = (accepted_exactly text).0 (g, q) in
        outside_profiled d b (outside_profile text d g (accepted_shown text d b q) h) refl

    pub inside_admission : outside_of g ≡ false → Admission text (Ok g)
    inside_admission h =
        let (d, b) = (accepted_exactly text).0 (g, q) in
        admitted g record { tree = d; accepted = b; profile = inside_profile text d g (accepted_shown text d b q) h; its_diagram = q } refl

-- What is known of a text by the answer.
pub drawn_by : (text : List ℕ) (g : Diagram) → Admission text (Ok g) → Drawn text g
drawn_by text g (unread r t q) = done_refused q
drawn_by text g (outside_profiled d b o q) = done_refused q
drawn_by text g (admitted h k q) = let e : h ≡ g = cc in rw (← e) k

-- ---- the answers
same_refusal : {r w : Refusal} → ◌≡◌ {A = Result Diagram Refusal} (Err r) (Err w) → report (Err r) ≡ report (Err w)
same_refusal {r} {w} q = let e : r ≡ w = cc in ap (λ (x : Refusal). report (Err x)) e

module _ (text lent left : List ℕ) (long : 65536 ≤ length lent) where
  pub turned_away : (Of : Flow → Type 0) (r : Refusal) → Admission text (Err r) → left ≡ lent → Answered text lent (Err r) left Of
  turned_away Of r (unread w t q) u = refused (number w.reason) w.place long t (same_refusal q) u
  turned_away Of r (outside_profiled d b o q) u = outside d long b o (same_refusal q) u
  turned_away Of r (admitted g k q) u = done_refused (sym q)

  module _ (g : Diagram) (k : Drawn text g) where
    shown : Shows text k.tree g
    shown = its_shown text g k

    pub past_answer : (e : ℕ) → g.events ≤ e → left ≡ lent → EventAnswer text e lent (Err (refusal Reason.Event 0)) left
    past_answer e l q = inside k.tree long k.accepted k.profile (no_event (omega (arith, shown.events)) refl q)

    pub event_answer : (e r : ℕ) → e < g.events → ((j : Drawn text g) → buffer r left ≡ put_all (event_text j.tree e) (buffer 0 lent))
        → EventAnswer text e lent (Ok r) left
    event_answer e r l w =
        let d = k.tree in
        let a = k.accepted in
        let below : e < flow_events d = omega (arith, shown.events) in
        inside d long a k.profile
        (event below (filled (event_text d e) lent left r (w k) (event_fits text d a k.profile e below) long) (guards_right text d a e below))

    pub opening_answer : (r : ℕ) → ((j : Drawn text g) → buffer r left ≡ put_all (opening_text j.tree) (buffer 0 lent)) → OpeningAnswer text lent (Ok r) left
    opening_answer r w =
        let d = k.tree in
        let a = k.accepted in
        inside d long a k.profile (filled (opening_text d) lent left r (w k) (opening_fits text d a k.profile) long)
