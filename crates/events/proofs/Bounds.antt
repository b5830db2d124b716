-- Property 1 for names, values and listings, and that a call has one answer.
use mathlib.Core.Path.{◌≡◌, refl, sym, ap, ◌∙◌}
use mathlib.Core.Logic.{◌⊎◌, inl, inr, ⊎_elim}
use mathlib.Core.Bool.{Bool, true, false, cond}
use mathlib.Core.List.{List, [], ◌∷◌}
use Prim.Native.Nat.{ℕ, zero, suc, ◌+◌, ◌≤◌, ◌<◌}
use native.Mathlib.Omega.{arith}
use denote.Ref.{Bor}
use lib.Dec.{ltb}
use lib.ListN.{length, get_or, take, drop, length-drop, length-take}
use lib.Seq.{length-take-le}
use borrow.Author.Tests.{ltb-true, ltb-false, lt-ltb, le-ltb}
use Rattle.std.specs.Prelude.{Result, Ok, Err}
use Rattle.base.specs.Fill.{fill}
use Rattle.base.specs.Refusals.{number, refusal as refusal_at}
use Rattle.base.specs.declared.Reason.{Reason as Why}
use Rattle.base.specs.declared.Refusal.{Refusal}
use Rattle.base.specs.Reports.{result as result_report, refusal as refusal_report}
use Rattle.base.proofs.Filled.{fill_length, fill_past}
use Rattle.base.proofs.Reports.{refusal_told, result_told}
use Rattle.base.proofs.Truth.{by_cases}
use Rattle.diagram.specs.Count.{flow_events}
use Rattle.process.specs.Process.{Event, event_of}
use Rattle.process.specs.Expand.{expand}
use Rattle.labels.specs.Values.{values, packed}
use Rattle.labels.specs.declared.Values.{Values}
use Rattle.labels.proofs.OnePlace.{one_place}
use Rattle.reading.specs.Reading.{Reading, drawing, no_drawing}
use Rattle.events.specs.Labels.{label, label_of, Valued}
use Rattle.events.specs.Names.{name_of, Placed, Named}
use Rattle.events.specs.Listing.{listing, Listed}
use Rattle.events.specs.Reports.{marked, event_marked, label_marked, report}
use Rattle.events.specs.Bounds.{NameBounded, Within, Reason, unread, no_event, ValuesBounded, result, refusal, ListBounded}
use Rattle.events.specs.declared.Label.{Label}
use Rattle.events.specs.declared.Label.TheVariants.{Leaf, Reset}
use Rattle.reading.proofs.Bounds.{refused_at_near}
use Rattle.reading.proofs.Exact.{refused_at_read}
use Rattle.reading.proofs.Reading.{Same, same_drawing, same_no_drawing, one_reading}
use Rattle.events.proofs.OneListing.{one_listing}
use Rattle.events.proofs.Short.{Each, Small, Short}
use Rattle.events.proofs.ListingFits.{listing_short}
use Rattle.events.proofs.Answers.{short_at}

-- The listing.
pub list_bounded : (text lent : List ℕ) (r : ℕ) (left : List ℕ) → Listed text lent r left → ListBounded lent r left
list_bounded text lent r left h =
    let n = h.its_count in
    let few = listing_short h.reading in
    record {
      few = omega arith;
      length_stays = ap length h.its_bytes ∙ fill_length lent (listing h.reading);
      past = rw (n, h.its_bytes) (fill_past lent (listing h.reading));
    }

-- As a caller takes the bytes that were written.
pub list_room : (text lent : List ℕ) (r : ℕ) (left : List ℕ) → Listed text lent r left → length lent ≡ 32768 → (r ≤ length left) × (r ≡ length (take r left))
list_room text lent r left h m =
    let b = list_bounded text lent r left h in
    let few = b.few in
    let stays = b.length_stays in
    let l : r ≤ length left = omega arith in
    (l, sym (length-take-le r left l))

-- The values.
value_small : (vs : List ℕ) (i : ℕ) → Each Small vs → get_or vs i 0 < 16
value_small [] i h = omega arith
value_small (v ∷ vs) zero h = h.0
value_small (v ∷ vs) (suc i) h = value_small vs i h.1

packed_within : (l : Event) → Short l → Within (packed l.values)
packed_within l s = record {
  few = s.few;
  first_small = value_small l.values 0 s.small;
  second_small = value_small l.values 1 s.small;
  third_small = value_small l.values 2 s.small;
}

label_report : (l : Event) → report (Ok (label l)) ≡ result_report (event_marked l)
label_report l = by_cases l.reset (λ t. rw t) (λ t. rw t)

reading_bounded : {text : List ℕ} (w : Reading text) (e : ℕ) (r : Result Label Refusal) → r ≡ label_of w e → ValuesBounded text e r
unfolding label_of
reading_bounded {text} (drawing d a) e r q =
    by_cases (ltb e (flow_events d))
    (λ t.
    let h = ltb-true e (flow_events d) t in
    let l = event_of (expand d) e in
    let its : r ≡ Ok (label l) = q ∙ rw t in
    result record { tree = d; limits = a; below = h; reported = ap report its ∙ label_report l; within = packed_within l (short_at text d a e h) })
    (λ t.
    let its : r ≡ Err (refusal_at Why.Event 0) = q ∙ rw t in
    refusal
    record {
      number = 14;
      place = 0;
      why = no_event d a (ltb-false e (flow_events d) t) refl refl;
      reported = ap report its;
      one_of = inr refl;
      near = omega arith;
    })
reading_bounded {text} (no_drawing reason place h) e r q =
    let n = refused_at_near text (number reason) place h in
    refusal
    record {
      number = number reason;
      place = place;
      why = unread h;
      reported = ap report q;
      one_of = inl (n.low, n.high);
      near = n.close;
    }

pub values_bounded : (text : List ℕ) (e : ℕ) (r : Result Label Refusal) → Valued text e r → ValuesBounded text e r
values_bounded text e r v = reading_bounded v.reading e r v.its_label

-- What an answer says tells the answer.
same_values : (m n : ℕ) (v w : Values) → marked m v ≡ marked n w → (m ≡ n) × (v ≡ w)
same_values m n v w e =
    let a : m ≡ n = cc in
    let b : v.count ≡ w.count = cc in
    let c : v.first ≡ w.first = cc in
    let d : v.second ≡ w.second = cc in
    let f : v.third ≡ w.third = cc in
    let q : values v.count v.first v.second v.third ≡ values w.count w.first w.second w.third = rw (b, c, d, f) in
    (a, q)

leaf_reported : (v w : Values) (b : Bool) → marked 0 v ≡ marked (cond b 1 0) w → Leaf v ≡ cond b (Reset w) (Leaf w)
leaf_reported v w true e = let n = (same_values 0 1 v w e).0 in let z : ⊥ = omega arith in absurd z
leaf_reported v w false e = ap Leaf (same_values 0 0 v w e).1

reset_reported : (v w : Values) (b : Bool) → marked 1 v ≡ marked (cond b 1 0) w → Reset v ≡ cond b (Reset w) (Leaf w)
reset_reported v w true e = ap Reset (same_values 1 1 v w e).1
reset_reported v w false e = let n = (same_values 1 0 v w e).0 in let z : ⊥ = omega arith in absurd z

label_reported : (r : Label) (l : Event) → label_marked r ≡ event_marked l → r ≡ label l
label_reported (Leaf v) l e = leaf_reported v (packed l.values) l.reset e
label_reported (Reset v) l e = reset_reported v (packed l.values) l.reset e

event_reported : (r : Result Label Refusal) (l : Event) → report r ≡ result_report (event_marked l) → r ≡ Ok (label l)
event_reported r l e = let (a, is, v) = result_told label_marked r (event_marked l) e in is ∙ ap Ok (label_reported a l v)

-- And there is no other: the relation says all that the contract of `events::values` says.
refusal_valued : (text : List ℕ) (e : ℕ) (r : Result Label Refusal) (c k : ℕ) → report r ≡ refusal_report c k → Reason text e c k → Valued text e r
unfolding label_of
refusal_valued text e r c k q (unread t) =
    let w = refused_at_read text c k t in
    record { reading = no_drawing w.reason k (rw w.its_number t); its_label = refusal_told label_marked r w.reason k (rw w.its_number q) }
refusal_valued text e r c k q (no_event d a h x y) =
    record { reading = drawing d a; its_label = refusal_told label_marked r Why.Event 0 (rw (x, y) at q) ∙ rw (le-ltb e (flow_events d) h) }

pub one_values : (text : List ℕ) (e : ℕ) (r : Result Label Refusal) → ValuesBounded text e r → Valued text e r
unfolding label_of
one_values text e r (result v) =
    record {
      reading = drawing v.tree v.limits;
      its_label = event_reported r (event_of (expand v.tree) e) v.reported ∙ rw (lt-ltb e (flow_events v.tree) v.below);
    }
one_values text e r (refusal v) = refusal_valued text e r v.number v.place v.reported v.why

-- The name.
name_short : {text : List ℕ} (w : Reading text) (e : ℕ) → length (name_of w e) ≤ 24
unfolding name_of
name_short {text} (drawing d a) e =
    by_cases (ltb e (flow_events d))
    (λ t. rw t (short_at text d a e (ltb-true e (flow_events d) t)).name)
    (λ t. rw t (omega arith))
name_short {text} (no_drawing reason place h) e = omega arith

-- It has a byte, or stands at the text's begin.
name_near : {text : List ℕ} (w : Reading text) (e place : ℕ) → Placed w e place → (1 ≤ length (name_of w e)) ⊎ (place ≡ 0)
unfolding name_of Placed
name_near {text} (drawing d a) e place p =
    by_cases (ltb e (flow_events d))
    (λ t. inl (rw t (short_at text d a e (ltb-true e (flow_events d) t)).some))
    (λ t. inr (p.1 (ltb-false e (flow_events d) t)))
name_near {text} (no_drawing reason at h) e place p = inr p

pub name_bounded : (text : Bor (List ℕ)) (e : ℕ) (r : Bor (List ℕ)) → Named text e r → NameBounded text r
name_bounded text e r n =
    let k = ap length n.its_name in
    let m = ap length n.its_part.its_bytes ∙ length-take (length (name_of n.reading e)) (drop n.place text.now) in
    let l = length-drop n.place text.now in
    record {
      short = rw k (name_short n.reading e);
      place = n.place;
      inside = ⊎_elim (λ h. omega arith) (λ h. omega arith) (name_near n.reading e n.place n.its_place);
      its_part = rw k n.its_part;
    }

-- One answer, whatever the reading.
same_label : {text : List ℕ} {v w : Reading text} (e : ℕ) → Same v w → label_of v e ≡ label_of w e
unfolding label_of
same_label e (same_drawing d a b) = refl
same_label e (same_no_drawing n p r s) = refl

same_name : {text : List ℕ} {v w : Reading text} (e : ℕ) → Same v w → name_of v e ≡ name_of w e
unfolding name_of
same_name e (same_drawing d a b) = refl
same_name e (same_no_drawing n p r s) = refl

pub one_label : (text : List ℕ) (e : ℕ) (r s : Result Label Refusal) → Valued text e r → Valued text e s → r ≡ s
one_label text e r s v w = v.its_label ∙ (same_label e (one_reading v.reading w.reading) ∙ sym w.its_label)

same_place : {text : List ℕ} {v w : Reading text} (e p q : ℕ) → Same v w → Placed v e p → Placed w e q → p ≡ q
unfolding Placed
same_place {text} e p q (same_drawing d a b) x y =
    by_cases (ltb e (flow_events d))
    (λ t. let l = ltb-true e (flow_events d) t in one_place text d a (event_of (expand d) e).name p q (x.0 l) (y.0 l))
    (λ t. let l = ltb-false e (flow_events d) t in x.1 l ∙ sym (y.1 l))
same_place e p q (same_no_drawing n k r s) x y = x ∙ sym y

-- A name's bytes, and its address.
pub one_name : (text : Bor (List ℕ)) (e : ℕ) (r s : Bor (List ℕ)) → Named text e r → Named text e s
    → (r.now ≡ s.now) × ((r.ref_ptr.0 ≡ s.ref_ptr.0) × (r.ref_ptr.1 ≡ s.ref_ptr.1))
one_name text e r s v w =
    let o = one_reading v.reading w.reading in
    let here = same_place e v.place w.place o v.its_place w.its_place in (
      v.its_name ∙ (same_name e o ∙ sym w.its_name),
      (
        v.its_part.its_block ∙ sym w.its_part.its_block,
        v.its_part.its_offset ∙ (ap (λ (k : ℕ). text.ref_ptr.1 + k) here ∙ sym w.its_part.its_offset),
      ),
    )

pub one_list : (text lent : List ℕ) (m n : ℕ) (left other : List ℕ) → Listed text lent m left → Listed text lent n other → (m ≡ n) × (left ≡ other)
one_list text lent m n left other v w =
    let q = one_listing v.reading w.reading in
    (v.its_count ∙ (ap length q ∙ sym w.its_count), v.its_bytes ∙ (ap (fill lent) q ∙ sym w.its_bytes))
