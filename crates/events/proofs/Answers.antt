-- What the calls answer for a drawing, by what each event number stands for.
use mathlib.Core.Path.{◌≡◌, refl, sym, ap, ◌∙◌}
use mathlib.Core.Bool.{true, false}
use mathlib.Core.List.{List, []}
use Prim.Native.Nat.{ℕ, ◌≤◌, ◌<◌}
use native.Mathlib.Omega.{arith}
use denote.Ref.{Bor}
use lib.Dec.{ltb}
use lib.ListN.{length}
use borrow.Author.Tests.{ltb-true, ltb-false, lt-ltb, le-ltb}
use Rattle.std.specs.Prelude.{Result, Ok, Err, Option, Some, None}
use Rattle.base.specs.Fill.{fill}
use Rattle.base.specs.Refusals.{number, refusal}
use Rattle.base.specs.declared.Reason.TheVariants as Reason
use Rattle.base.specs.declared.Refusal.{Refusal}
use Rattle.base.proofs.Truth.{by_cases}
use Rattle.diagram.specs.Tree.{Flow}
use Rattle.diagram.specs.Count.{flow_events}
use Rattle.diagram.specs.declared.Diagram.{Diagram}
use Rattle.tokens.specs.Parts.{Part, Word}
use Rattle.tokens.proofs.WordAt.{word_within}
use Rattle.reading.specs.Answers.{read_of}
use Rattle.reading.specs.Accepted.{Accepted}
use Rattle.reading.specs.Shows.{Shows}
use Rattle.reading.proofs.Exact.{accepted_exactly, turned_away_exactly}
use Rattle.reading.proofs.Shown.{accepted_shown}
use Rattle.process.specs.Process.{Event, event_of, events}
use Rattle.process.specs.Expand.{expand}
use Rattle.process.proofs.Events.{events_counted, event_in_order}
use Rattle.output.specs.Buffer.{Buffer, buffer, put_all}
use Rattle.output.proofs.Buffers.{put_all_fill}
use Rattle.labels.specs.Values.{packed}
use Rattle.labels.specs.Stands.{Stands}
use Rattle.labels.specs.Seeks.{spot_of}
use Rattle.labels.specs.declared.Spot.{Spot}
use Rattle.labels.proofs.SearchByTree.{Labels, nothing}
use Rattle.labels.proofs.SearchByText.{spot_labelled, unlabelled}
use Rattle.reading.specs.Reading.{Reading, drawing, no_drawing}
use Rattle.events.specs.Labels.{label, label_of, Valued}
use Rattle.events.specs.Names.{name_of, Placed, Named}
use Rattle.events.specs.Listing.{drawing_listing, listing, Listed}
use Rattle.output.specs.Lines.{refused_line}
use Rattle.lines.specs.code.Walks.{walked_listing}
use Rattle.listed.proofs.Trees.{listing_walked}
use Rattle.events.specs.declared.Label.{Label}
use Rattle.events.specs.declared.Label.TheVariants.{Leaf, Reset}
use Rattle.events.proofs.Short.{Short, each_at, events_short}
use Rattle.events.proofs.ListingFits.{listing_short}

-- A text that was read is a drawing.
pub record Drawn (text : List ℕ) (g : Diagram) : Type 0 where
  pub tree : Flow
  pub its_limits : Accepted text tree
  pub shown : Shows text tree g
  -- an event below E stands at a spot, and no other
  pub its_spot : (e : ℕ) → e < flow_events tree → (s : Spot) × (spot_of g e ≡ Some s) × Labels (Stands text) (event_of (expand tree) e) s
  pub no_spot : (e : ℕ) → flow_events tree ≤ e → spot_of g e ≡ None

pub drawn : (text : List ℕ) (g : Diagram) → read_of text ≡ Ok g → Drawn text g
drawn text g q =
    let (d, a) = (accepted_exactly text).0 (g, q) in
    record { tree = d; its_limits = a; shown = accepted_shown text d a q; its_spot = spot_labelled text d a q; no_spot = unlabelled text d a q }

-- An event that stands at a spot is below E, and the other way round.
module _ (text : List ℕ) (g : Diagram) (k : Drawn text g) (e : ℕ) where
  pub there : (s : Spot) → spot_of g e ≡ Some s → (e < flow_events k.tree) × Labels (Stands text) (event_of (expand k.tree) e) s
  there s q =
      by_cases (ltb e (flow_events k.tree))
      (λ t. let l = ltb-true e (flow_events k.tree) t in
      let (p, is, n) = k.its_spot e l in
      let same : p ≡ s = cc in (l, rw (← same) n))
      (λ t. let z : ◌≡◌ {A = Option Spot} None (Some s) = sym (k.no_spot e (ltb-false e (flow_events k.tree) t)) ∙ q in let y : ⊥ = cc in absurd y)

  pub past : spot_of g e ≡ None → flow_events k.tree ≤ e
  past q =
      by_cases (ltb e (flow_events k.tree))
      (λ t. let (p, is, n) = k.its_spot e (ltb-true e (flow_events k.tree) t) in
      let z : ◌≡◌ {A = Option Spot} (Some p) None = sym is ∙ q in let y : ⊥ = cc in absurd y)
      (λ t. ltb-false e (flow_events k.tree) t)

-- A text that was turned away.
abbrev pub turned_away : (text : List ℕ) (r : Refusal) → read_of text ≡ Err r → Reading text
turned_away text r q = no_drawing r.reason r.place ((turned_away_exactly text r.reason r.place).0 q)

-- The values call.
module _ (text : List ℕ) (g : Diagram) (q : read_of text ≡ Ok g) (e : ℕ) where
  pub valued_past : spot_of g e ≡ None → Valued text e (Err (refusal Reason.Event 0))
  unfolding label_of
  valued_past n =
      let d = drawn text g q in
      record { reading = drawing d.tree d.its_limits; its_label = rw (le-ltb e (flow_events d.tree) (past text g d e n)) }

  module _ (s : Spot) (is : spot_of g e ≡ Some s) (l : Label) (its : (v : Event) → s.reset ≡ v.reset → s.values ≡ packed v.values → l ≡ label v) where
    pub valued_there : Valued text e (Ok l)
    unfolding label_of
    valued_there =
        let d = drawn text g q in
        let (h, n) = there text g d e s is in
        record { reading = drawing d.tree d.its_limits; its_label = rw (lt-ltb e (flow_events d.tree) h) (ap Ok (its (event_of (expand d.tree) e) n.mark n.its_values)) }

  module _ (s : Spot) (is : spot_of g e ≡ Some s) where
    pub valued_reset : s.reset ≡ true → Valued text e (Ok (Reset s.values))
    valued_reset b = valued_there s is (Reset s.values) (λ v r w. rw (sym r ∙ b, w))

    pub valued_leaf : s.reset ≡ false → Valued text e (Ok (Leaf s.values))
    valued_leaf b = valued_there s is (Leaf s.values) (λ v r w. rw (sym r ∙ b, w))

pub valued_refused : (text : List ℕ) (e : ℕ) (w : Refusal) (r : Result Label Refusal) → read_of text ≡ Err w → r ≡ Err w → Valued text e r
unfolding label_of
valued_refused text e w r q h = record { reading = turned_away text w q; its_label = h }

-- The name call. A name is not empty, so it stands inside the text.
pub short_at : (text : List ℕ) (d : Flow) → Accepted text d → (e : ℕ) → e < flow_events d → Short (event_of (expand d) e)
short_at text d a e h =
    let n = events_counted d a.keeps.sizes in
    rw (event_in_order d a.keeps.sizes e nothing h) (each_at Short (events (expand d)) e nothing (events_short text d a) (omega arith))

pub named_refused : (text r : Bor (List ℕ)) (e : ℕ) (w : Refusal) → read_of text.now ≡ Err w → Part text r 0 0 → r.now ≡ [] → Named text e r
unfolding name_of Placed
named_refused text r e w q p n = record { reading = turned_away text.now w q; its_name = n; place = 0; its_place = refl; its_part = p }

pub named_past : (text r : Bor (List ℕ)) (g : Diagram) (e : ℕ) → read_of text.now ≡ Ok g → spot_of g e ≡ None → Part text r 0 0 → r.now ≡ [] → Named text e r
unfolding name_of Placed
named_past text r g e q l p n =
    let d = drawn text.now g q in
    let h = past text.now g d e l in
    let none : name_of (drawing d.tree d.its_limits) e ≡ [] = rw (le-ltb e (flow_events d.tree) h) in
    record {
      reading = drawing d.tree d.its_limits;
      its_name = n ∙ sym none;
      place = 0;
      its_place = (λ g. let z : ⊥ = omega arith in absurd z, λ g. refl);
      its_part = rw none p;
    }

pub named_some : (text r : Bor (List ℕ)) (g : Diagram) (e : ℕ) (s : Spot) → read_of text.now ≡ Ok g → spot_of g e ≡ Some s → Word text s.place r → Named text e r
unfolding name_of Placed
named_some text r g e s q l w =
    let d = drawn text.now g q in
    let (less, n) = there text.now g d e s l in
    let name = (event_of (expand d.tree) e).name in
    let stands : Stands text.now name s.place = n.named in
    let some = (short_at text.now d.tree d.its_limits e less).some in
    let named : name_of (drawing d.tree d.its_limits) e ≡ name = rw (lt-ltb e (flow_events d.tree) less) in
    record {
      reading = drawing d.tree d.its_limits;
      its_name = w.its_word ∙ (stands.its_name ∙ sym named);
      place = s.place;
      its_place = (λ x. stands, λ x. let z : ⊥ = omega arith in absurd z);
      its_part =
          rw (named, ← stands.its_name)
          (w.inside (word_within text.now s.place name stands.its_name some));
    }

-- The listing: what is written, where it fits.
listed : (text lent left : List ℕ) (w : Reading text) (bs : List ℕ) (r : ℕ) → bs ≡ listing w → length lent ≡ 32768
    → buffer r left ≡ put_all bs (buffer 0 lent) → Listed text lent r left
listed text lent left w bs r e m h =
    let q = h ∙ put_all_fill bs lent (rw (e, m) (listing_short w)) in
    record {
      reading = w;
      its_count = ap (λ (b : Buffer). b.at) q ∙ ap length e;
      its_bytes = ap (λ (b : Buffer). b.bytes) q ∙ ap (fill lent) e;
    }

pub listed_drawn : (text lent left : List ℕ) (g : Diagram) (r : ℕ) → read_of text ≡ Ok g → length lent ≡ 32768
    → buffer r left ≡ walked_listing text g (buffer 0 lent) → Listed text lent r left
unfolding listing
listed_drawn text lent left g r q m w =
    let d = drawn text g q in
    let a = d.its_limits in
    listed text lent left (drawing d.tree a) (drawing_listing d.tree) r refl m
    (w ∙ listing_walked text d.tree g d.shown a.keeps.sizes a.keeps.parameters a.depth a.nodes a.events (buffer 0 lent))

pub listed_refused : (text lent left : List ℕ) (w : Refusal) (r : ℕ) → read_of text ≡ Err w → length lent ≡ 32768
    → buffer r left ≡ put_all (refused_line (number w.reason) w.place) (buffer 0 lent) → Listed text lent r left
unfolding listing
listed_refused text lent left w r q m h = listed text lent left (turned_away text w q) (refused_line (number w.reason) w.place) r refl m h
