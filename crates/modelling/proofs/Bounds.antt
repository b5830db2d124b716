-- Property 1, for the calls that write machines, and that each has one answer.
use mathlib.Core.Path.{◌≡◌, refl, sym, ap, subst, ◌∙◌}
use mathlib.Core.Logic.{inl, inr}
use mathlib.Core.List.{List, cons≢nil, head-eq_of_cons-eq}
use Prim.Native.Nat.{ℕ, ◌≤◌}
use native.Mathlib.Omega.{arith}
use lib.ListN.{length, take}
use lib.Seq.{length-take-le}
use Rattle.std.specs.Prelude.{Ok}
use Rattle.base.specs.Reports.{Report, Written}
use Rattle.base.proofs.Filled.{fill_length, fill_past}
use Rattle.base.proofs.Reports.{written_told}
use Rattle.base.proofs.Truth.{clash}
use Rattle.diagram.specs.Tree.{Flow}
use Rattle.reading.proofs.Bounds.{refused_at_near}
use Rattle.reading.proofs.Exact.{accepted_once, refused_at_once, never_both}
use Rattle.modelling.specs.Profile.{in_profile}
use Rattle.modelling.specs.Texts.{event_text, opening_text}
use Rattle.modelling.specs.Reports.{report}
use Rattle.modelling.specs.Answers.{Answered, short, refused, outside, inside, Filled, EventOf, no_event, event, EventAnswer, OpeningAnswer}
use Rattle.modelling.specs.Bounds.{Bounded, its_result, its_refusal}

-- Two answers that report the same are the same.
same_report : (r q : Written) {x : Report} → report r ≡ x → report q ≡ x → r ≡ q
same_report r q a b = written_told r q (a ∙ sym b)

-- ---- one answer
abbrev Same : Written → List ℕ → Written → List ℕ → Type 0
Same r left q other = (r ≡ q) × (left ≡ other)

-- Two refusals with one number and place, each of which leaves what was lent.
same_refusal : (r q : Written) (lent left other : List ℕ) {x : Report} → report r ≡ x → left ≡ lent → report q ≡ x → other ≡ lent → Same r left q other
same_refusal r q lent left other a u b v = (same_report r q a b, u ∙ sym v)

same_filled : (text lent : List ℕ) (r q : Written) (left other : List ℕ) → Filled text lent r left → Filled text lent q other → Same r left q other
same_filled text lent r q left other f g = (same_report r q f.its_count g.its_count, f.its_bytes ∙ sym g.its_bytes)

-- Where what is answered of a diagram is one answer, so is what is answered of a text.
module _ (text lent : List ℕ) (Of : Written → List ℕ → Flow → Type 0)
    (once : (d : Flow) (r q : Written) (left other : List ℕ) → Of r left d → Of q other d → Same r left q other) (r q : Written) (left other : List ℕ) where
  one_answered : Answered text lent r left (Of r left) → Answered text lent q other (Of q other) → Same r left q other
  one_answered (short h e u) (short k f v) = same_refusal r q lent left other e u f v
  one_answered (short h e u) (refused n p k t f v) = absurd (omega arith)
  one_answered (short h e u) (outside d k a o f v) = absurd (omega arith)
  one_answered (short h e u) (inside d k a i w) = absurd (omega arith)
  one_answered (refused n p h s e u) (short k f v) = absurd (omega arith)
  one_answered (refused n p h s e u) (refused m i k t f v) =
      let (x, y) = refused_at_once text n p m i s t in
      same_refusal r q lent left other (rw (x, y) at e) u f v
  one_answered (refused n p h s e u) (outside d k a o f v) = absurd (never_both text d n p a s)
  one_answered (refused n p h s e u) (inside d k a i w) = absurd (never_both text d n p a s)
  one_answered (outside c h a o e u) (short k f v) = absurd (omega arith)
  one_answered (outside c h a o e u) (refused m i k t f v) = absurd (never_both text c m i a t)
  one_answered (outside c h a o e u) (outside d k b i f v) = same_refusal r q lent left other e u f v
  one_answered (outside c h a o e u) (inside d k b i w) = absurd (clash i (ap in_profile (accepted_once text d c b a) ∙ o))
  one_answered (inside c h a i w) (short k f v) = absurd (omega arith)
  one_answered (inside c h a i w) (refused m j k t f v) = absurd (never_both text c m j a t)
  one_answered (inside c h a i w) (outside d k b o f v) = absurd (clash i (ap in_profile (accepted_once text c d a b) ∙ o))
  one_answered (inside c h a i w) (inside d k b j z) = once d r q left other (subst (Of r left) (accepted_once text c d a b) w) z

event_of_once : (e : ℕ) (lent : List ℕ) (d : Flow) (r q : Written) (left other : List ℕ) → EventOf d e lent r left → EventOf d e lent q other
    → Same r left q other
event_of_once e lent d r q left other (no_event h x u) (no_event k y v) = same_refusal r q lent left other x u y v
event_of_once e lent d r q left other (no_event h x u) (event k f g) = absurd (omega arith)
event_of_once e lent d r q left other (event h f g) (no_event k y v) = absurd (omega arith)
event_of_once e lent d r q left other (event h f g) (event k i j) = same_filled (event_text d e) lent r q left other f i

pub one_event : (text : List ℕ) (e : ℕ) (lent : List ℕ) (r q : Written) (left other : List ℕ) → EventAnswer text e lent r left → EventAnswer text e lent q other
    → Same r left q other
one_event text e lent r q left other = one_answered text lent (λ x l d. EventOf d e lent x l) (event_of_once e lent) r q left other

pub one_opening : (text lent : List ℕ) (r q : Written) (left other : List ℕ) → OpeningAnswer text lent r left → OpeningAnswer text lent q other
    → Same r left q other
one_opening text lent r q left other =
    one_answered text lent (λ x l d. Filled (opening_text d) lent x l) (λ d. same_filled (opening_text d) lent) r q left other

-- ---- property 1
module _ (lent : List ℕ) (r : Written) (left : List ℕ) where
  filled_bounded : (text : List ℕ) → 65536 ≤ length lent → Filled text lent r left → Bounded lent r left
  filled_bounded text h f =
      its_result
      record {
        count = length text;
        reported = f.its_count;
        few = f.enough;
        room = omega (arith, f.enough);
        length_stays = rw f.its_bytes (fill_length lent text);
        past = rw f.its_bytes (fill_past lent text);
      }

  answered_bounded : (text : List ℕ) (Of : Flow → Type 0) → ((d : Flow) → 65536 ≤ length lent → Of d → Bounded lent r left)
      → Answered text lent r left Of → Bounded lent r left
  answered_bounded text Of of (short h e u) =
      its_refusal record { number = 1; place = 0; reported = e; one_of = inl (omega arith, omega arith); near = omega arith; untouched = u }
  answered_bounded text Of of (refused number place h t e u) =
      let n = refused_at_near text number place t in
      its_refusal record { number = number; place = place; reported = e; one_of = inl (omega (arith, n.low), n.high); near = n.close; untouched = u }
  answered_bounded text Of of (outside d h a o e u) =
      its_refusal record { number = 16; place = 0; reported = e; one_of = inr (inr refl); near = omega arith; untouched = u }
  answered_bounded text Of of (inside d h a i w) = of d h w

  event_of_bounded : (e : ℕ) (d : Flow) → 65536 ≤ length lent → EventOf d e lent r left → Bounded lent r left
  event_of_bounded e d h (no_event k x u) =
      its_refusal record { number = 14; place = 0; reported = x; one_of = inr (inl refl); near = omega arith; untouched = u }
  event_of_bounded e d h (event k f g) = filled_bounded (event_text d e) h f

  pub event_bounded : (text : List ℕ) (e : ℕ) → EventAnswer text e lent r left → Bounded lent r left
  event_bounded text e = answered_bounded text (λ d. EventOf d e lent r left) (event_of_bounded e)

  pub opening_bounded : (text : List ℕ) → OpeningAnswer text lent r left → Bounded lent r left
  opening_bounded text = answered_bounded text (λ d. Filled (opening_text d) lent r left) (λ d. filled_bounded (opening_text d))

  room : Bounded lent r left → (n : ℕ) → r ≡ Ok n → (n ≤ length left) × (n ≡ length (take n left))
  room (its_result k) n t =
      let x : n ≡ k.count = head-eq_of_cons-eq (ap (λ (x : Report). x.values) (sym (ap report t) ∙ k.reported)) in
      let l : n ≤ length left = omega (arith, x, k.room, k.length_stays) in
      (l, sym (length-take-le n left l))
  room (its_refusal k) n t = absurd (cons≢nil (ap (λ (x : Report). x.values) (sym (ap report t) ∙ k.reported)))

  -- As a caller takes the bytes that were written.
  pub event_room : (text : List ℕ) (e : ℕ) → EventAnswer text e lent r left → (n : ℕ) → r ≡ Ok n → (n ≤ length left) × (n ≡ length (take n left))
  event_room text e w = room (event_bounded text e w)

  pub opening_room : (text : List ℕ) → OpeningAnswer text lent r left → (n : ℕ) → r ≡ Ok n → (n ≤ length left) × (n ≡ length (take n left))
  opening_room text w = room (opening_bounded text w)
