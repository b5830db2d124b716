-- Card 2, from the contracts of the calls.
use mathlib.Core.Path.{◌≡◌, ap, subst, ◌∙◌}
use mathlib.Core.Bool.{true}
use mathlib.Core.List.{List}
use Prim.Native.Nat.{ℕ, ◌≤◌, ◌<◌}
use native.Mathlib.Omega.{arith}
use lib.ListN.{length}
use Rattle.base.specs.Reports.{Written}
use Rattle.base.proofs.Truth.{clash}
use Rattle.diagram.specs.Tree.{Flow}
use Rattle.diagram.specs.Count.{flow_events}
use Rattle.reading.specs.Accepted.{Accepted}
use Rattle.reading.proofs.Exact.{accepted_once, never_both}
use Rattle.translator.proofs.Bounds.{accepted_table}
use Rattle.modelling.specs.Profile.{in_profile}
use Rattle.modelling.specs.Texts.{guards_of, actions_of, event_text}
use Rattle.modelling.specs.Guards.{Guards}
use Rattle.modelling.proofs.Machines.{machine_right, actions_set}
use Rattle.modelling.specs.Answers.{short, refused, outside, inside, Filled, EventOf, no_event, event, EventAnswer}
use Rattle.properties.specs.Modelled.{Modelled, EventsModelled}
use Rattle.properties.proofs.Kept.{steps_met, translates_met, writes_event_met}

module _ (text : List ℕ) (d : Flow) (a : Accepted text d) (p : in_profile d ≡ true) (e : ℕ) (l : e < flow_events d) (lent : List ℕ) (long : 65536 ≤ length lent)
    (w : Written) (left : List ℕ) where
  -- An accepted text in the profile has the text of the event written.
  its_event : EventOf d e lent w left → Filled (event_text d e) lent w left × Guards d e (guards_of d e)
  its_event (no_event h x u) = absurd (omega arith)
  its_event (event h f g) = (f, g)

  is_event : EventAnswer text e lent w left → Filled (event_text d e) lent w left × Guards d e (guards_of d e)
  is_event (short h x u) = absurd (omega arith)
  is_event (refused n q h t x u) = absurd (never_both text d n q a t)
  is_event (outside c h b o x u) = absurd (clash p (ap in_profile (accepted_once text d c a b) ∙ o))
  is_event (inside c h b i k) = its_event (subst (λ (f : Flow). EventOf f e lent w left) (accepted_once text c d b a) k)

  modelled : Filled (event_text d e) lent w left × Guards d e (guards_of d e) → Modelled text d e lent w left
  unfolding event_text
  modelled (f, g) = record {
    guards = guards_of d e;
    some = g.some;
    its_count = f.its_count;
    its_bytes = f.its_bytes;
    its_formulas = g.speak;
    no_others = λ others h q.
        ((machine_right text d a p).its_texts e e l l others (guards_of d e) h g.speak (actions_of d e) (actions_of d e) (actions_set text d a p e l) (actions_set text d a p e l) q).1;
    hold = λ buffer t table m count q book b s k.
        let same = accepted_table text buffer t table (translates_met text buffer t table m) d a count q in
        rw (steps_met _ _ e s k, same) (g.hold book b);
  }

pub events_modelled : EventsModelled
events_modelled text d a p e l lent long w left m = modelled text d a p e l lent long w left (is_event text d a p e l lent long w left (writes_event_met text e lent w left m))
