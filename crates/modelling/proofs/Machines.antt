-- The machine of an accepted text's diagram in the profile.
use mathlib.Core.Path.{◌≡◌}
use mathlib.Core.Bool.{true, ◌&&◌}
use mathlib.Core.List.{List}
use Prim.Native.Nat.{ℕ, ◌≤◌, ◌<◌}
use lib.ListN.{length}
use borrow.Author.Tests.{leb-true}
use Rattle.base.proofs.Truth.{and_l, and_r}
use Rattle.diagram.specs.Tree.{Flow, flow}
use Rattle.diagram.specs.Count.{flow_events}
use Rattle.tokens.specs.Classes.{worded}
use Rattle.tokens.specs.Words.{keywords, lettered, every, short}
use Rattle.tokens.specs.Token.{named}
use Rattle.grammar.specs.Named.{all_named, flow_named}
use Rattle.reading.specs.Accepted.{Accepted}
use Rattle.process.specs.Expand.{expand, flow_name}
use Rattle.translator.proofs.Tables.{its_numbers, its_size}
use Rattle.formulas.specs.Actions.{AllSet}
use Rattle.formulas.proofs.Spoken.{actions_below}
use Rattle.formulas.proofs.Machine.{takes_iff_begins, once}
use Rattle.formulas.proofs.Sized.{text_short, opening_short}
use Rattle.formulas.proofs.Unambiguous.{text_once}
use Rattle.modelling.specs.Profile.{in_profile}
use Rattle.modelling.specs.Texts.{naming, guards_of, actions_of, event_text, opening_text}
use Rattle.modelling.specs.Machines.{MachineOf}
use Rattle.modelling.proofs.Profile.{few_events}
use Rattle.modelling.proofs.Names.{short_names, proper_names}
use Rattle.modelling.proofs.Guarded.{guards_right}

-- The root's name is short.
root_named : (d : Flow) → flow_named keywords d ≡ true → length (flow_name d) ≤ 24
unfolding flow_named named
root_named (flow n ps sw c r cs) h =
    let k = and_l (named keywords n) (all_named keywords ps) (and_l (named keywords n && all_named keywords ps) _ h) in
    leb-true (length n) 24 (and_l (short n) _ (and_r (lettered n && every worded n) _ k))

module _ (text : List ℕ) (d : Flow) (a : Accepted text d) (p : in_profile d ≡ true) where
  pub event_fits : (e : ℕ) → e < flow_events d → length (event_text d e) ≤ 65536
  unfolding event_text guards_of actions_of
  event_fits e l =
      text_short (expand d) (flow_events d) (its_numbers text d a) (its_size text d a) (few_events d p) (naming d) (short_names text d a) e l

  pub opening_fits : length (opening_text d) ≤ 65536
  unfolding opening_text
  opening_fits =
      opening_short (naming d) (flow_events d) (short_names text d a) (few_events d p) (flow_name d) (root_named d a.derived.proper.names)

  pub actions_set : (e : ℕ) → e < flow_events d → AllSet (flow_events d) (actions_of d e)
  unfolding actions_of
  actions_set e l = actions_below (expand d) (flow_events d) e l

  pub machine_right : MachineOf d
  unfolding guards_of actions_of
  machine_right = record {
    its_guards = guards_right text d a;
    its_runs = takes_iff_begins d a.keeps;
    its_actions = λ e n. once (expand d) 0 (its_numbers text d a) (flow_events d) e n;
    events_fit = event_fits;
    opening_fits = opening_fits;
    its_texts = text_once (flow_events d) (naming d) (proper_names text d a p);
  }
