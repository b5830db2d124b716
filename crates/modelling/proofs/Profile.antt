-- What the profile says of a diagram.
use mathlib.Core.Path.{◌≡◌}
use mathlib.Core.Bool.{true, false, not}
use Prim.Native.Nat.{◌≤◌}
use borrow.Author.Tests.{leb-true}
use Rattle.base.proofs.Truth.{and_l, and_r, not_e}
use Rattle.diagram.specs.Tree.{Flow}
use Rattle.diagram.specs.Count.{flow_events}
use Rattle.diagram.specs.TreeNodes.{shown, nodes_by}
use Rattle.diagram.specs.Replicators.{some_replicates}
use Rattle.modelling.specs.Profile.{in_profile}

module _ (d : Flow) (p : in_profile d ≡ true) where
  pub no_replicators : some_replicates (nodes_by shown d) ≡ false
  unfolding in_profile
  no_replicators = not_e (some_replicates (nodes_by shown d)) (and_l (not (some_replicates (nodes_by shown d))) _ p)

  pub few_events : flow_events d ≤ 32
  unfolding in_profile
  few_events = leb-true (flow_events d) 32 (and_r (not (some_replicates (nodes_by shown d))) _ p)
