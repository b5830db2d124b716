-- A text that was read and has a machine: the code's test of the profile, and how the names of its events are spelled.
use mathlib.Core.Path.{◌≡◌, refl, sym, ap, ◌∙◌}
use mathlib.Core.Bool.{Bool, true, false, ◌||◌}
use mathlib.Core.List.{List, [], ◌∷◌, map}
use Prim.Native.Nat.{ℕ, ◌≤◌, ◌<◌}
use native.Mathlib.Omega.{arith}
use lib.ListN.{take}
use borrow.Author.Tests.{le-leb, lt-leb, ltb-true, ltb-false}
use Rattle.std.specs.List.{list_any}
use Rattle.base.proofs.Truth.{by_cases, clash}
use Rattle.diagram.specs.Tree.{Flow}
use Rattle.diagram.specs.Count.{flow_events}
use Rattle.diagram.specs.TreeNodes.{shown, copying, nodes_by}
use Rattle.diagram.specs.Replicators.{some_replicates}
use Rattle.diagram.specs.declared.Diagram.{Diagram}
use Rattle.diagram.specs.declared.Node.{Node}
use Rattle.reading.specs.Shows.{shown_node, shown_nodes, Shows}
use Rattle.reading.proofs.Shown.{accepted_shown}
use Rattle.labels.proofs.SearchByText.{spot_labelled}
use Rattle.translator.specs.Translates.{Read}
use Rattle.variables.specs.code.Spelled.{spelled}
use Rattle.variables.specs.declared.Variable.{Variable}
use Rattle.profile.specs.code.Profiles.{copies, outside_of, Names}
use Rattle.modelling.specs.Profile.{in_profile}
use Rattle.modelling.specs.Texts.{naming}
use Rattle.modelling.proofs.Profile.{few_events}
use Rattle.machines.specs.code.Drawn.{Drawn}

-- ---- the profile
copies_shown : (text : List ℕ) (ns : List Node) → list_any (λ n. copying n.kind) ns ≡ some_replicates (map (shown_node text) ns)
unfolding some_replicates shown_node
copies_shown text [] = refl
copies_shown text (n ∷ ns) = ap (λ (b : Bool). copying n.kind || b) (copies_shown text ns)

module _ (text : List ℕ) (d : Flow) (g : Diagram) (s : Shows text d g) where
  replicators_shown : some_replicates (nodes_by shown d) ≡ copies g
  unfolding shown_nodes
  replicators_shown = sym (copies_shown text (take g.count g.nodes) ∙ ap some_replicates s.nodes)

  -- The code's test of a diagram that was read is the profile's.
  pub outside_profile : outside_of g ≡ true → in_profile d ≡ false
  unfolding in_profile
  outside_profile h =
      rw replicators_shown
      (by_cases (copies g)
      (λ t. rw t)
      (λ t. let m = ltb-true 32 g.events (rw t at h) in rw (t, lt-leb (flow_events d) 32 (omega (arith, s.events, m)))))

  pub inside_profile : outside_of g ≡ false → in_profile d ≡ true
  unfolding in_profile
  inside_profile h =
      rw replicators_shown
      (by_cases (copies g)
      (λ t. let z : true ≡ false = rw t at h in absurd (clash refl z))
      (λ t. let m = ltb-false 32 g.events (rw t at h) in rw (t, le-leb (flow_events d) 32 (omega (arith, s.events, m)))))

-- ---- the names
module _ (text : List ℕ) (g : Diagram) (k : Drawn text g) where
  pub its_shown : Shows text k.tree g
  its_shown = accepted_shown text k.tree k.accepted k.its_diagram

  -- As translation takes it.
  pub as_read : Read g
  as_read = record { text = text; tree = k.tree; accepted = k.accepted; shown = its_shown }

  few : flow_events k.tree ≤ 32
  few = few_events k.tree k.profile

  -- They spell the variables of the diagram.
  pub spelled_names : (v : List Variable) → Names g v → (n : ℕ) → n < flow_events k.tree → spelled text v n ≡ naming k.tree n
  unfolding spelled
  spelled_names v w n h =
      let (s, is, l) = spot_labelled text k.tree k.accepted k.its_diagram n h in
      rw (w n (omega (arith, few)), is, l.mark, l.named.its_name)
