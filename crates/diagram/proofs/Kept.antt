-- Whether a diagram keeps the rules, by computation.
use mathlib.Core.Path.{◌≡◌}
use mathlib.Core.Logic.{◌↔◌}
use mathlib.Core.Bool.{Bool, true, ◌&&◌}
use mathlib.Core.List.{[]}
use Rattle.diagram.specs.Tree.{Flow}
use Rattle.diagram.specs.Sizes.{flow_sized}
use Rattle.diagram.specs.Names.{flow_names, differ}
use Rattle.diagram.specs.Parameters.{flow_parameters}
use Rattle.diagram.specs.Flows.{each_flow, solid, strong}
use Rattle.diagram.specs.Rules.{Keeps}
use Rattle.base.proofs.Truth.{and_l, and_r, and_i}

abbrev pub keeps? : Flow → Bool
keeps? d = flow_sized d && (differ (flow_names d []) && (flow_parameters d [] && (each_flow d solid && each_flow d strong)))

module _ (s n p o w : Bool) where
  all_five : (s && (n && (p && (o && w)))) ≡ true → (s ≡ true) × (n ≡ true) × (p ≡ true) × (o ≡ true) × (w ≡ true)
  all_five h =
      let a = and_r s (n && (p && (o && w))) h in
      let b = and_r n (p && (o && w)) a in
      let c = and_r p (o && w) b in
      (and_l s (n && (p && (o && w))) h, and_l n (p && (o && w)) a, and_l p (o && w) b, and_l o w c, and_r o w c)

keeps : (d : Flow) → keeps? d ≡ true → Keeps d
keeps d h =
    let k = all_five (flow_sized d) (differ (flow_names d [])) (flow_parameters d []) (each_flow d solid) (each_flow d strong) h in
    record { sizes = k.0; names = k.1; parameters = k.2; solids = k.3; strongs = k.4 }

pub keeps_decided : (d : Flow) → (keeps? d ≡ true) ↔ Keeps d
keeps_decided d = (keeps d, λ k. and_i k.sizes (and_i k.names (and_i k.parameters (and_i k.solids k.strongs))))
