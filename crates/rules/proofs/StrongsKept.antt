-- Number 10 stands nowhere just where each flow's sw is 1.
use Rattle.std.specs.Prelude.{None}
use mathlib.Core.Path.{◌≡◌, refl}
use mathlib.Core.Logic.{◌↔◌}
use mathlib.Core.Bool.{true}
use Rattle.diagram.specs.Tree.{Flow}
use Rattle.diagram.specs.Flows.{each_flow, strong}
use Rattle.diagram.specs.TreeNodes.{nodes_by}
use Rattle.rules.specs.Broken.{strongs_fit, first_broken}
use Rattle.rules.proofs.FlowsKept.{kept_iff}

pub strongs_kept_iff : (d : Flow) → (first_broken strongs_fit (nodes_by (λ h. h) d) ≡ None) ↔ (each_flow d strong ≡ true)
strongs_kept_iff = kept_iff (λ h. h.own.strong) strong (λ n ps sw c r cs A b d i. refl)
