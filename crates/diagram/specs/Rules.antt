-- A diagram that keeps the grammar's bounds and the rules beyond grammar.
use Rattle.std.specs.Prelude.{◌≡◌, true, []}
use Rattle.diagram.specs.Tree.{Flow}
use Rattle.diagram.specs.Sizes.{flow_sized}
use Rattle.diagram.specs.Names.{flow_names, differ}
use Rattle.diagram.specs.Parameters.{flow_parameters}
use Rattle.diagram.specs.Flows.{each_flow, solid, strong}

pub record Keeps (d : Flow) : Type 0 where
  pub sizes : flow_sized d ≡ true
  pub names : differ (flow_names d []) ≡ true
  pub parameters : flow_parameters d [] ≡ true
  pub solids : each_flow d solid ≡ true
  pub strongs : each_flow d strong ≡ true
