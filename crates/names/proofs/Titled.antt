-- What has a name.
use mathlib.Core.Path.{◌≡◌}
use mathlib.Core.Bool.{true, ◌||◌}
use Rattle.base.proofs.Truth.{or_l, or_r, or_e, or_map}
use Rattle.diagram.specs.TreeNodes.{flowing, leafy, copying, titled, has_name}
use Rattle.diagram.specs.declared.Kind.{Kind}

pub titled_named : (k : Kind) → titled k ≡ true → has_name k ≡ true
titled_named k e = or_map (flowing k) (leafy k || copying k) (λ f. f) (or_l (copying k)) (or_e (flowing k) (leafy k) e)

pub copying_named : (k : Kind) → copying k ≡ true → has_name k ≡ true
copying_named k e = or_r (flowing k) (or_r (leafy k) e)
