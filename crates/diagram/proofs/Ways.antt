-- What holds of each of the three ways to join parts holds of every one.
use mathlib.Core.Path.{◌≡◌}
use Rattle.diagram.specs.Tree.{Way, all, some, one}

pub by_way : {A : Type 0} (f g : Way → A) → f all ≡ g all → f some ≡ g some → f one ≡ g one → (y : Way) → f y ≡ g y
by_way f g p q r all = p
by_way f g p q r some = q
by_way f g p q r one = r
