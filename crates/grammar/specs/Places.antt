-- Where a node stands, as the code says it.
use Rattle.grammar.specs.Machine.{Place, root, member, child}
use Rattle.grammar.specs.declared.Place.{Place as CodePlace}
use Rattle.grammar.specs.declared.Place.TheVariants.{Root, Member, Child}

abbrev pub place_of : CodePlace → Place
place_of Root = root
place_of Member = member
place_of Child = child
