-- Document 01, "The text": the names and pars of a diagram are names, by the nine words that are keywords, which the trees leave open.
use Rattle.std.specs.Prelude.{Bool, true, ◌&&◌, List, [], ◌∷◌}
use Rattle.diagram.specs.Tree.{Name, Flow, flow, Children, none, next, Child, plain, loop, group, replicator, Member, leaf, inner, Members, end, also}
use Rattle.tokens.specs.Token.{named}

abbrev pub all_named : List Name → List Name → Bool
all_named words [] = true
all_named words (p ∷ ps) = named words p && all_named words ps

unfoldable mutual
  pub flow_named : List Name → Flow → Bool
  flow_named words (flow n ps sw c r cs) = (named words n && all_named words ps) && (child_named words c && children_named words cs)

  pub children_named : List Name → Children → Bool
  children_named words none = true
  children_named words (next c r cs) = child_named words c && children_named words cs

  pub child_named : List Name → Child → Bool
  child_named words (plain m) = member_named words m
  child_named words (loop m) = member_named words m
  child_named words (group y a b ms) = member_named words a && (member_named words b && members_named words ms)
  child_named words (replicator y par size m) = named words par && member_named words m

  pub member_named : List Name → Member → Bool
  member_named words (leaf n) = named words n
  member_named words (inner f) = flow_named words f

  pub members_named : List Name → Members → Bool
  members_named words end = true
  members_named words (also m ms) = member_named words m && members_named words ms
