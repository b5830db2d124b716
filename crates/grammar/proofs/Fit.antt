-- A tree of the grammar, part by part: its names are names and its sizes are 1 to 16.
use mathlib.Core.Path.{◌≡◌, refl}
use mathlib.Core.Logic.{◌↔◌}
use mathlib.Core.Bool.{Bool, true, ◌&&◌}
use mathlib.Core.List.{List}
use Rattle.diagram.specs.Tree.{Name, Flow, flow, Children, none, next, Child, plain, loop, group, replicator, Member, leaf, inner, Members, end, also}
use Rattle.diagram.specs.Sizes.{flow_sized, children_sized, child_sized, member_sized, members_sized}
use Rattle.base.proofs.Truth.{and_l, and_r, and_i}
use Rattle.tokens.specs.Classes.{between}
use Rattle.tokens.specs.Token.{named}
use Rattle.grammar.specs.Named.{all_named, flow_named, children_named, child_named, member_named, members_named}
use Rattle.grammar.specs.Derives.{Grammatical}

abbrev mutual
  pub FitFlow : List Name → Flow → Type 0
  FitFlow words (flow n ps sw c r cs) = (named words n ≡ true) × (all_named words ps ≡ true) × FitChild words c × FitChildren words cs

  pub FitChildren : List Name → Children → Type 0
  FitChildren words none = Unit {0}
  FitChildren words (next c r cs) = FitChild words c × FitChildren words cs

  pub FitChild : List Name → Child → Type 0
  FitChild words (plain m) = FitMember words m
  FitChild words (loop m) = FitMember words m
  FitChild words (group y a b ms) = FitMember words a × FitMember words b × FitMembers words ms
  FitChild words (replicator y par size m) = (named words par ≡ true) × (between 1 16 size ≡ true) × FitMember words m

  pub FitMember : List Name → Member → Type 0
  FitMember words (leaf n) = named words n ≡ true
  FitMember words (inner f) = FitFlow words f

  pub FitMembers : List Name → Members → Type 0
  FitMembers words end = Unit {0}
  FitMembers words (also m ms) = FitMember words m × FitMembers words ms

both : (a b : Bool) → (a && b) ≡ true → (a ≡ true) × (b ≡ true)
both a b h = (and_l a b h, and_r a b h)

mutual
  unfolding flow_named flow_sized

  flow_fit : (words : List Name) (f : Flow) → flow_named words f ≡ true → flow_sized f ≡ true → FitFlow words f
  flow_fit words (flow n ps sw c r cs) h z =
      let a = both (named words n && all_named words ps) (child_named words c && children_named words cs) h in
      let b = both (named words n) (all_named words ps) a.0 in
      let e = both (child_named words c) (children_named words cs) a.1 in
      let y = both (child_sized c) (children_sized cs) z in
      (b.0, b.1, child_fit words c e.0 y.0, children_fit words cs e.1 y.1)

  children_fit : (words : List Name) (cs : Children) → children_named words cs ≡ true → children_sized cs ≡ true → FitChildren words cs
  children_fit words none h z = tt
  children_fit words (next c r cs) h z =
      let e = both (child_named words c) (children_named words cs) h in
      let y = both (child_sized c) (children_sized cs) z in
      (child_fit words c e.0 y.0, children_fit words cs e.1 y.1)

  child_fit : (words : List Name) (c : Child) → child_named words c ≡ true → child_sized c ≡ true → FitChild words c
  child_fit words (plain m) h z = member_fit words m h z
  child_fit words (loop m) h z = member_fit words m h z
  child_fit words (group y a b ms) h z =
      let e = both (member_named words a) (member_named words b && members_named words ms) h in
      let f = both (member_named words b) (members_named words ms) e.1 in
      let x = both (member_sized a) (member_sized b && members_sized ms) z in
      let w = both (member_sized b) (members_sized ms) x.1 in
      (member_fit words a e.0 x.0, member_fit words b f.0 w.0, members_fit words ms f.1 w.1)
  child_fit words (replicator y par size m) h z =
      let e = both (named words par) (member_named words m) h in
      let x = both (between 1 16 size) (member_sized m) z in
      (e.0, x.0, member_fit words m e.1 x.1)

  member_fit : (words : List Name) (m : Member) → member_named words m ≡ true → member_sized m ≡ true → FitMember words m
  member_fit words (leaf n) h z = h
  member_fit words (inner f) h z = flow_fit words f h z

  members_fit : (words : List Name) (ms : Members) → members_named words ms ≡ true → members_sized ms ≡ true → FitMembers words ms
  members_fit words end h z = tt
  members_fit words (also m ms) h z =
      let e = both (member_named words m) (members_named words ms) h in
      let y = both (member_sized m) (members_sized ms) z in
      (member_fit words m e.0 y.0, members_fit words ms e.1 y.1)

-- Both tests of a tree.
abbrev Tested : Bool → Bool → Type 0
Tested a b = (a ≡ true) × (b ≡ true)

joined : {a b c d : Bool} → Tested a b → Tested c d → Tested (a && c) (b && d)
joined h k = (and_i h.0 k.0, and_i h.1 k.1)

mutual
  unfolding flow_named flow_sized

  flow_tested : (words : List Name) (f : Flow) → FitFlow words f → Tested (flow_named words f) (flow_sized f)
  flow_tested words (flow n ps sw c r cs) h =
      let t = joined (child_tested words c h.2) (children_tested words cs h.3) in
      (and_i (and_i h.0 h.1) t.0, t.1)

  children_tested : (words : List Name) (cs : Children) → FitChildren words cs → Tested (children_named words cs) (children_sized cs)
  children_tested words none h = (refl, refl)
  children_tested words (next c r cs) h = joined (child_tested words c h.0) (children_tested words cs h.1)

  child_tested : (words : List Name) (c : Child) → FitChild words c → Tested (child_named words c) (child_sized c)
  child_tested words (plain m) h = member_tested words m h
  child_tested words (loop m) h = member_tested words m h
  child_tested words (group y a b ms) h =
      joined (member_tested words a h.0) (joined (member_tested words b h.1) (members_tested words ms h.2))
  child_tested words (replicator y par size m) h = joined (h.0, h.1) (member_tested words m h.2)

  member_tested : (words : List Name) (m : Member) → FitMember words m → Tested (member_named words m) (member_sized m)
  member_tested words (leaf n) h = (h, refl)
  member_tested words (inner f) h = flow_tested words f h

  members_tested : (words : List Name) (ms : Members) → FitMembers words ms → Tested (members_named words ms) (members_sized ms)
  members_tested words end h = (refl, refl)
  members_tested words (also m ms) h = joined (member_tested words m h.0) (members_tested words ms h.1)

pub grammatical_fit : (words : List Name) (d : Flow) → Grammatical words d ↔ FitFlow words d
grammatical_fit words d =
    (λ g. flow_fit words d g.names g.sizes, λ h. let t = flow_tested words d h in record { names = t.0; sizes = t.1 })
