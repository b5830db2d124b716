-- Two trees that keep the parameter rules and have the same nodes are the same. The nodes say everything but the pars of a flow, and these are the pars of the
-- replicators around it; where a part's nodes end, the depths say.
use mathlib.Core.Path.{◌≡◌, refl, sym, ◌∙◌, ap, subst}
use mathlib.Core.Bool.{Bool, true, false, ◌&&◌}
use mathlib.Core.List.{List, [], ◌∷◌, ◌++◌, head-eq_of_cons-eq, tail-eq_of_cons-eq}
use Prim.Native.Nat.{ℕ, suc}
use native.Mathlib.Omega.{arith}
use lib.Dec.{leb}
use borrow.Author.Tests.{leb-true, le-leb}
use Rattle.base.proofs.Decided.{all_same_decides}
use Rattle.base.proofs.Truth.{and_l, and_r}
use Rattle.diagram.proofs.Ways.{by_way}
use Rattle.diagram.specs.Tree.{Name, Way, all, some, one, Flow, flow, Children, none, next, Child, plain, loop, group, replicator, Member, leaf, inner, Members, end, also}
use Rattle.diagram.specs.Names.{equal, same, new}
use Rattle.diagram.specs.Parameters.{surrounded, flow_parameters, children_parameters, child_parameters, member_parameters, members_parameters}
use Rattle.diagram.specs.TreeNodes.{ShownNode, shown_as, shown, group_kind, replicator_kind, nodes_by, flow_tree_nodes, children_tree_nodes, child_tree_nodes, member_tree_nodes, members_tree_nodes}
use Rattle.diagram.specs.declared.Kind.{Kind}
use Rattle.diagram.specs.declared.Kind.TheVariants.{Flow as FlowKind, Leaf, And, Or, Xor, All, Some, One, Loop}

-- Lists of nodes that are equal and not empty: their first nodes are shown alike, and the rest is equal.
record Alike (k l : Kind) (b x s t : Bool) (n m : Name) (vs ws : List ShownNode) : Type 0 where
  kind : k ≡ l
  solid : b ≡ x
  strong : s ≡ t
  name : n ≡ m
  rest : vs ≡ ws

alike : (k l : Kind) (b x s t : Bool) (d : ℕ) (n m : Name) (vs ws : List ShownNode) → shown_as k b s d n ∷ vs ≡ shown_as l x t d m ∷ ws
    → Alike k l b x s t n m vs ws
alike k l b x s t d n m vs ws e =
    let h = head-eq_of_cons-eq e in
    record {
      kind = ap (λ (v : ShownNode). v.kind) h;
      solid = ap (λ (v : ShownNode). v.solid) h;
      strong = ap (λ (v : ShownNode). v.strong) h;
      name = ap (λ (v : ShownNode). v.name) h;
      rest = tail-eq_of_cons-eq e;
    }

-- What a kind says of a child: which of the four forms it has, of a constructor how its parts are joined, of a replicator its size.
record Form : Type 0 where
  form : ℕ
  way : Way
  size : ℕ

abbrev form_of : ℕ → Way → ℕ → Form
form_of f y n = record { form = f; way = y; size = n }

abbrev kind_form : Kind → Form
kind_form FlowKind = form_of 0 all 0
kind_form Leaf = form_of 0 all 0
kind_form And = form_of 1 all 0
kind_form Or = form_of 1 some 0
kind_form Xor = form_of 1 one 0
kind_form (All size) = form_of 2 all size
kind_form (Some size) = form_of 2 some size
kind_form (One size) = form_of 2 one size
kind_form Loop = form_of 3 all 0

group_form : (y : Way) → kind_form (group_kind y) ≡ form_of 1 y 0
group_form = by_way (λ y. kind_form (group_kind y)) (λ y. form_of 1 y 0) refl refl refl

replicator_form : (y : Way) (size : ℕ) → kind_form (replicator_kind y size) ≡ form_of 2 y size
replicator_form y size = by_way (λ y. kind_form (replicator_kind y size)) (λ y. form_of 2 y size) refl refl refl y

group_once : (y z : Way) → group_kind y ≡ group_kind z → y ≡ z
group_once y z e = ap (λ (f : Form). f.way) (sym (group_form y) ∙ (ap kind_form e ∙ group_form z))

replicator_once : (y z : Way) (m n : ℕ) → replicator_kind y m ≡ replicator_kind z n → (y ≡ z) × (m ≡ n)
replicator_once y z m n e =
    let q = sym (replicator_form y m) ∙ (ap kind_form e ∙ replicator_form z n) in
    (ap (λ (f : Form). f.way) q, ap (λ (f : Form). f.size) q)

-- Which of the four forms a child has, also by the kind of its first node.
abbrev child_form : Child → ℕ
child_form (plain m) = 0
child_form (group y a b ms) = 1
child_form (replicator y par size m) = 2
child_form (loop m) = 3

abbrev first_form : List ShownNode → ℕ
first_form [] = 0
first_form (v ∷ vs) = (kind_form v.kind).form

form_first : (c : Child) (a : List Name) (b : Bool) (k i : ℕ) (vs : List ShownNode) → first_form (child_tree_nodes shown c a b k i vs) ≡ child_form c
unfolding flow_tree_nodes
form_first (plain (leaf n)) a b k i vs = refl
form_first (plain (inner (flow n ps sw c r cs))) a b k i vs = refl
form_first (loop m) a b k i vs = refl
form_first (group all m e ms) a b k i vs = refl
form_first (group some m e ms) a b k i vs = refl
form_first (group one m e ms) a b k i vs = refl
form_first (replicator all par size m) a b k i vs = refl
form_first (replicator some par size m) a b k i vs = refl
form_first (replicator one par size m) a b k i vs = refl

apart : {A : Type 0} (c e : Child) (a : List Name) (b x : Bool) (k i j : ℕ) (vs ws : List ShownNode)
    → child_tree_nodes shown c a b k i vs ≡ child_tree_nodes shown e a x k j ws
    → (child_form c ≡ child_form e → ⊥) → A
apart c e a b x k i j vs ws q f = absurd (f (sym (form_first c a b k i vs) ∙ (ap first_form q ∙ form_first e a x k j ws)))

-- The list is empty, or its first node's depth is at most k.
abbrev low : ℕ → List ShownNode → Bool
low k [] = true
low k (v ∷ vs) = leb v.depth k

deeper : (k : ℕ) (vs : List ShownNode) → low k vs ≡ true → low (suc k) vs ≡ true
deeper k [] h = refl
deeper k (v ∷ vs) h = le-leb v.depth (suc k) (omega (arith, leb-true v.depth k h))

depth_first : (c : Child) (a : List Name) (b : Bool) (d i k : ℕ) (vs : List ShownNode) → low k (child_tree_nodes shown c a b d i vs) ≡ leb d k
unfolding flow_tree_nodes
depth_first (plain (leaf n)) a b d i k vs = refl
depth_first (plain (inner (flow n ps sw c r cs))) a b d i k vs = refl
depth_first (loop m) a b d i k vs = refl
depth_first (group y m e ms) a b d i k vs = refl
depth_first (replicator y par size m) a b d i k vs = refl

child_low : (c : Child) (a : List Name) (b : Bool) (d i : ℕ) (vs : List ShownNode) → low d (child_tree_nodes shown c a b d i vs) ≡ true
child_low c a b d i vs = depth_first c a b d i d vs ∙ le-leb d d (omega arith)

children_low : (cs : Children) (a : List Name) (k i : ℕ) (vs : List ShownNode) → low k vs ≡ true
    → low (suc k) (children_tree_nodes shown cs a (suc k) i vs) ≡ true
unfolding flow_tree_nodes
children_low none a k i vs h = deeper k vs h
children_low (next c r cs) a k i vs h = child_low c a r (suc k) i _

members_low : (ms : Members) (a : List Name) (k i : ℕ) (vs : List ShownNode) → low k vs ≡ true → low (suc k) (members_tree_nodes shown ms a (suc k) i vs) ≡ true
unfolding flow_tree_nodes
members_low end a k i vs h = deeper k vs h
members_low (also m ms) a k i vs h = child_low (plain m) a false (suc k) i _

-- Where one list of children or members has ended, so has the other.
ended : {A : Type 0} (c : Child) (a : List Name) (b : Bool) (k i : ℕ) (vs ws : List ShownNode) → low k ws ≡ true
    → ws ≡ child_tree_nodes shown c a b (suc k) i vs → A
ended c a b k i vs ws h e =
    let l = leb-true (suc k) k (sym (depth_first c a b (suc k) i k vs) ∙ (ap (low k) (sym e) ∙ h)) in
    let z : ⊥ = omega arith in
    absurd z

-- What a tree that keeps the parameter rules says of its parts.
kept_flow : (n : Name) (ps : List Name) (sw : Bool) (c : Child) (r : Bool) (cs : Children) (a : List Name) → flow_parameters (flow n ps sw c r cs) a ≡ true
    → (ps ≡ a) × (child_parameters c a ≡ true) × (children_parameters cs a ≡ true)
unfolding flow_parameters
kept_flow n ps sw c r cs a h =
    let u = surrounded a && equal same ps a in
    let v = child_parameters c a && children_parameters cs a in (
      (all_same_decides ps a).0 (and_r (surrounded a) (equal same ps a) (and_l u v h)),
      and_l (child_parameters c a) (children_parameters cs a) (and_r u v h),
      and_r (child_parameters c a) (children_parameters cs a) (and_r u v h),
    )

kept_group : (y : Way) (m e : Member) (ms : Members) (a : List Name) → child_parameters (group y m e ms) a ≡ true
    → (member_parameters m a ≡ true) × (member_parameters e a ≡ true) × (members_parameters ms a ≡ true)
unfolding flow_parameters
kept_group y m e ms a h =
    let t = and_r (surrounded a) (member_parameters m a && (member_parameters e a && members_parameters ms a)) h in
    let u = and_r (member_parameters m a) (member_parameters e a && members_parameters ms a) t in (
      and_l (member_parameters m a) (member_parameters e a && members_parameters ms a) t,
      and_l (member_parameters e a) (members_parameters ms a) u,
      and_r (member_parameters e a) (members_parameters ms a) u,
    )

-- Two trees at one depth, under the same replicators, with equal nodes: they are the same, and so are their marks and what follows them.
abbrev Once : {A : Type 0} → A → A → Bool → Bool → List ShownNode → List ShownNode → Type 0
Once f g b x vs ws = (f ≡ g) × (b ≡ x) × (vs ≡ ws)

mutual
  unfolding flow_tree_nodes flow_parameters

  flow_once : (f g : Flow) (a : List Name) (b x : Bool) (k i j : ℕ) (vs ws : List ShownNode) → low k vs ≡ true → low k ws ≡ true
      → flow_parameters f a ≡ true → flow_parameters g a ≡ true → flow_tree_nodes shown f a b k i vs ≡ flow_tree_nodes shown g a x k j ws → Once f g b x vs ws
  flow_once (flow n ps sw c r cs) (flow m qs tw e s es) a b x k i j vs ws g h p q t =
      let u = alike FlowKind FlowKind b x sw tw k n m _ _ t in
      let y = kept_flow n ps sw c r cs a p in
      let z = kept_flow m qs tw e s es a q in
      let v = child_once c e a r s (suc k) (suc i) (suc j) _ _ (children_low cs a k _ vs g) (children_low es a k _ ws h) y.1 z.1 u.rest in
      let w = children_once cs es a k _ _ vs ws g h y.2 z.2 v.2 in
      (cc (u.name, y.0, z.0, u.strong, v.0, v.1, w.0), u.solid, w.1)

  children_once : (cs es : Children) (a : List Name) (k i j : ℕ) (vs ws : List ShownNode) → low k vs ≡ true → low k ws ≡ true
      → children_parameters cs a ≡ true → children_parameters es a ≡ true → children_tree_nodes shown cs a (suc k) i vs ≡ children_tree_nodes shown es a (suc k) j ws → (cs ≡ es) × (vs ≡ ws)
  children_once none none a k i j vs ws g h p q t = (refl, t)
  children_once none (next e s es) a k i j vs ws g h p q t = ended e a s k j _ vs g t
  children_once (next c r cs) none a k i j vs ws g h p q t = ended c a r k i _ ws h (sym t)
  children_once (next c r cs) (next e s es) a k i j vs ws g h p q t =
      let v = child_once c e a r s (suc k) i j _ _ (children_low cs a k _ vs g) (children_low es a k _ ws h)
      (and_l (child_parameters c a) (children_parameters cs a) p) (and_l (child_parameters e a) (children_parameters es a) q) t in
      let w = children_once cs es a k _ _ vs ws g h (and_r (child_parameters c a) (children_parameters cs a) p)
      (and_r (child_parameters e a) (children_parameters es a) q) v.2 in
      (cc (v.0, v.1, w.0), w.1)

  child_once : (c e : Child) (a : List Name) (b x : Bool) (k i j : ℕ) (vs ws : List ShownNode) → low k vs ≡ true → low k ws ≡ true
      → child_parameters c a ≡ true → child_parameters e a ≡ true → child_tree_nodes shown c a b k i vs ≡ child_tree_nodes shown e a x k j ws → Once c e b x vs ws
  child_once (plain m) (plain n) a b x k i j vs ws g h p q t = let v = member_once m n a b x k i j vs ws g h p q t in (ap plain v.0, v.1, v.2)
  child_once (plain m) (loop n) a b x k i j vs ws g h p q t = apart (plain m) (loop n) a b x k i j vs ws t (λ f. omega arith)
  child_once (plain m) (group z n f ns) a b x k i j vs ws g h p q t = apart (plain m) (group z n f ns) a b x k i j vs ws t (λ f. omega arith)
  child_once (plain m) (replicator z o l n) a b x k i j vs ws g h p q t = apart (plain m) (replicator z o l n) a b x k i j vs ws t (λ f. omega arith)
  child_once (loop m) (plain n) a b x k i j vs ws g h p q t = apart (loop m) (plain n) a b x k i j vs ws t (λ f. omega arith)
  child_once (loop m) (loop n) a b x k i j vs ws g h p q t =
      let u = alike Loop Loop b x false false k [] [] _ _ t in
      let v = member_once m n a false false (suc k) (suc i) (suc j) vs ws (deeper k vs g) (deeper k ws h) (and_r (surrounded a) (member_parameters m a) p)
      (and_r (surrounded a) (member_parameters n a) q) u.rest in
      (ap loop v.0, u.solid, v.2)
  child_once (loop m) (group z n f ns) a b x k i j vs ws g h p q t = apart (loop m) (group z n f ns) a b x k i j vs ws t (λ f. omega arith)
  child_once (loop m) (replicator z o l n) a b x k i j vs ws g h p q t = apart (loop m) (replicator z o l n) a b x k i j vs ws t (λ f. omega arith)
  child_once (group y m e ms) (plain n) a b x k i j vs ws g h p q t = apart (group y m e ms) (plain n) a b x k i j vs ws t (λ f. omega arith)
  child_once (group y m e ms) (loop n) a b x k i j vs ws g h p q t = apart (group y m e ms) (loop n) a b x k i j vs ws t (λ f. omega arith)
  child_once (group y m e ms) (group z n f ns) a b x k i j vs ws g h p q t =
      let u = alike (group_kind y) (group_kind z) b x false false k [] [] _ _ t in
      let c = kept_group y m e ms a p in
      let d = kept_group z n f ns a q in
      let v = member_once m n a false false (suc k) (suc i) (suc j) _ _ (child_low (plain e) a false (suc k) _ _) (child_low (plain f) a false (suc k) _ _)
      c.0 d.0 u.rest in
      let w = member_once e f a false false (suc k) _ _ _ _ (members_low ms a k _ vs g) (members_low ns a k _ ws h) c.1 d.1 v.2 in
      let r = members_once ms ns a k _ _ vs ws g h c.2 d.2 w.2 in
      (cc (group_once y z u.kind, v.0, w.0, r.0), u.solid, r.1)
  child_once (group y m e ms) (replicator z o l n) a b x k i j vs ws g h p q t = apart (group y m e ms) (replicator z o l n) a b x k i j vs ws t (λ f. omega arith)
  child_once (replicator y o l m) (plain n) a b x k i j vs ws g h p q t = apart (replicator y o l m) (plain n) a b x k i j vs ws t (λ f. omega arith)
  child_once (replicator y o l m) (loop n) a b x k i j vs ws g h p q t = apart (replicator y o l m) (loop n) a b x k i j vs ws t (λ f. omega arith)
  child_once (replicator y o l m) (group z n f ns) a b x k i j vs ws g h p q t = apart (replicator y o l m) (group z n f ns) a b x k i j vs ws t (λ f. omega arith)
  child_once (replicator y o l m) (replicator z r size n) a b x k i j vs ws g h p q t =
      let u = alike (replicator_kind y l) (replicator_kind z size) b x false false k o r _ _ t in
      let c = and_r (surrounded a && new o a) (member_parameters m (a ++ (o ∷ []))) p in
      let d = and_r (surrounded a && new r a) (member_parameters n (a ++ (r ∷ []))) q in
      let f = subst
      (λ (s : Name). (member_parameters n (a ++ (s ∷ [])) ≡ true)
      × (member_tree_nodes shown m (a ++ (o ∷ [])) false (suc k) (suc i) vs ≡ member_tree_nodes shown n (a ++ (s ∷ [])) false (suc k) (suc j) ws))
      (sym u.name) (d, u.rest) in
      let v = member_once m n (a ++ (o ∷ [])) false false (suc k) (suc i) (suc j) vs ws (deeper k vs g) (deeper k ws h) c f.0 f.1 in
      let w = replicator_once y z l size u.kind in
      (cc (w.0, w.1, u.name, v.0), u.solid, v.2)

  member_once : (m n : Member) (a : List Name) (b x : Bool) (k i j : ℕ) (vs ws : List ShownNode) → low k vs ≡ true → low k ws ≡ true
      → member_parameters m a ≡ true → member_parameters n a ≡ true → member_tree_nodes shown m a b k i vs ≡ member_tree_nodes shown n a x k j ws → Once m n b x vs ws
  member_once (leaf n) (leaf m) a b x k i j vs ws g h p q t =
      let u = alike Leaf Leaf b x false false k n m vs ws t in (ap leaf u.name, u.solid, u.rest)
  member_once (leaf n) (inner (flow m qs tw e s es)) a b x k i j vs ws g h p q t =
      let u = alike Leaf FlowKind b x false tw k n m _ _ t in
      let v : ◌≡◌ {A = ℕ} 0 1 = cc u.kind in
      let z : ⊥ = omega arith in
      absurd z
  member_once (inner (flow n ps sw c r cs)) (leaf m) a b x k i j vs ws g h p q t =
      let u = alike FlowKind Leaf b x sw false k n m _ _ t in
      let v : ◌≡◌ {A = ℕ} 0 1 = cc u.kind in
      let z : ⊥ = omega arith in
      absurd z
  member_once (inner f) (inner e) a b x k i j vs ws g h p q t = let v = flow_once f e a b x k i j vs ws g h p q t in (ap inner v.0, v.1, v.2)

  members_once : (ms ns : Members) (a : List Name) (k i j : ℕ) (vs ws : List ShownNode) → low k vs ≡ true → low k ws ≡ true
      → members_parameters ms a ≡ true → members_parameters ns a ≡ true → members_tree_nodes shown ms a (suc k) i vs ≡ members_tree_nodes shown ns a (suc k) j ws → (ms ≡ ns) × (vs ≡ ws)
  members_once end end a k i j vs ws g h p q t = (refl, t)
  members_once end (also n ns) a k i j vs ws g h p q t = ended (plain n) a false k j _ vs g t
  members_once (also m ms) end a k i j vs ws g h p q t = ended (plain m) a false k i _ ws h (sym t)
  members_once (also m ms) (also n ns) a k i j vs ws g h p q t =
      let v = member_once m n a false false (suc k) i j _ _ (members_low ms a k _ vs g) (members_low ns a k _ ws h)
      (and_l (member_parameters m a) (members_parameters ms a) p) (and_l (member_parameters n a) (members_parameters ns a) q) t in
      let w = members_once ms ns a k _ _ vs ws g h (and_r (member_parameters m a) (members_parameters ms a) p)
      (and_r (member_parameters n a) (members_parameters ns a) q) v.2 in
      (cc (v.0, w.0), w.1)

-- One tree at most has these nodes.
pub one_tree : (d e : Flow) → flow_parameters d [] ≡ true → flow_parameters e [] ≡ true → nodes_by shown d ≡ nodes_by shown e → d ≡ e
one_tree d e p q t = (flow_once d e [] false false 1 0 0 [] [] refl refl p q t).0
