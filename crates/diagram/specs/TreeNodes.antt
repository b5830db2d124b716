-- The nodes of a tree in the order of the text: "Leaves, flows and constructors are nodes. Each node's kind, with its size where it has one, stands in its
-- record beside the solid mark. The root has depth 1." One list for all who ask about nodes: what they want of each is a function of it.
use Rattle.std.specs.Prelude.{Bool, true, false, ◌||◌, cond, List, [], ◌∷◌, ◌++◌, ℕ, suc, ◌+◌}
use Rattle.diagram.specs.Tree.{Name, Way, all, some, one, Flow, flow, Children, none, next, Child, plain, loop, group, replicator, Member, leaf, inner, Members, end, also}
use Rattle.diagram.specs.Count.{child_nodes, member_nodes}
use Rattle.diagram.specs.declared.Kind.{Kind}
use Rattle.diagram.specs.declared.Kind.TheVariants.{Flow as FlowNode, Leaf, And, Or, Xor, All, Some, One, Loop}

-- What the tokens of a node say of it: how many nodes stand before it; its kind, with its size where it has one; its solid mark; whether a flow's sw
-- is 1, false for any other node; its depth; the name of a leaf or flow or the par of a replicator; a flow's pars as it lists them.
pub record TextNode : Type 0 where
  pub number : ℕ
  pub kind : Kind
  pub solid : Bool
  pub strong : Bool
  pub depth : ℕ
  pub name : Name
  pub pars : List Name

-- With what stands around and below it: the pars of the replicators around it, outermost first, and the kinds of a flow's solid children.
pub record TreeNode : Type 0 where
  pub own : TextNode
  pub around : List Name
  pub solids : List Kind

-- What a diagram by value shows of it. These determine the tree where it keeps the parameter rules: `diagram.proofs.OneTree.one_tree`.
pub record ShownNode : Type 0 where
  pub kind : Kind
  pub solid : Bool
  pub strong : Bool
  pub depth : ℕ
  pub name : Name

abbrev pub shown_as : Kind → Bool → Bool → ℕ → Name → ShownNode
shown_as k b sw d n = record { kind = k; solid = b; strong = sw; depth = d; name = n }

abbrev pub own : TreeNode → TextNode
own h = h.own

abbrev pub shown : TreeNode → ShownNode
shown h = shown_as h.own.kind h.own.solid h.own.strong h.own.depth h.own.name

-- What is asked of a kind.
abbrev pub flowing : Kind → Bool
flowing FlowNode = true
flowing Leaf = false
flowing And = false
flowing Or = false
flowing Xor = false
flowing (All size) = false
flowing (Some size) = false
flowing (One size) = false
flowing Loop = false

abbrev pub leafy : Kind → Bool
leafy FlowNode = false
leafy Leaf = true
leafy And = false
leafy Or = false
leafy Xor = false
leafy (All size) = false
leafy (Some size) = false
leafy (One size) = false
leafy Loop = false

abbrev pub looping : Kind → Bool
looping FlowNode = false
looping Leaf = false
looping And = false
looping Or = false
looping Xor = false
looping (All size) = false
looping (Some size) = false
looping (One size) = false
looping Loop = true

-- "`all`, likewise `some`, `one` (the replicators)"
abbrev pub copying : Kind → Bool
copying FlowNode = false
copying Leaf = false
copying And = false
copying Or = false
copying Xor = false
copying (All size) = true
copying (Some size) = true
copying (One size) = true
copying Loop = false

-- A leaf or a flow has a name, a replicator a par.
abbrev pub titled : Kind → Bool
titled k = flowing k || leafy k

abbrev pub has_name : Kind → Bool
has_name k = flowing k || (leafy k || copying k)

abbrev pub size_of : Kind → ℕ
size_of FlowNode = 0
size_of Leaf = 0
size_of And = 0
size_of Or = 0
size_of Xor = 0
size_of (All size) = size
size_of (Some size) = size
size_of (One size) = size
size_of Loop = 0

-- "a leaf, flow, xor or one": what a solid child may be, by its kind.
abbrev pub may_be_solid : Kind → Bool
may_be_solid FlowNode = true
may_be_solid Leaf = true
may_be_solid And = false
may_be_solid Or = false
may_be_solid Xor = true
may_be_solid (All size) = false
may_be_solid (Some size) = false
may_be_solid (One size) = true
may_be_solid Loop = false

abbrev pub group_kind : Way → Kind
group_kind all = And
group_kind some = Or
group_kind one = Xor

abbrev pub replicator_kind : Way → ℕ → Kind
replicator_kind all size = All size
replicator_kind some size = Some size
replicator_kind one size = One size

abbrev pub child_kind : Child → Kind
child_kind (plain (leaf n)) = Leaf
child_kind (plain (inner f)) = FlowNode
child_kind (loop m) = Loop
child_kind (group y a e ms) = group_kind y
child_kind (replicator y par size m) = replicator_kind y size

abbrev pub solid_kinds : Children → List Kind
solid_kinds none = []
solid_kinds (next c r cs) = cond r (child_kind c ∷ solid_kinds cs) (solid_kinds cs)

-- A node of any other kind than a flow, and a flow.
abbrev pub text_node : ℕ → Kind → Bool → ℕ → Name → TextNode
text_node i k b d n = record { number = i; kind = k; solid = b; strong = false; depth = d; name = n; pars = [] }

abbrev pub flow_text_node : ℕ → Bool → Bool → ℕ → Name → List Name → TextNode
flow_text_node i b sw d n ps = record { number = i; kind = FlowNode; solid = b; strong = sw; depth = d; name = n; pars = ps }

abbrev pub tree_node : TextNode → List Name → List Kind → TreeNode
tree_node t around ks = record { own = t; around = around; solids = ks }

-- What g wants of the nodes of a tree, inside the replicators whose pars are `around`: the first is a solid child or not, is at depth d and has the number i;
-- and then the values given.
unfoldable mutual
  pub flow_tree_nodes : {A : Type 0} → (TreeNode → A) → Flow → List Name → Bool → ℕ → ℕ → List A → List A
  flow_tree_nodes g (flow n ps sw c r cs) around b d i vs =
      g (tree_node (flow_text_node i b sw d n ps) around (solid_kinds (next c r cs)))
      ∷ child_tree_nodes g c around r (suc d) (suc i) (children_tree_nodes g cs around (suc d) (suc i + child_nodes c) vs)

  pub children_tree_nodes : {A : Type 0} → (TreeNode → A) → Children → List Name → ℕ → ℕ → List A → List A
  children_tree_nodes g none around d i vs = vs
  children_tree_nodes g (next c r cs) around d i vs =
      child_tree_nodes g c around r d i (children_tree_nodes g cs around d (i + child_nodes c) vs)

  pub child_tree_nodes : {A : Type 0} → (TreeNode → A) → Child → List Name → Bool → ℕ → ℕ → List A → List A
  child_tree_nodes g (plain m) around b d i vs = member_tree_nodes g m around b d i vs
  child_tree_nodes g (loop m) around b d i vs =
      g (tree_node (text_node i Loop b d []) around []) ∷ member_tree_nodes g m around false (suc d) (suc i) vs
  child_tree_nodes g (group y m e ms) around b d i vs =
      g (tree_node (text_node i (group_kind y) b d []) around [])
      ∷ member_tree_nodes g m around false (suc d) (suc i)
      (member_tree_nodes g e around false (suc d) (suc i + member_nodes m)
      (members_tree_nodes g ms around (suc d) (suc i + member_nodes m + member_nodes e) vs))
  child_tree_nodes g (replicator y par size m) around b d i vs =
      g (tree_node (text_node i (replicator_kind y size) b d par) around [])
      ∷ member_tree_nodes g m (around ++ (par ∷ [])) false (suc d) (suc i) vs

  pub member_tree_nodes : {A : Type 0} → (TreeNode → A) → Member → List Name → Bool → ℕ → ℕ → List A → List A
  member_tree_nodes g (leaf n) around b d i vs = g (tree_node (text_node i Leaf b d n) around []) ∷ vs
  member_tree_nodes g (inner f) around b d i vs = flow_tree_nodes g f around b d i vs

  pub members_tree_nodes : {A : Type 0} → (TreeNode → A) → Members → List Name → ℕ → ℕ → List A → List A
  members_tree_nodes g end around d i vs = vs
  members_tree_nodes g (also m ms) around d i vs =
      member_tree_nodes g m around false d i (members_tree_nodes g ms around d (i + member_nodes m) vs)

-- Those of a whole diagram: "The root has depth 1."
abbrev pub nodes_by : {A : Type 0} → (TreeNode → A) → Flow → List A
nodes_by g d = flow_tree_nodes g d [] false 1 0 []
