-- Numbers 6 to 10 on trees: which node of a diagram is too many or too deep, or is the first that breaks a rule beyond grammar.
use Rattle.std.specs.Prelude.{Bool, true, ◌&&◌, ◌||◌, cond, List, [], ◌∷◌, ◌++◌, ℕ, suc, leb, length, get_or, take, Option, Some, None}
use Rattle.diagram.specs.Tree.{Name, Flow}
use Rattle.diagram.specs.Names.{equal, same, new}
use Rattle.diagram.specs.Parameters.{surrounded}
use Rattle.diagram.specs.TreeNodes.{TreeNode, flowing, copying, titled, nodes_by}
use Rattle.tokens.specs.Token.{other}
use Rattle.grammar.specs.Machine.{is_key}
use Rattle.grammar.specs.Tokens.{flow_tokens}
use Rattle.grammar.specs.Keys.{keys_from}
use Rattle.rules.specs.Kept.{one_of}

-- The depths of the nodes of a diagram.
abbrev pub depths_of : Flow → List ℕ
depths_of d = nodes_by (λ h. h.own.depth) d

-- Number 6: "node 257, or a node at depth 13". The node before which i nodes stand is number 257 or later, or at depth 13 or more; and, at "its keyword",
-- the token t of the diagram is the keyword of such a node, before which as many nodes stand as keywords.
abbrev pub node_over : Flow → ℕ → Bool
node_over d i = leb 257 (suc i) || leb 13 (get_or (depths_of d) i 0)

unfoldable pub too_big : Flow → ℕ → Bool
too_big d t =
    is_key (get_or (flow_tokens d []) t other) && node_over d (length (keys_from 0 (take t (flow_tokens d []))))

-- Number 7: the node whose name "equals an earlier leaf or flow name", those given being earlier.
abbrev pub names_of : TreeNode → List Name
names_of h = cond (titled h.own.kind) (h.own.name ∷ []) []

abbrev pub all_new : List Name → List Name → Bool
all_new [] seen = true
all_new (n ∷ ns) seen = new n seen && all_new ns seen

unfoldable pub first_twice : List Name → List TreeNode → Option ℕ
first_twice seen [] = None
first_twice seen (h ∷ hs) = cond (all_new (names_of h) seen) (first_twice (names_of h ++ seen) hs) (Some h.own.number)

-- Number 8: "A replicator's par differs from those of replicators around it; at most 3 replicators surround a node. A flow lists exactly
-- the pars of the replicators around it, outermost first."
abbrev pub parameters_fit : TreeNode → Bool
parameters_fit h =
    surrounded h.around
    && (cond (copying h.own.kind) (new h.own.name h.around) true
    && cond (flowing h.own.kind) (equal same h.own.pars h.around) true)

-- Number 9: "A flow has exactly one solid child: a leaf, flow, xor or one."
abbrev pub solids_fit : TreeNode → Bool
solids_fit h = cond (flowing h.own.kind) (one_of h.solids) true

-- Number 10: "sw is 1."
abbrev pub strongs_fit : TreeNode → Bool
strongs_fit h = cond (flowing h.own.kind) h.own.strong true

-- Numbers 8, 9 and 10: the first node that does not pass.
unfoldable pub first_broken : (TreeNode → Bool) → List TreeNode → Option ℕ
first_broken fit [] = None
first_broken fit (h ∷ hs) = cond (fit h) (first_broken fit hs) (Some h.own.number)
