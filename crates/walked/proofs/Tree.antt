-- What the walk leaves of a tree: over its tokens it ends whole, and the rows tell its nodes.
use mathlib.Core.Path.{◌≡◌, refl}
use mathlib.Core.Bool.{true}
use mathlib.Core.List.{List, [], ◌∷◌, ◌++◌}
use Prim.Native.Nat.{ℕ, suc, ◌+◌, ◌-◌, ◌≤◌, ◌<◌}
use native.Mathlib.Omega.{arith}
use Rattle.diagram.specs.Tree.{Name, Flow, flow, Children, none, next, Child, plain, loop, group, replicator, Member, leaf, inner, Members, end, also}
use Rattle.diagram.specs.Count.{flow_nodes, children_nodes, child_nodes, member_nodes, members_nodes}
use Rattle.diagram.specs.Depth.{flow_depth, children_depth, child_depth, member_depth, members_depth}
use Rattle.diagram.specs.TreeNodes.{own, flow_tree_nodes}
use Rattle.tokens.specs.Words.{keywords}
use Rattle.tokens.specs.Token.{closing, Keyword, Token}
use Rattle.grammar.specs.Tokens.{ref_tokens, flow_tokens, children_tokens, members_tokens}
use Rattle.grammar.specs.Machine.{Place, member, child, allows, sign, node, more, others}
use Rattle.grammar.proofs.Fit.{FitFlow, FitChildren, FitChild, FitMember, FitMembers}
use Rattle.grammar.proofs.Stack.{shape}
use Rattle.grammar.proofs.Nodes.{opened}
use Rattle.walked.specs.Walk.{waiting}
use Rattle.walked.proofs.Nodes.{Walks, MemberWalks, ChildWalks, MembersPass, ChildrenPass, last_closed, members_end, children_none, member_then, child_then, members_also, children_next, leaf_walks, loop_walks, group_walks, replicator_walks, flow_walks}

member_some : (a : Member) → 0 < member_nodes a
unfolding flow_nodes
member_some (leaf t) = omega arith
member_some (inner (flow t ps sw c r cs)) = omega arith

child_some : (c : Child) → 0 < child_nodes c
unfolding flow_nodes
child_some (plain a) = member_some a
child_some (loop a) = omega arith
child_some (group y a o ms) = omega arith
child_some (replicator y par z a) = omega arith

member_allowed : (a : Member) → allows member (shape (plain a)) ≡ true
member_allowed (leaf t) = refl
member_allowed (inner f) = refl

-- A part of so many nodes and depths, that begins with the node n and ends before the node m: with d depths left for its nodes at depth x, it is
-- within the limits.
pub record Fits (nodes depths d x n m : ℕ) : Type 0 where
  pub left : d + x ≡ 13
  pub deep : depths ≤ d
  pub counted : m ≡ n + nodes
  pub few : m ≤ 256

module _ (text : List ℕ) where
  mutual
    unfolding flow_tokens flow_nodes flow_depth flow_tree_nodes

    pub flow_all : (f : Flow) (around : List Name) (place : Place) (us : List Token) (d x n m : ℕ) → allows place Keyword.flow ≡ true
        → Fits (flow_nodes f) (flow_depth f) d x n m → FitFlow keywords f
        → Walks text (node place d) (λ s. waiting place n s) (flow_tokens f us) us (λ b hs. flow_tree_nodes own f around b x n hs) n m
    flow_all (flow t ps sw c r cs) around place us d x n m A F g =
        flow_walks text around d x n m F.left (omega arith) (omega arith) F.few place t ps sw c r cs us A g.1
        (child_then text around (d - 1) (suc x) us (suc n) m c r cs (omega (arith, child_some c))
        (child_all c around (ref_tokens r (children_tokens cs (Token.sign closing ∷ us))) (d - 1) (suc x) (suc n) (suc n + child_nodes c) (omega arith) g.2)
        (children_all cs around us (d - 1) (suc x) (suc n + child_nodes c) m (omega arith) g.3))

    children_all : (cs : Children) (around : List Name) (us : List Token) (d x n m : ℕ) → Fits (children_nodes cs) (children_depth cs) d x n m
        → FitChildren keywords cs → ChildrenPass text around d x (more d ∷ []) cs us n m
    children_all none around us d x n m F g = children_none text around d x us n m (omega arith)
    children_all (next c r cs) around us d x n m F g =
        let o = opened keywords 0 (ref_tokens r (children_tokens cs (Token.sign closing ∷ us))) c g.0 in
        children_next text around d x us n m c r cs (shape c) o.0 o.1
        (child_then text around d x us n m c r cs (omega (arith, child_some c))
        (child_all c around (ref_tokens r (children_tokens cs (Token.sign closing ∷ us))) d x n (n + child_nodes c) (omega arith) g.0)
        (children_all cs around us d x (n + child_nodes c) m (omega arith) g.1))

    child_all : (c : Child) (around : List Name) (us : List Token) (d x n m : ℕ) → Fits (child_nodes c) (child_depth c) d x n m → FitChild keywords c
        → ChildWalks text around d x c us n m
    child_all (plain a) around us d x n m F g = member_all a around child us d x n m refl refl F g
    child_all (loop a) around us d x n m F g =
        loop_walks text around d x n m F.left (omega arith) (omega arith) F.few a us
        (member_then text around (d - 1) (suc x) us (suc n) m (sign closing ∷ []) a end
        (member_all a around member (Token.sign closing ∷ us) (d - 1) (suc x) (suc n) (suc n + member_nodes a) refl refl (omega arith) g)
        (last_closed text around (d - 1) (suc x) us (suc n + member_nodes a) m (omega arith)))
    child_all (group y a o ms) around us d x n m F g =
        let ts = members_tokens ms (Token.sign closing ∷ us) in
        let m₁ = suc n + member_nodes a in
        group_walks text around d x n m F.left (omega arith) (omega arith) F.few y a o ms us
        (member_then text around (d - 1) (suc x) us (suc n) m (node member (d - 1) ∷ others (d - 1) ∷ []) a (also o ms)
        (member_all a around member (members_tokens (also o ms) (Token.sign closing ∷ us)) (d - 1) (suc x) (suc n) m₁ refl refl (omega arith) g.0)
        (member_then text around (d - 1) (suc x) us m₁ m (others (d - 1) ∷ []) o ms
        (member_all o around member ts (d - 1) (suc x) m₁ (m₁ + member_nodes o) refl refl (omega arith) g.1)
        (members_all ms around us (d - 1) (suc x) (m₁ + member_nodes o) m (omega arith) g.2)))
    child_all (replicator y par s a) around us d x n m F g =
        replicator_walks text around d x n m F.left (omega arith) (omega arith) F.few y par s a us g.1
        (member_then text (around ++ (par ∷ [])) (d - 1) (suc x) us (suc n) m (sign closing ∷ []) a end
        (member_all a (around ++ (par ∷ [])) member (Token.sign closing ∷ us) (d - 1) (suc x) (suc n) (suc n + member_nodes a) refl refl (omega arith) g.2)
        (last_closed text (around ++ (par ∷ [])) (d - 1) (suc x) us (suc n + member_nodes a) m (omega arith)))

    member_all : (a : Member) (around : List Name) (place : Place) (us : List Token) (d x n m : ℕ) → allows place Keyword.flow ≡ true
        → allows place Keyword.leaf ≡ true → Fits (member_nodes a) (member_depth a) d x n m → FitMember keywords a → MemberWalks text around d x place a us n m
    member_all (leaf t) around place us d x n m A B F g =
        leaf_walks text around d x n m F.left (omega arith) (omega arith) F.few place t us B
        (last_closed text around (d - 1) (suc x) us (suc n) m (omega arith))
    member_all (inner f) around place us d x n m A B F g = flow_all f around place us d x n m A F g

    members_all : (ms : Members) (around : List Name) (us : List Token) (d x n m : ℕ) → Fits (members_nodes ms) (members_depth ms) d x n m
        → FitMembers keywords ms → MembersPass text around d x (others d ∷ []) ms us n m
    members_all end around us d x n m F g = members_end text around d x us n m (omega arith)
    members_all (also a ms) around us d x n m F g =
        let ts = members_tokens ms (Token.sign closing ∷ us) in
        let o = opened keywords 0 ts (plain a) g.0 in
        members_also text around d x us n m a ms (shape (plain a)) o.0 (member_allowed a) o.1
        (member_then text around d x us n m (others d ∷ []) a ms
        (member_all a around member ts d x n (n + member_nodes a) refl refl (omega arith) g.0)
        (members_all ms around us d x (n + member_nodes a) m (omega arith) g.1))
