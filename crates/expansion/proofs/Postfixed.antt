-- What the walk over the nodes of a diagram writes is its process in postfix order.
use mathlib.Core.Path.{◌≡◌, refl, sym, ◌∙◌, ap}
use mathlib.Core.Bool.{Bool, true, false, ◌&&◌}
use mathlib.Core.List.{List, [], ◌∷◌, ◌++◌}
use Prim.Native.Nat.{ℕ, zero, suc, ◌+◌, ◌*◌, ◌≤◌}
use native.Mathlib.Nat.{zero-add}
use native.Mathlib.Omega.{arith}
use lib.Dec.{leb}
use lib.ListN.{length, drop}
use borrow.Author.Tests.{leb-true}
use Rattle.base.specs.Fill.{fill}
use Rattle.base.proofs.Truth.{and_l, and_r}
use Rattle.base.proofs.Filled.{fill_none}
use Rattle.diagram.specs.Tree.{Name, Way, all, some, one, Flow, flow, Children, none, next, Child, plain, loop, group, replicator, Member, leaf, inner, Members, end, also}
use Rattle.diagram.specs.Count.{flow_nodes, children_nodes, child_nodes, member_nodes, members_nodes, flow_events, child_events, member_events}
use Rattle.diagram.specs.Depth.{flow_depth, children_depth, child_depth, member_depth, members_depth}
use Rattle.diagram.specs.Sizes.{flow_sized, children_sized, child_sized, member_sized, members_sized}
use Rattle.diagram.specs.declared.Diagram.{Diagram}
use Rattle.reading.specs.Shows.{Shows}
use Rattle.diagram.specs.TreeNodes.{ShownNode, shown, group_kind, replicator_kind, nodes_by, flow_tree_nodes, children_tree_nodes, child_tree_nodes, member_tree_nodes, members_tree_nodes}
use Rattle.process.specs.Process.{Joint, seq, Process, join}
use Rattle.process.specs.Expand.{leaf_copy, reset_of, joint, expand, flow_process, children_process, child_process, loop_process, member_process, members_process}
use Rattle.process.proofs.Events.{expand_laid}
use Rattle.diagram.specs.declared.Kind.{Kind}
use Rattle.diagram.specs.declared.Kind.TheVariants.{Flow as FlowNode, Loop}
use Rattle.diagram.specs.declared.Node.{Node}
use Rattle.nodes.specs.declared.Form.TheVariants.{Joined as JoinedForm}
use Rattle.nodes.specs.Nodes.{form_of, depth_at}
use Rattle.postfix.specs.declared.Code.{Code}
use Rattle.std.specs.Prelude.{Some, None}
use Rattle.postfix.specs.Postfix.{joint_code, postfix}
use Rattle.expansion.specs.Walks.{place, expanded}
use Rattle.expansion.proofs.ShownNodes.{Shown, nodes_shown, shown_depth, first}
use Rattle.expansion.proofs.Writing.{written}
use Rattle.postfix.proofs.Short.{long_join, postfix_short}
use Rattle.expansion.proofs.Longer.{children_longer, members_longer}
use Rattle.expansion.proofs.Joins.{Here, here, Walked, Joined, walked_to, joined_to, leaf_walked, again_walked, rounds_walked, parts_walked, no_further, one_further, copies_walked}
use Rattle.expansion.proofs.Trees.{drop_both, child_past, member_past, member_first, child_first, children_first, members_first, member_some, child_some}

-- A constructor of members, and a replicator: how their parts are joined.
pub group_form : (y : Way) → form_of (group_kind y) ≡ JoinedForm (joint_code (joint y)) None
group_form all = refl
group_form some = refl
group_form one = refl

pub replicator_form : (y : Way) (size : ℕ) → 1 ≤ size → form_of (replicator_kind y size) ≡ JoinedForm (joint_code (joint y)) (Some size)
replicator_form y zero h = let z : ⊥ = omega arith in absurd z
replicator_form all (suc n) h = refl
replicator_form some (suc n) h = refl
replicator_form one (suc n) h = refl

module _ (lent : List Code) {ns : List Node} (vs : List ShownNode) (shows : Shown ns vs) where
  -- The depth of a node, by what stands from it on.
  depth_is : (i d : ℕ) (l : List ShownNode) → drop i vs ≡ l → first shown_depth l ≡ d → depth_at ns i ≡ d
  depth_is i d l h e = shows.depth_here i ∙ (ap (first shown_depth) h ∙ e)

  -- There is no further part of node i where what follows is no deeper than it.
  stops : {i d at : ℕ} {kind : Kind} (l : List ShownNode) → Here ns i kind d → drop at vs ≡ l → first shown_depth l ≤ d → (left n : ℕ) (j : Joint) (p : Process)
      → Joined lent ns left i j None n at at p p
  stops {i} {d} {at} l h pos e left n j p =
      let a = depth_is at (first shown_depth l) l pos refl in
      let b = h.depth_is in
      no_further lent ns left i j None n p (omega arith)

  flow_here : (f : Flow) (a : List Name) (b : Bool) (d i l : ℕ) (more : List ShownNode) → drop i vs ≡ flow_tree_nodes shown f a b d l more
      → Here ns i FlowNode d
  unfolding flow_tree_nodes
  flow_here (flow n ps sw c r cs) a b d i l more pos = here shows i _ _ pos

  -- The walk over a tree writes its process, and stands after its nodes. What comes after the tree is no deeper than it.
  mutual
    unfolding flow_process flow_tree_nodes flow_nodes flow_depth flow_sized

    flow_walked : (f : Flow) (a : List Name) (left : ℕ) (b : Bool) (d i l : ℕ) (more : List ShownNode) → flow_depth f ≤ left → flow_sized f ≡ true
        → flow_nodes f ≤ 256 → first shown_depth more ≤ d → drop i vs ≡ flow_tree_nodes shown f a b d l more → (vals : List ℕ) (e : ℕ)
        → Walked lent ns left i (i + flow_nodes f) (flow_process f vals e)
    flow_walked (flow n ps sw c r cs) a zero b d i l more deep sized few after pos vals e = let z : ⊥ = omega arith in absurd z
    flow_walked (flow n ps sw c r cs) a (suc left) b d i l more deep sized few after pos vals e =
        let h = here shows i _ _ pos in
        let inside = drop_both vs i 1 pos refl in
        let past = drop_both vs (i + 1) (child_nodes c) inside (child_past c a r (suc d) _ _) in
        parts_walked lent ns left i seq None h refl
        (child_walked c a left r (suc d) (i + 1) _ _ (omega arith) (and_l (child_sized c) (children_sized cs) sized)
        (omega arith) (children_first cs a (suc d) _ more (omega arith)) inside vals e)
        (joined_to (omega arith)
        (children_walked cs a left i 255 d (i + 1 + child_nodes c) _ more h (omega arith) (and_r (child_sized c) (children_sized cs) sized)
        (omega arith) (omega arith) after past vals (child_process c vals e) (e + child_events c)))
        (children_longer cs vals (child_process c vals e) (e + child_events c))

    children_walked : (cs : Children) (a : List Name) (left i n d at l : ℕ) (more : List ShownNode) → Here ns i FlowNode d → children_depth cs ≤ left
        → children_sized cs ≡ true → children_nodes cs ≤ n → n ≤ 255 → first shown_depth more ≤ d → drop at vs ≡ children_tree_nodes shown cs a (suc d) l more
        → (vals : List ℕ) (p : Process) (e : ℕ) → Joined lent ns left i seq None n at (at + children_nodes cs) p (children_process cs vals p e)
    children_walked none a left i n d at l more h deep sized few most after pos vals p e = joined_to (omega arith) (stops more h pos after left n seq p)
    children_walked (next c r cs) a left i zero d at l more h deep sized few most after pos vals p e =
        let z : ⊥ = omega (arith, child_some c) in absurd z
    children_walked (next c r cs) a left i (suc n) d at l more h deep sized few most after pos vals p e =
        let rest = children_tree_nodes shown cs a (suc d) (l + child_nodes c) more in
        let one_more = child_some c in
        let deeper = depth_is at (suc d) _ pos (child_first c a r (suc d) l rest) in
        let q = join seq p (child_process c vals e) in
        one_further lent ns left i seq h refl (omega arith)
        (child_walked c a left r (suc d) at l rest (omega arith) (and_l (child_sized c) (children_sized cs) sized) (omega arith)
        (children_first cs a (suc d) _ more (omega arith)) pos vals e)
        (joined_to (omega arith)
        (children_walked cs a left i n d (at + child_nodes c) _ more h (omega arith) (and_r (child_sized c) (children_sized cs) sized)
        (omega arith) (omega arith) after (drop_both vs at (child_nodes c) pos (child_past c a r (suc d) l rest)) vals q (e + child_events c)))
        (children_longer cs vals q (e + child_events c))

    child_walked : (c : Child) (a : List Name) (left : ℕ) (b : Bool) (d i l : ℕ) (more : List ShownNode) → child_depth c ≤ left → child_sized c ≡ true
        → child_nodes c ≤ 256 → first shown_depth more ≤ d → drop i vs ≡ child_tree_nodes shown c a b d l more → (vals : List ℕ) (e : ℕ)
        → Walked lent ns left i (i + child_nodes c) (child_process c vals e)
    child_walked (plain m) a left b d i l more deep sized few after pos vals e = member_walked m a left b d i l more deep sized few after pos vals e
    child_walked (loop m) a zero b d i l more deep sized few after pos vals e = let z : ⊥ = omega arith in absurd z
    child_walked (loop m) a (suc left) b d i l more deep sized few after pos vals e =
        loop_walked m a left d i _ more (omega arith) sized (omega arith) after (here shows i _ _ pos) (drop_both vs i 1 pos refl) vals e
    child_walked (group y m k ms) a zero b d i l more deep sized few after pos vals e = let z : ⊥ = omega arith in absurd z
    child_walked (group y m k ms) a (suc left) b d i l more deep sized few after pos vals e =
        let h = here shows i _ _ pos in
        let rest = members_tree_nodes shown ms a (suc d) (suc l + member_nodes m + member_nodes k) more in
        let inside = drop_both vs i 1 pos refl in
        let second = drop_both vs (i + 1) (member_nodes m) inside (member_past m a false (suc d) _ _) in
        let past = drop_both vs (i + 1 + member_nodes m) (member_nodes k) second (member_past k a false (suc d) _ rest) in
        let deeper = depth_is (i + 1 + member_nodes m) (suc d) _ second (member_first k a false (suc d) _ rest) in
        let one_more = member_some k in
        let both = and_r (member_sized m) (member_sized k && members_sized ms) sized in
        let p = member_process m vals e in
        let q = member_process k vals (e + member_events m) in
        let f = e + member_events m + member_events k in
        parts_walked lent ns left i (joint y) None h (group_form y)
        (member_walked m a left false (suc d) (i + 1) _ _ (omega arith) (and_l (member_sized m) (member_sized k && members_sized ms) sized) (omega arith)
        (omega (arith, member_first k a false (suc d) (suc l + member_nodes m) rest)) inside vals e)
        (one_further lent ns left i (joint y) {n = 254} h refl (omega arith)
        (member_walked k a left false (suc d) (i + 1 + member_nodes m) _ rest (omega arith) (and_l (member_sized k) (members_sized ms) both) (omega arith)
        (members_first ms a (suc d) _ more (omega arith)) second vals (e + member_events m))
        (joined_to (omega arith)
        (members_walked ms a (joint y) left i 254 d (i + 1 + member_nodes m + member_nodes k) _ more h (omega arith)
        (and_r (member_sized k) (members_sized ms) both) (omega arith) (omega arith) after past vals (join (joint y) p q) f))
        (members_longer ms (joint y) vals (join (joint y) p q) f))
        (omega (arith, long_join (joint y) p q, members_longer ms (joint y) vals (join (joint y) p q) f))
    child_walked (replicator y par size m) a zero b d i l more deep sized few after pos vals e = let z : ⊥ = omega arith in absurd z
    child_walked (replicator y par size m) a (suc left) b d i l more deep sized few after pos vals e =
        let h = here shows i _ _ pos in
        let inside = drop_both vs i 1 pos refl in
        let deeper = depth_is (i + 1) (suc d) _ inside (member_first m _ false (suc d) _ more) in
        let some = leb-true 1 size (and_l (leb 1 size) (leb size 16) (and_l (leb 1 size && leb size 16) (member_sized m) sized)) in
        walked_to (omega arith)
        (copies_walked lent ns left i (joint y) (λ v. member_process m (vals ++ (v ∷ [])) (e + v * member_events m)) size h (replicator_form y size some) (omega arith)
        (λ v. member_walked m _ left false (suc d) (i + 1) _ more (omega arith) (and_r (leb 1 size && leb size 16) (member_sized m) sized)
        (omega arith) (omega arith) inside (vals ++ (v ∷ [])) (e + v * member_events m)))

    loop_walked : (m : Member) (a : List Name) (left d i l : ℕ) (more : List ShownNode) → member_depth m ≤ left → member_sized m ≡ true
        → member_nodes m ≤ 256 → first shown_depth more ≤ d → Here ns i Loop d → drop (i + 1) vs ≡ member_tree_nodes shown m a false (suc d) l more
        → (vals : List ℕ) (e : ℕ) → Walked lent ns (suc left) i (i + (1 + member_nodes m)) (loop_process m vals e)
    loop_walked (leaf n) a left d i l more deep sized few after h pos vals e =
        walked_to (omega arith) (again_walked lent ns left i e (leaf_copy n vals) h (here shows (i + 1) _ _ pos))
    loop_walked (inner f) a left d i l more deep sized few after h pos vals e =
        walked_to (omega arith)
        (rounds_walked lent ns left i (e + flow_events f) (reset_of f vals) h (flow_here f a false (suc d) (i + 1) l more pos)
        (flow_walked f a left false (suc d) (i + 1) l more deep sized few (omega arith) pos vals e))

    member_walked : (m : Member) (a : List Name) (left : ℕ) (b : Bool) (d i l : ℕ) (more : List ShownNode) → member_depth m ≤ left → member_sized m ≡ true
        → member_nodes m ≤ 256 → first shown_depth more ≤ d → drop i vs ≡ member_tree_nodes shown m a b d l more → (vals : List ℕ) (e : ℕ)
        → Walked lent ns left i (i + member_nodes m) (member_process m vals e)
    member_walked (leaf n) a zero b d i l more deep sized few after pos vals e = let z : ⊥ = omega arith in absurd z
    member_walked (leaf n) a (suc left) b d i l more deep sized few after pos vals e =
        leaf_walked lent ns left i e (leaf_copy n vals) (here shows i _ _ pos)
    member_walked (inner f) a left b d i l more deep sized few after pos vals e = flow_walked f a left b d i l more deep sized few after pos vals e

    members_walked : (ms : Members) (a : List Name) (j : Joint) (left i n d at l : ℕ) {kind : Kind} (more : List ShownNode)
        → Here ns i kind d → members_depth ms ≤ left
        → members_sized ms ≡ true → members_nodes ms ≤ n → n ≤ 255 → first shown_depth more ≤ d → drop at vs ≡ members_tree_nodes shown ms a (suc d) l more
        → (vals : List ℕ) (p : Process) (e : ℕ) → Joined lent ns left i j None n at (at + members_nodes ms) p (members_process ms j vals p e)
    members_walked end a j left i n d at l more h deep sized few most after pos vals p e = joined_to (omega arith) (stops more h pos after left n j p)
    members_walked (also m ms) a j left i zero d at l more h deep sized few most after pos vals p e =
        let z : ⊥ = omega (arith, member_some m) in absurd z
    members_walked (also m ms) a j left i (suc n) d at l more h deep sized few most after pos vals p e =
        let rest = members_tree_nodes shown ms a (suc d) (l + member_nodes m) more in
        let one_more = member_some m in
        let deeper = depth_is at (suc d) _ pos (member_first m a false (suc d) l rest) in
        let q = join j p (member_process m vals e) in
        one_further lent ns left i j h refl (omega arith)
        (member_walked m a left false (suc d) at l rest (omega arith) (and_l (member_sized m) (members_sized ms) sized) (omega arith)
        (members_first ms a (suc d) _ more (omega arith)) pos vals e)
        (joined_to (omega arith)
        (members_walked ms a j left i n d (at + member_nodes m) _ more h (omega arith) (and_r (member_sized m) (members_sized ms) sized)
        (omega arith) (omega arith) after (drop_both vs at (member_nodes m) pos (member_past m a false (suc d) l rest)) vals q (e + member_events m)))
        (members_longer ms j vals q (e + member_events m))

-- The walk over the whole diagram writes its process in postfix order over the front of the lent codes, and leaves the rest.
pub expansion_exact : (text : List ℕ) (d : Flow) (g : Diagram) → Shows text d g → flow_sized d ≡ true → flow_depth d ≤ 12 → flow_nodes d ≤ 256
    → flow_events d ≤ 512 → (lent : List Code)
    → expanded g lent ≡ place (flow_nodes d) (length (postfix (expand d))) (fill lent (postfix (expand d)))
unfolding expanded
expansion_exact text d g shows sized deep few short lent =
    let vs = nodes_by shown d in
    let end = (expand_laid d sized).end in
    let less = postfix_short (expand d) in
    let start : place 0 0 lent ≡ written lent 0 [] = ap (place 0 0) (sym (fill_none lent)) in
    rw start
    ((flow_walked lent vs (nodes_shown text g vs shows.nodes) d [] 12 false 1 0 0 [] deep sized few (omega arith) refl [] 0).law [] (omega arith) ∙ rw (zero-add (flow_nodes d)))
