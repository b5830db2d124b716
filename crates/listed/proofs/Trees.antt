-- What the walk over the nodes of a diagram tells are the events of its process in their order, so that it writes their lines.
use mathlib.Core.Path.{◌≡◌, refl, sym, ap, ap₂, ◌∙◌}
use mathlib.Core.Bool.{Bool, true, false, ◌&&◌}
use mathlib.Core.List.{List, [], ◌∷◌, ◌++◌}
use Prim.Native.Nat.{ℕ, zero, suc, ◌+◌, ◌*◌, ◌≤◌, ◌<◌}
use native.Mathlib.Omega.{arith}
use lib.Dec.{leb}
use lib.ListN.{length, drop, length-append}
use borrow.Author.Tests.{leb-true}
use Rattle.base.proofs.Truth.{and_l, and_r}
use Rattle.diagram.specs.Tree.{Name, Flow, flow, Children, none, next, Child, plain, loop, group, replicator, Member, leaf, inner, Members, end, also}
use Rattle.diagram.specs.Names.{equal, same, new}
use Rattle.diagram.specs.Count.{flow_nodes, children_nodes, child_nodes, member_nodes, members_nodes, flow_events, flow_copies, child_events, member_events}
use Rattle.diagram.specs.Depth.{flow_depth, children_depth, child_depth, member_depth, members_depth}
use Rattle.diagram.specs.Sizes.{flow_sized, children_sized, child_sized, member_sized, members_sized}
use Rattle.diagram.specs.Parameters.{surrounded, flow_parameters, children_parameters, child_parameters, member_parameters, members_parameters}
use Rattle.diagram.specs.declared.Diagram.{Diagram}
use Rattle.diagram.specs.TreeNodes.{ShownNode, shown, nodes_by, flow_tree_nodes, children_tree_nodes, child_tree_nodes, member_tree_nodes, members_tree_nodes}
use Rattle.diagram.proofs.Mapped.{nodes_counted}
use Rattle.tokens.specs.Words.{word_at}
use Rattle.reading.specs.Shows.{Shows}
use Rattle.output.specs.Buffer.{Buffer, put_all}
use Rattle.output.proofs.Buffers.{put_all_append}
use Rattle.diagram.specs.declared.Kind.{Kind}
use Rattle.diagram.specs.declared.Kind.TheVariants.{Flow as FlowNode, Loop}
use Rattle.diagram.specs.declared.Node.{Node}
use Rattle.nodes.specs.Nodes.{depth_at, name_at}
use Rattle.process.specs.Process.{Joint, seq, Process, event, join, events}
use Rattle.process.specs.Expand.{leaf_copy, flow_name, joint, expand, flow_process, children_process, child_process, loop_process, member_process, members_process}
use Rattle.process.proofs.Events.{events_counted}
use Rattle.expansion.proofs.ShownNodes.{shown_depth, first}
use Rattle.expansion.proofs.Trees.{drop_both, child_past, member_past, member_first, child_first, children_first, members_first, member_some, child_some}
use Rattle.labels.proofs.SearchByTree.{member_surrounded}
use Rattle.lines.specs.Lines.{first_line, lines}
use Rattle.lines.specs.code.Walks.{Place, told, walked, walked_listing}
use Rattle.listed.proofs.Told.{lines_told}
use Rattle.listed.proofs.ShownNodes.{Named, diagram_named}
use Rattle.expansion.proofs.Joins.{Here, here}
use Rattle.expansion.proofs.Postfixed.{group_form, replicator_form}
use Rattle.listed.proofs.Joins.{Walked, Joined, walked_to, joined_to, leaf_walked, again_walked, rounds_walked, parts_walked, first_part, no_further, one_further, copies_walked}

module _ {text : List ℕ} {ns : List Node} {vs : List ShownNode} (held : Named text ns vs) where
  -- The depth of a node, by what stands from it on.
  depth_is : (i d : ℕ) (l : List ShownNode) → drop i vs ≡ l → first shown_depth l ≡ d → depth_at ns i ≡ d
  depth_is i d l h e = held.nodes.depth_here i ∙ (ap (first shown_depth) h ∙ e)

  -- There is no further part of node i where what follows is no deeper than it.
  stops : {i d at : ℕ} {kind : Kind} {vals : List ℕ} (l : List ShownNode) → Here ns i kind d → drop at vs ≡ l → first shown_depth l ≤ d → (left n : ℕ) (p : Process)
      → Joined text ns left i n at at vals p p
  stops {i} {at = at} l h pos e left n p =
      let a = depth_is at (first shown_depth l) l pos refl in
      no_further text ns left i n p h (omega arith)

  flow_here : (f : Flow) (around : List Name) (b : Bool) (d i j : ℕ) (more : List ShownNode) → drop i vs ≡ flow_tree_nodes shown f around b d j more
      → Here ns i FlowNode d
  unfolding flow_tree_nodes
  flow_here (flow n ps sw a r cs) around b d i j more pos = here held.nodes i _ _ pos

  flow_named : (f : Flow) (around : List Name) (b : Bool) (d i j : ℕ) (more : List ShownNode)
      → drop i vs ≡ flow_tree_nodes shown f around b d j more → word_at text (name_at ns i) ≡ flow_name f
  unfolding flow_tree_nodes
  flow_named (flow n ps sw a r cs) around b d i j more pos = held.name_here i _ _ pos refl

  -- The walk over a tree tells its events, and stands after its nodes. What comes after the tree is no deeper than it.
  mutual
    unfolding flow_process flow_tree_nodes flow_nodes flow_depth flow_sized flow_parameters

    pub flow_walked : (f : Flow) (around : List Name) (left : ℕ) (b : Bool) (d i l : ℕ) (more : List ShownNode) → flow_depth f ≤ left → flow_sized f ≡ true
        → flow_nodes f ≤ 256 → first shown_depth more ≤ d → drop i vs ≡ flow_tree_nodes shown f around b d l more
        → (vals : List ℕ) → length around ≡ length vals → flow_parameters f around ≡ true → (e : ℕ)
        → Walked text ns left i (i + flow_nodes f) vals (flow_process f vals e)
    flow_walked (flow n ps sw a r cs) around zero b d i l more deep sized few after pos vals long kept e = let z : ⊥ = omega arith in absurd z
    flow_walked (flow n ps sw a r cs) around (suc left) b d i l more deep sized few after pos vals long kept e =
        let h = here held.nodes i _ _ pos in
        let inside = drop_both vs i 1 pos refl in
        let rest = children_tree_nodes shown cs around (suc d) (suc l + child_nodes a) more in
        let past = drop_both vs (i + 1) (child_nodes a) inside (child_past a around r (suc d) _ rest) in
        let deeper = depth_is (i + 1) (suc d) _ inside (child_first a around r (suc d) _ rest) in
        let kepts = and_r (surrounded around && equal same ps around) (child_parameters a around && children_parameters cs around) kept in
        let some = child_some a in
        parts_walked text ns left i held.few h refl
        (first_part text ns left i h (omega arith)
        (child_walked a around left r (suc d) (i + 1) _ rest (omega arith) (and_l (child_sized a) (children_sized cs) sized)
        (omega arith) (children_first cs around (suc d) _ more (omega arith)) inside vals long (and_l (child_parameters a around) (children_parameters cs around) kepts) e)
        (joined_to (omega arith)
        (children_walked cs around left i 254 d (i + 1 + child_nodes a) _ more h (omega arith) (and_r (child_sized a) (children_sized cs) sized)
        (omega arith) (omega arith) after past vals long (and_r (child_parameters a around) (children_parameters cs around) kepts) (child_process a vals e) (e + child_events a))))

    children_walked : (cs : Children) (around : List Name) (left i n d at l : ℕ) (more : List ShownNode) → Here ns i FlowNode d → children_depth cs ≤ left
        → children_sized cs ≡ true → children_nodes cs ≤ n → n ≤ 254 → first shown_depth more ≤ d → drop at vs ≡ children_tree_nodes shown cs around (suc d) l more
        → (vals : List ℕ) → length around ≡ length vals → children_parameters cs around ≡ true → (p : Process) (e : ℕ)
        → Joined text ns left i n at (at + children_nodes cs) vals p (children_process cs vals p e)
    children_walked none around left i n d at l more h deep sized few most after pos vals long kept p e = joined_to (omega arith) (stops more h pos after left n p)
    children_walked (next a r cs) around left i zero d at l more h deep sized few most after pos vals long kept p e =
        let z : ⊥ = omega (arith, child_some a) in absurd z
    children_walked (next a r cs) around left i (suc n) d at l more h deep sized few most after pos vals long kept p e =
        let rest = children_tree_nodes shown cs around (suc d) (l + child_nodes a) more in
        let some = child_some a in
        let deeper = depth_is at (suc d) _ pos (child_first a around r (suc d) _ rest) in
        one_further text ns left i seq h (omega arith)
        (child_walked a around left r (suc d) at l rest (omega arith) (and_l (child_sized a) (children_sized cs) sized) (omega arith)
        (children_first cs around (suc d) _ more (omega arith)) pos vals long (and_l (child_parameters a around) (children_parameters cs around) kept) e)
        (joined_to (omega arith)
        (children_walked cs around left i n d (at + child_nodes a) _ more h (omega arith) (and_r (child_sized a) (children_sized cs) sized)
        (omega arith) (omega arith) after (drop_both vs at (child_nodes a) pos (child_past a around r (suc d) _ rest)) vals long
        (and_r (child_parameters a around) (children_parameters cs around) kept) (join seq p (child_process a vals e)) (e + child_events a)))

    child_walked : (a : Child) (around : List Name) (left : ℕ) (b : Bool) (d i l : ℕ) (more : List ShownNode) → child_depth a ≤ left → child_sized a ≡ true
        → child_nodes a ≤ 256 → first shown_depth more ≤ d → drop i vs ≡ child_tree_nodes shown a around b d l more
        → (vals : List ℕ) → length around ≡ length vals → child_parameters a around ≡ true → (e : ℕ)
        → Walked text ns left i (i + child_nodes a) vals (child_process a vals e)
    child_walked (plain m) around left b d i l more deep sized few after pos vals long kept e = member_walked m around left b d i l more deep sized few after pos vals long kept e
    child_walked (loop m) around zero b d i l more deep sized few after pos vals long kept e = let z : ⊥ = omega arith in absurd z
    child_walked (loop m) around (suc left) b d i l more deep sized few after pos vals long kept e =
        loop_walked m around left d i _ more (omega arith) sized (omega arith) after (here held.nodes i _ _ pos) (drop_both vs i 1 pos refl)
        vals long (leb-true (length around) 3 (and_l (surrounded around) (member_parameters m around) kept)) (and_r (surrounded around) (member_parameters m around) kept) e
    child_walked (group y m k ms) around zero b d i l more deep sized few after pos vals long kept e = let z : ⊥ = omega arith in absurd z
    child_walked (group y m k ms) around (suc left) b d i l more deep sized few after pos vals long kept e =
        let h = here held.nodes i _ _ pos in
        let number = suc l + member_nodes m in
        let rest = members_tree_nodes shown ms around (suc d) (number + member_nodes k) more in
        let inside = drop_both vs i 1 pos refl in
        let second = drop_both vs (i + 1) (member_nodes m) inside (member_past m around false (suc d) _ _) in
        let past = drop_both vs (i + 1 + member_nodes m) (member_nodes k) second (member_past k around false (suc d) _ rest) in
        let deep1 = depth_is (i + 1) (suc d) _ inside (member_first m around false (suc d) _ _) in
        let deep2 = depth_is (i + 1 + member_nodes m) (suc d) _ second (member_first k around false (suc d) _ rest) in
        let some1 = member_some m in
        let some2 = member_some k in
        let both = and_r (member_sized m) (member_sized k && members_sized ms) sized in
        let kepts = and_r (surrounded around) (member_parameters m around && (member_parameters k around && members_parameters ms around)) kept in
        let kept2 = and_r (member_parameters m around) (member_parameters k around && members_parameters ms around) kepts in
        let p = member_process m vals e in
        let q = member_process k vals (e + member_events m) in
        parts_walked text ns left i held.few h (group_form y)
        (first_part text ns left i h (omega arith)
        (member_walked m around left false (suc d) (i + 1) _ _ (omega arith) (and_l (member_sized m) (member_sized k && members_sized ms) sized) (omega arith)
        (omega (arith, member_first k around false (suc d) number rest)) inside vals long
        (and_l (member_parameters m around) (member_parameters k around && members_parameters ms around) kepts) e)
        (one_further text ns left i (joint y) {n = 253} h (omega arith)
        (member_walked k around left false (suc d) (i + 1 + member_nodes m) _ rest (omega arith) (and_l (member_sized k) (members_sized ms) both) (omega arith)
        (members_first ms around (suc d) _ more (omega arith)) second vals long (and_l (member_parameters k around) (members_parameters ms around) kept2) (e + member_events m))
        (joined_to (omega arith)
        (members_walked ms around (joint y) left i 253 d (i + 1 + member_nodes m + member_nodes k) _ more h (omega arith)
        (and_r (member_sized k) (members_sized ms) both) (omega arith) (omega arith) after past vals long (and_r (member_parameters k around) (members_parameters ms around) kept2)
        (join (joint y) p q) (e + member_events m + member_events k)))))
    child_walked (replicator y par size m) around zero b d i l more deep sized few after pos vals long kept e = let z : ⊥ = omega arith in absurd z
    child_walked (replicator y par size m) around (suc left) b d i l more deep sized few after pos vals long kept e =
        let h = here held.nodes i _ _ pos in
        let inside = drop_both vs i 1 pos refl in
        let some = leb-true 1 size (and_l (leb 1 size) (leb size 16) (and_l (leb 1 size && leb size 16) (member_sized m) sized)) in
        let kept1 = and_r (surrounded around && new par around) (member_parameters m (around ++ (par ∷ []))) kept in
        let room : length vals < 3 = omega (arith, member_surrounded m (around ++ (par ∷ [])) kept1, length-append around (par ∷ [])) in
        walked_to (omega arith)
        (copies_walked text ns left i held.few (joint y) (λ v. member_process m (vals ++ (v ∷ [])) (e + v * member_events m)) vals (i + 1 + member_nodes m) room
        (λ v. member_walked m (around ++ (par ∷ [])) left false (suc d) (i + 1) _ more (omega arith) (and_r (leb 1 size && leb size 16) (member_sized m) sized)
        (omega arith) (omega arith) inside (vals ++ (v ∷ [])) (simp length-append (omega arith)) kept1 (e + v * member_events m))
        h (replicator_form y size some) some)

    loop_walked : (m : Member) (around : List Name) (left d i l : ℕ) (more : List ShownNode) → member_depth m ≤ left → member_sized m ≡ true
        → member_nodes m ≤ 255 → first shown_depth more ≤ d → Here ns i Loop d → drop (i + 1) vs ≡ member_tree_nodes shown m around false (suc d) l more
        → (vals : List ℕ) → length around ≡ length vals → length around ≤ 3 → member_parameters m around ≡ true → (e : ℕ)
        → Walked text ns (suc left) i (i + (1 + member_nodes m)) vals (loop_process m vals e)
    loop_walked (leaf n) around zero d i l more deep sized few after h pos vals long room kept e = let z : ⊥ = omega arith in absurd z
    loop_walked (leaf n) around (suc left) d i l more deep sized few after h pos vals long room kept e =
        let deeper = depth_is (i + 1) (suc d) _ pos refl in
        let k = here held.nodes (i + 1) _ _ pos in
        walked_to (omega arith)
        (again_walked text ns (suc left) i held.few e e (leaf_copy n vals) h k
        (first_part text ns (suc left) i h (omega arith) (leaf_walked text ns left (i + 1) held.few e n vals k (held.name_here (i + 1) _ _ pos refl) (omega arith))
        (stops more h (drop_both vs (i + 1) 1 pos refl) after (suc left) 254 (event e (leaf_copy n vals)))))
    loop_walked (inner f) around left d i l more deep sized few after h pos vals long room kept e =
        let deeper = depth_is (i + 1) (suc d) _ pos (member_first (inner f) around false (suc d) l more) in
        walked_to (omega arith)
        (rounds_walked text ns left i held.few (flow_name f) vals (e + flow_events f) h (flow_here f around false (suc d) (i + 1) l more pos) (flow_named f around false (suc d) (i + 1) l more pos) (omega arith)
        (first_part text ns left i h (omega arith) (flow_walked f around left false (suc d) (i + 1) l more deep sized (omega arith) (omega arith) pos vals long kept e)
        (stops more h (drop_both vs (i + 1) (flow_nodes f) pos (member_past (inner f) around false (suc d) l more)) after left 254 (flow_process f vals e))))

    member_walked : (m : Member) (around : List Name) (left : ℕ) (b : Bool) (d i l : ℕ) (more : List ShownNode) → member_depth m ≤ left → member_sized m ≡ true
        → member_nodes m ≤ 256 → first shown_depth more ≤ d → drop i vs ≡ member_tree_nodes shown m around b d l more
        → (vals : List ℕ) → length around ≡ length vals → member_parameters m around ≡ true → (e : ℕ)
        → Walked text ns left i (i + member_nodes m) vals (member_process m vals e)
    member_walked (leaf n) around zero b d i l more deep sized few after pos vals long kept e = let z : ⊥ = omega arith in absurd z
    member_walked (leaf n) around (suc left) b d i l more deep sized few after pos vals long kept e =
        leaf_walked text ns left i held.few e n vals (here held.nodes i _ _ pos) (held.name_here i _ _ pos refl) (omega (arith, leb-true (length around) 3 kept))
    member_walked (inner f) around left b d i l more deep sized few after pos vals long kept e = flow_walked f around left b d i l more deep sized few after pos vals long kept e

    members_walked : (ms : Members) (around : List Name) (j : Joint) (left i n d at l : ℕ) {kind : Kind} (more : List ShownNode) → Here ns i kind d
        → members_depth ms ≤ left
        → members_sized ms ≡ true → members_nodes ms ≤ n → n ≤ 254 → first shown_depth more ≤ d → drop at vs ≡ members_tree_nodes shown ms around (suc d) l more
        → (vals : List ℕ) → length around ≡ length vals → members_parameters ms around ≡ true → (p : Process) (e : ℕ)
        → Joined text ns left i n at (at + members_nodes ms) vals p (members_process ms j vals p e)
    members_walked end around j left i n d at l more h deep sized few most after pos vals long kept p e = joined_to (omega arith) (stops more h pos after left n p)
    members_walked (also m ms) around j left i zero d at l more h deep sized few most after pos vals long kept p e =
        let z : ⊥ = omega (arith, member_some m) in absurd z
    members_walked (also m ms) around j left i (suc n) d at l more h deep sized few most after pos vals long kept p e =
        let rest = members_tree_nodes shown ms around (suc d) (l + member_nodes m) more in
        let some = member_some m in
        let deeper = depth_is at (suc d) _ pos (member_first m around false (suc d) l rest) in
        one_further text ns left i j h (omega arith)
        (member_walked m around left false (suc d) at l rest (omega arith) (and_l (member_sized m) (members_sized ms) sized) (omega arith)
        (members_first ms around (suc d) _ more (omega arith)) pos vals long (and_l (member_parameters m around) (members_parameters ms around) kept) e)
        (joined_to (omega arith)
        (members_walked ms around j left i n d (at + member_nodes m) _ more h (omega arith) (and_r (member_sized m) (members_sized ms) sized)
        (omega arith) (omega arith) after (drop_both vs at (member_nodes m) pos (member_past m around false (suc d) l rest)) vals long
        (and_r (member_parameters m around) (members_parameters ms around) kept) (join j p (member_process m vals e)) (e + member_events m)))

-- The walk over the whole diagram writes the listing.
pub listing_walked : (text : List ℕ) (d : Flow) (g : Diagram) → Shows text d g → flow_sized d ≡ true → flow_parameters d [] ≡ true
    → flow_depth d ≤ 12 → flow_nodes d ≤ 256
    → flow_events d ≤ 512 → (s : Buffer) → walked_listing text g s ≡ put_all (first_line (flow_events d) (flow_copies d) ++ lines 0 (events (expand d))) s
unfolding walked_listing walked
listing_walked text d g shows sized kept deep few short s =
    let vs = nodes_by shown d in
    let held = diagram_named text g vs shows.nodes (omega (arith, nodes_counted shown d)) in
    let b = put_all (first_line (flow_events d) (flow_copies d)) s in
    let told_all = ap (λ (p : Place). p.so_far.out) ((flow_walked held d [] 12 false 1 0 0 [] deep sized few (omega arith) refl [] refl kept 0).law (told 0 b)) in
    ap₂ (λ (m n : ℕ). walked text g (put_all (first_line m n) s)) shows.events shows.copies
    ∙ (told_all ∙ (lines_told 0 (events (expand d)) b (omega (arith, events_counted d sized))
    ∙ sym (put_all_append (first_line (flow_events d) (flow_copies d)) (lines 0 (events (expand d))) s)))
