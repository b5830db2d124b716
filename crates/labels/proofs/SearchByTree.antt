-- The search over the nodes of a tree finds the event at its place in the tree's order.
use mathlib.Core.Path.{◌≡◌, refl, sym, ap, ◌∙◌, subst}
use mathlib.Core.Bool.{Bool, true, false, ◌&&◌}
use mathlib.Core.List.{List, [], ◌∷◌, ◌++◌, append_assoc}
use Prim.Native.Nat.{ℕ, suc, ◌+◌, ◌-◌, ◌*◌, ◌/◌, ◌%◌, ◌≤◌, ◌<◌}
use native.Mathlib.Nat.{mul_comm, le-mul_of_pos_right, mod-lt, mod-eq_of_lt, div-add-mod', div-lt_iff_lt-mul}
use native.Mathlib.Omega.{arith}
use lib.Dec.{leb, ltb}
use lib.ListN.{length, get_or, length-append, get_or-append}
use lib.Seq.{get_or-append_seam, get_or-append-add}
use borrow.Author.Tests.{leb-true, ltb-true, ltb-false}
use Rattle.base.proofs.Truth.{by_cases, and_l, and_r}
use Rattle.diagram.specs.Tree.{Name, Flow, flow, Children, none, next, Child, plain, loop, group, replicator, Member, leaf, inner, Members, end, also}
use Rattle.diagram.specs.Names.{equal, same, new}
use Rattle.diagram.specs.Count.{flow_events, child_events, member_events}
use Rattle.diagram.specs.Sizes.{flow_sized, children_sized, child_sized, member_sized, members_sized}
use Rattle.diagram.specs.Parameters.{surrounded, flow_parameters, children_parameters, child_parameters, member_parameters, members_parameters}
use Rattle.diagram.specs.TreeNodes.{TextNode, own, titled, nodes_by, flow_tree_nodes, children_tree_nodes, child_tree_nodes, member_tree_nodes, members_tree_nodes}
use Rattle.diagram.specs.declared.Kind.TheVariants.{Leaf, Loop}
use Rattle.process.specs.Process.{Event, Joint, Process, join, events}
use Rattle.process.specs.Expand.{leaf_copy, reset_of, joint, copies, expand, flow_process, child_process, loop_process, member_process}
use Rattle.process.proofs.Numbered.{size_events}
use Rattle.process.proofs.Cleared.{size_positive}
use Rattle.process.proofs.Events.{events_counted}
use Rattle.std.specs.Prelude.{Option, Some, None, cond}
use Rattle.postfix.specs.declared.Code.TheVariants.{Seq}
use Rattle.labels.specs.declared.Spot.{Spot}
use Rattle.labels.specs.Values.{packed}
use Rattle.labels.specs.Weights.{product_mod, parts, resets, weight, weigh}
use Rattle.labels.specs.Seeks.{next as after, seek}
use Rattle.labels.proofs.NodeDepths.{Deep, done, deeper, deep_then, Tree, tree, tree_deep, first_depth, tree_first}
use Rattle.labels.proofs.TreeWeights.{sum_small, Joins, group_joins, replicator_joins, weighed, first_weight, weight_parts, weight_copies, parts_then, parts_end}
use Rattle.labels.proofs.EventOrder.{member_count, children_rest, children_split, members_rest, members_split, copies_count, copies_at}
use Rattle.labels.proofs.SearchByNode.{search, sought, seek_past, seek_leaf, seek_reset, seek_body, seek_parts, seek_copy}

-- No event.
abbrev pub nothing : Event
nothing = leaf_copy [] []

-- What is found is the event: its mark, its values, and its name, which stands at the place; `ok` says what that means.
pub record Labels (ok : Name → ℕ → Type 0) (l : Event) (s : Spot) : Type 0 where
  pub mark : s.reset ≡ l.reset
  pub its_values : s.values ≡ packed l.values
  pub named : ok l.name s.place

-- A search that finds the event.
abbrev pub Finds : (Name → ℕ → Type 0) → Event → Option Spot → Type 0
Finds ok l o = (s : Spot) × (o ≡ Some s) × Labels ok l s

pub member_surrounded : (m : Member) (around : List Name) → member_parameters m around ≡ true → length around ≤ 3
unfolding member_parameters flow_parameters
member_surrounded (leaf n) around h = leb-true (length around) 3 h
member_surrounded (inner (flow n ps sw c r cs)) around h =
    leb-true (length around) 3
    (and_l (surrounded around) (equal same ps around)
    (and_l (surrounded around && equal same ps around) (child_parameters c around && children_parameters cs around) h))

-- A member has an event.
member_some : (m : Member) → member_sized m ≡ true → 1 ≤ member_events m
member_some m h =
    let p = member_process m [] 0 in
    omega (arith, size_positive p, size_events p, member_count m h [] 0)

copies_more : (size n : ℕ) → 1 ≤ size → n ≤ size * n
copies_more size n h = rw (mul_comm size n) (le-mul_of_pos_right n h)

-- In a part, or past it.
part_or_past : (i n : ℕ) {A : Type 0} → (i < n → A) → (n ≤ i → A) → A
part_or_past i n f g = by_cases (ltb i n) (λ t. f (ltb-true i n t)) (λ t. g (ltb-false i n t))

module _ (at : TextNode → ℕ) (ok : Name → ℕ → Type 0) where
  -- The name of each leaf and flow among some nodes stands at its place.
  unfoldable pub Known : List TextNode → Type 0
  Known [] = Unit {0}
  Known (h ∷ hs) = (titled h.kind ≡ true → ok h.name (at h)) × Known hs

  known_more : {d : ℕ} {hs more : List TextNode} → Deep d hs more → Known hs → Known more
  unfolding Known
  known_more done k = k
  known_more (deeper l p) k = known_more p k.1

  -- The same of an equal event and what is found.
  moved : {l m : Event} {s t : Option Spot} → Finds ok l s → l ≡ m → s ≡ t → Finds ok m t
  moved {s = s} g p q = rw (← q) (subst (λ (x : Event). Finds ok x s) p g)

  -- Each of the events es is found among the nodes hs, from a search in the node around them, at depth d, with the values vs. What comes after
  -- hs is no deeper than its parts.
  Found : ℕ → List ℕ → List Event → List TextNode → List TextNode → Type 0
  Found d vs es hs more =
      Known hs → first_depth more ≤ suc d → length es < 1024 → (i : ℕ) → i < length es → Finds ok (get_or es i nothing) (sought at hs (search d i vs))

  -- One part of that node, and then others.
  record Part (d : ℕ) (vs : List ℕ) (es : List Event) (hs more : List TextNode) : Type 0 where
    tree : Tree (suc d) hs more
    weighs : first_depth more ≤ suc d → length es < 1024 → first_weight at hs ≡ length es
    found : Found d vs es hs more

  -- Some of them, one after the other.
  record Parts (d : ℕ) (vs : List ℕ) (es : List Event) (hs more : List TextNode) : Type 0 where
    deep : Deep (suc d) hs more
    first : first_depth more ≤ suc d → first_depth hs ≤ suc d
    adds : (n : ℕ) → first_depth more ≤ d → n + length es < 1024 → parts d n (weighed at hs) ≡ n + length es
    found : Found d vs es hs more

  no_parts : (d : ℕ) (vs : List ℕ) (more : List TextNode) → Parts d vs [] more more
  unfolding Found
  no_parts d vs more = record {
    deep = done;
    first = λ s. s;
    adds = λ n s f. parts_end at d n more s ∙ omega arith;
    found = λ k s f i l. let z : ⊥ = omega arith in absurd z;
  }

  and_parts : {d : ℕ} {vs : List ℕ} {es fs : List Event} {hs mid more : List TextNode} → Part d vs es hs mid → Parts d vs fs mid more
      → Parts d vs (es ++ fs) hs more
  unfolding Found
  and_parts {d} {vs} {es} {fs} {hs} {mid} {more} p q =
      let both = length-append es fs in
      record {
        deep = deep_then (tree_deep p.tree) q.deep;
        first = λ s. omega (arith, tree_first p.tree);
        adds = λ n s f.
            parts_then at d n (length es) p.tree (p.weighs (q.first (omega arith)) (omega arith)) (omega arith)
            ∙ (q.adds (n + length es) s (omega arith) ∙ omega arith);
        found = λ k s f i l.
            part_or_past i (length es)
            (λ m. moved (p.found k (q.first s) (omega arith) i m) (sym (get_or-append es fs nothing i m)) refl)
            (λ m.
            let e : length es + (i - length es) ≡ i = omega arith in
            moved (q.found (known_more (tree_deep p.tree) k) s (omega arith) (i - length es) (omega arith))
            (sym (get_or-append-add es fs (i - length es) nothing) ∙ ap (λ (j : ℕ). get_or (es ++ fs) j nothing) e)
            (sym (seek_past at d i vs (length es) p.tree (p.weighs (q.first s) (omega arith)) m)));
      }

  -- A node whose parts are joined.
  joined : {d : ℕ} {vs : List ℕ} {es : List Event} (h : TextNode) {hs more : List TextNode} → h.depth ≡ suc d → Joins h.kind None
      → Parts (suc d) vs es hs more → Part d vs es (h ∷ hs) more
  unfolding Found Known weigh
  joined {d} {vs} {es} h {hs} {more} e j q =
      let weighs : first_depth more ≤ suc d → length es < 1024 → first_weight at (h ∷ hs) ≡ length es =
      λ s f. weight_parts at h (weighed at hs) j ∙ (ap (λ (x : ℕ). parts x 0 (weighed at hs)) e ∙ (q.adds 0 s (omega arith) ∙ omega arith)) in
      record {
        tree = tree e q.deep;
        weighs = weighs;
        found = λ k s f i l.
            moved (q.found k.1 (omega arith) f i l) refl (sym (seek_parts at h hs d i vs e (omega (arith, weighs s f)) j));
      }

  -- A leaf.
  leaf_part : (d : ℕ) (vs : List ℕ) (h : TextNode) (more : List TextNode) → h.kind ≡ Leaf → h.depth ≡ suc d
      → Part d vs (leaf_copy h.name vs ∷ []) (h ∷ more) more
  unfolding Found Known weigh weight
  leaf_part d vs h more t e =
      let weighs : first_weight at (h ∷ more) ≡ 1 = rw t in
      record {
        tree = tree e done;
        weighs = λ s f. weighs;
        found = λ k s f i l.
            let z : 0 ≡ i = omega arith in
            moved (_, refl, record { mark = refl; its_values = refl; named = k.0 (rw t) }) (ap (λ (j : ℕ). get_or (leaf_copy h.name vs ∷ []) j nothing) z)
            (sym (seek_leaf at h more d i vs e (omega (arith, weighs)) (rw t)));
      }

  -- A part that is the only one of its node.
  lone : {d : ℕ} {vs : List ℕ} {es : List Event} {hs more : List TextNode} → Part d vs es hs more → first_depth more ≤ d → length es < 1024
      → parts d 0 (weighed at hs) ≡ length es
  lone {d} {vs} {es} {hs} {more} p s f =
      parts_then at d 0 (length es) p.tree (p.weighs (omega arith) f) (omega arith) ∙ (parts_end at d (0 + length es) more s ∙ omega arith)

  -- A loop, by the reset of its body.
  module _ {d : ℕ} {vs : List ℕ} {es : List Event} (h : TextNode) {hs more : List TextNode} (t : h.kind ≡ Loop) (e : h.depth ≡ suc d)
      (p : Part (suc d) vs es hs more) where
    loop_weighs : (b : Bool) → resets (weighed at hs) ≡ b → first_depth more ≤ suc d → length es + cond b 1 0 < 1024
        → first_weight at (h ∷ hs) ≡ length es + cond b 1 0
    unfolding weigh weight
    loop_weighs b q s f = rw (t, e, lone p s (omega arith), q) (sum_small (length es) (cond b 1 0) f)

    leaf_loop : resets (weighed at hs) ≡ false → Part d vs es (h ∷ hs) more
    unfolding Found Known
    leaf_loop q = record {
      tree = tree e (tree_deep p.tree);
      weighs = λ s f. loop_weighs false q s (omega arith) ∙ omega arith;
      found = λ k s f i l.
          moved (p.found k.1 (omega arith) f i l) refl
          (sym (seek_body at h hs d i vs e (omega (arith, loop_weighs false q s (omega arith))) (rw t) (omega (arith, p.weighs (omega arith) f))));
    }

    flow_loop : (x : Event) → resets (weighed at hs) ≡ true
        → (Known hs → Labels ok x (record { reset = true; place = (after (weighed at hs)).place; values = packed vs }))
        → Part d vs (es ++ (x ∷ [])) (h ∷ hs) more
    unfolding Found Known
    flow_loop x q named =
        let both = length-append es (x ∷ []) in
        record {
          tree = tree e (tree_deep p.tree);
          weighs = λ s f. loop_weighs true q s (omega arith) ∙ omega arith;
          found = λ k s f i l.
              let own : i < first_weight at (h ∷ hs) = omega (arith, loop_weighs true q s (omega arith)) in
              let body = p.weighs (omega arith) (omega arith) in
              part_or_past i (length es)
              (λ m. moved (p.found k.1 (omega arith) (omega arith) i m) (sym (get_or-append es (x ∷ []) nothing i m))
              (sym (seek_body at h hs d i vs e own (rw t) (omega arith))))
              (λ m.
              let last : length es ≡ i = omega arith in
              moved (_, refl, named k.1) (sym (get_or-append_seam es x [] nothing) ∙ ap (λ (j : ℕ). get_or (es ++ (x ∷ [])) j nothing) last)
              (sym (seek_reset at h hs d i vs e own (rw t) (omega arith))));
        }

  -- A replicator: the copies of its member, each with its value.
  copied : {d : ℕ} {vs : List ℕ} (h : TextNode) {hs more : List TextNode} → h.depth ≡ suc d → {size : ℕ} → Joins h.kind (Some size) → 1 ≤ size → length vs < 3
      → (j : Joint) (copy : ℕ → Process) (n : ℕ) → ((v : ℕ) → length (events (copy v)) ≡ n) → 1 ≤ n
      → ((v : ℕ) → Part (suc d) (vs ++ (v ∷ [])) (events (copy v)) hs more) → Part d vs (events (copies j copy (size - 1))) (h ∷ hs) more
  unfolding Found Known weigh
  copied {d} {vs} h {hs} {more} e {size} js some room j copy n each one p =
      let count : length (events (copies j copy (size - 1))) ≡ size * n = copies_count j copy n each (size - 1) ∙ ap (λ (x : ℕ). x * n) (omega arith) in
      let less : n ≤ size * n = copies_more size n some in
      let weighs : first_depth more ≤ suc d → size * n < 1024 → first_weight at (h ∷ hs) ≡ size * n =
      λ s f. weight_copies at h (weighed at hs) js
      ∙ (ap (λ (x : ℕ). product_mod size (parts x 0 (weighed at hs))) e
      ∙ (ap (product_mod size) (lone (p 0) s (omega (arith, each 0)) ∙ each 0) ∙ mod-eq_of_lt f)) in
      record {
        tree = tree e (tree_deep (p 0).tree);
        weighs = λ s f. weighs s (omega arith) ∙ sym count;
        found = λ k s f i l.
            let v = i / n in
            let body : first_weight at hs ≡ n = (p 0).weighs (omega arith) (omega (arith, each 0)) ∙ each 0 in
            moved ((p v).found k.1 (omega arith) (omega (arith, each v)) (i % n) (omega (arith, mod-lt i one, each v)))
            (sym (copies_at j copy n each (size - 1) v (i % n) nothing
            (omega (arith, (div-lt_iff_lt-mul {x = i} {y = size} one).1 (omega arith))) (mod-lt i one))
            ∙ ap (λ (x : ℕ). get_or (events (copies j copy (size - 1))) x nothing) (div-add-mod' i n))
            (sym (seek_copy at h hs d i vs e (omega (arith, weighs s (omega arith))) js (omega arith) room
            ∙ ap (λ (x : ℕ). sought at hs (search (suc d) (i % x) (vs ++ ((i / x) ∷ [])))) body));
      }

  -- A reset has the name of its body's flow.
  reset_named : (f : Flow) (around : List Name) (d i : ℕ) (more : List TextNode) (vs : List ℕ) → Known (flow_tree_nodes own f around false d i more)
      → Labels ok (reset_of f vs) (record { reset = true; place = (after (weighed at (flow_tree_nodes own f around false d i more))).place; values = packed vs })
  unfolding flow_tree_nodes Known weigh
  reset_named (flow n ps sw c r cs) around d i more vs known = record { mark = refl; its_values = refl; named = known.0 refl }

  flow_resets : (f : Flow) (around : List Name) (d i : ℕ) (more : List TextNode) → resets (weighed at (flow_tree_nodes own f around false d i more)) ≡ true
  unfolding flow_tree_nodes weigh
  flow_resets (flow n ps sw c r cs) around d i more = refl

  loop_part : (m : Member) (around : List Name) (b : Bool) (d i : ℕ) (more : List TextNode) (vs : List ℕ) (e : ℕ)
      → Part (suc d) vs (events (member_process m vs e)) (member_tree_nodes own m around false (suc (suc d)) (suc i) more) more
      → Part d vs (events (loop_process m vs e)) (child_tree_nodes own (loop m) around b (suc d) i more) more
  unfolding flow_tree_nodes flow_process events weigh
  loop_part (leaf n) around b d i more vs e p = leaf_loop _ refl refl p refl
  loop_part (inner f) around b d i more vs e p = flow_loop _ refl refl p (reset_of f vs) (flow_resets f around _ _ more) (reset_named f around _ _ more vs)

  -- The parts of a tree, by the tree; `around` are the pars for whose values the events are.
  mutual
    unfolding flow_tree_nodes flow_process children_rest members_rest flow_sized flow_parameters events weigh

    flow_part : (f : Flow) (around : List Name) (b : Bool) (d i : ℕ) (more : List TextNode) → flow_sized f ≡ true → flow_parameters f around ≡ true
        → (vs : List ℕ) → length around ≡ length vs → (e : ℕ)
        → Part d vs (events (flow_process f vs e)) (flow_tree_nodes own f around b (suc d) i more) more
    flow_part (flow n ps sw c r cs) around b d i more sized kept vs long e =
        let kepts = and_r (surrounded around && equal same ps around) (child_parameters c around && children_parameters cs around) kept in
        rw (children_split cs vs (child_process c vs e) (e + child_events c))
        (joined _ refl (record { code = Seq; form_is = refl })
        (and_parts
        (child_part c around r (suc d) _ _ (and_l (child_sized c) (children_sized cs) sized)
        (and_l (child_parameters c around) (children_parameters cs around) kepts) vs long e)
        (children_parts cs around (suc d) _ more (and_r (child_sized c) (children_sized cs) sized)
        (and_r (child_parameters c around) (children_parameters cs around) kepts) vs long _)))

    children_parts : (cs : Children) (around : List Name) (d i : ℕ) (more : List TextNode) → children_sized cs ≡ true → children_parameters cs around ≡ true
        → (vs : List ℕ) → length around ≡ length vs → (e : ℕ) → Parts d vs (children_rest cs vs e) (children_tree_nodes own cs around (suc d) i more) more
    children_parts none around d i more sized kept vs long e = no_parts d vs more
    children_parts (next c r cs) around d i more sized kept vs long e =
        and_parts
        (child_part c around r d i _ (and_l (child_sized c) (children_sized cs) sized)
        (and_l (child_parameters c around) (children_parameters cs around) kept) vs long e)
        (children_parts cs around d _ more (and_r (child_sized c) (children_sized cs) sized)
        (and_r (child_parameters c around) (children_parameters cs around) kept) vs long _)

    child_part : (c : Child) (around : List Name) (b : Bool) (d i : ℕ) (more : List TextNode) → child_sized c ≡ true → child_parameters c around ≡ true
        → (vs : List ℕ) → length around ≡ length vs → (e : ℕ)
        → Part d vs (events (child_process c vs e)) (child_tree_nodes own c around b (suc d) i more) more
    child_part (plain m) around b d i more sized kept vs long e = member_part m around b d i more sized kept vs long e
    child_part (loop m) around b d i more sized kept vs long e =
        loop_part m around b d i more vs e
        (member_part m around false (suc d) _ more sized (and_r (surrounded around) (member_parameters m around) kept) vs long e)
    child_part (group y m o ms) around b d i more sized kept vs long e =
        let sizeds = and_r (member_sized m) (member_sized o && members_sized ms) sized in
        let kepts = and_r (surrounded around) (member_parameters m around && (member_parameters o around && members_parameters ms around)) kept in
        let kepts2 = and_r (member_parameters m around) (member_parameters o around && members_parameters ms around) kepts in
        let p = member_process m vs e in
        let q = member_process o vs (e + member_events m) in
        let rest = e + member_events m + member_events o in
        rw (members_split ms (joint y) vs (join (joint y) p q) rest, append_assoc (events p) (events q) (members_rest ms vs rest))
        (joined _ refl (group_joins y)
        (and_parts
        (member_part m around false (suc d) _ _ (and_l (member_sized m) (member_sized o && members_sized ms) sized)
        (and_l (member_parameters m around) (member_parameters o around && members_parameters ms around) kepts) vs long e)
        (and_parts
        (member_part o around false (suc d) _ _ (and_l (member_sized o) (members_sized ms) sizeds)
        (and_l (member_parameters o around) (members_parameters ms around) kepts2) vs long _)
        (members_parts ms around (suc d) _ more (and_r (member_sized o) (members_sized ms) sizeds)
        (and_r (member_parameters o around) (members_parameters ms around) kepts2) vs long _))))
    child_part (replicator y par size m) around b d i more sized kept vs long e =
        let sizes = and_l (leb 1 size && leb size 16) (member_sized m) sized in
        let sized1 = and_r (leb 1 size && leb size 16) (member_sized m) sized in
        let inside = around ++ (par ∷ []) in
        let kept1 = and_r (surrounded around && new par around) (member_parameters m inside) kept in
        let longer = length-append around (par ∷ []) in
        let some = leb-true 1 size (and_l (leb 1 size) (leb size 16) sizes) in
        copied _ refl (replicator_joins y size some) some
        (omega (arith, member_surrounded m inside kept1)) (joint y) (λ v. member_process m (vs ++ (v ∷ [])) (e + v * member_events m)) (member_events m)
        (λ v. member_count m sized1 (vs ++ (v ∷ [])) (e + v * member_events m)) (member_some m sized1)
        (λ v. member_part m inside false (suc d) _ more sized1 kept1 (vs ++ (v ∷ [])) (omega (arith, length-append vs (v ∷ []))) _)

    member_part : (m : Member) (around : List Name) (b : Bool) (d i : ℕ) (more : List TextNode) → member_sized m ≡ true → member_parameters m around ≡ true
        → (vs : List ℕ) → length around ≡ length vs → (e : ℕ)
        → Part d vs (events (member_process m vs e)) (member_tree_nodes own m around b (suc d) i more) more
    member_part (leaf n) around b d i more sized kept vs long e = leaf_part d vs _ more refl refl
    member_part (inner f) around b d i more sized kept vs long e = flow_part f around b d i more sized kept vs long e

    members_parts : (ms : Members) (around : List Name) (d i : ℕ) (more : List TextNode) → members_sized ms ≡ true → members_parameters ms around ≡ true
        → (vs : List ℕ) → length around ≡ length vs → (e : ℕ) → Parts d vs (members_rest ms vs e) (members_tree_nodes own ms around (suc d) i more) more
    members_parts end around d i more sized kept vs long e = no_parts d vs more
    members_parts (also m ms) around d i more sized kept vs long e =
        and_parts
        (member_part m around false d i _ (and_l (member_sized m) (members_sized ms) sized)
        (and_l (member_parameters m around) (members_parameters ms around) kept) vs long e)
        (members_parts ms around d _ more (and_r (member_sized m) (members_sized ms) sized)
        (and_r (member_parameters m around) (members_parameters ms around) kept) vs long _)

  -- The events of a whole diagram.
  pub event_found : (d : Flow) → flow_sized d ≡ true → flow_parameters d [] ≡ true → flow_events d < 1024 → Known (nodes_by own d) → (e : ℕ) → e < flow_events d
      → Finds ok (get_or (events (expand d)) e nothing) (sought at (nodes_by own d) (search 0 e []))
  unfolding Found
  event_found d sized kept few known e l =
      let count = events_counted d sized in
      (flow_part d [] false 0 0 [] sized kept [] refl 0).found known (omega arith) (omega arith) e (omega arith)

  -- Past the last of them there is none.
  pub none_found : (d : Flow) → flow_sized d ≡ true → flow_parameters d [] ≡ true → flow_events d < 1024 → (e : ℕ) → flow_events d ≤ e
      → sought at (nodes_by own d) (search 0 e []) ≡ None
  unfolding seek weigh
  none_found d sized kept few e l =
      let count = events_counted d sized in
      let p = flow_part d [] false 0 0 [] sized kept [] refl 0 in
      seek_past at 0 e [] (length (events (expand d))) p.tree (p.weighs (omega arith) (omega arith)) (omega arith)
