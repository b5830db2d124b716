-- Number 7 stands nowhere just where the names all differ.
use Rattle.std.specs.Prelude.{None}
use mathlib.Core.Path.{◌≡◌, refl, sym}
use mathlib.Core.Logic.{◌↔◌}
use mathlib.Core.Bool.{Bool, true, false, not, ◌&&◌, cond, and-true, and_assoc, and_comm}
use mathlib.Core.List.{List, [], ◌∷◌, ◌++◌}
use Prim.Native.Nat.{ℕ, suc}
use Rattle.diagram.specs.Tree.{Name, Flow, flow, Children, none, next, Child, plain, loop, group, replicator, Member, leaf, inner, Members, end, also}
use Rattle.diagram.specs.Names.{same, new, differ, flow_names, children_names, child_names, member_names, members_names}
use Rattle.diagram.specs.TreeNodes.{TextNode, own, titled, nodes_by, flow_tree_nodes, children_tree_nodes, child_tree_nodes, member_tree_nodes, members_tree_nodes}
use Rattle.base.proofs.Truth.{agree}
use Rattle.base.proofs.Decided.{same_decides}
use Rattle.rules.specs.Kept.{names_kept, fault}
use Rattle.rules.specs.Broken.{all_new, first_twice}
use Rattle.rules.proofs.GroupKinds.{group_titled, replicator_titled}
use Rattle.rules.proofs.Clean.{clean, clean_cond, clean_iff}
use Rattle.rules.proofs.NamesPlaced.{used, passes, names_placed}

-- The test of names does not mind their order.
same_turned : (m n : Name) → same m n ≡ same n m
same_turned m n =
    agree (same m n) (same n m) (λ e. (same_decides n m).1 (sym ((same_decides m n).0 e))) (λ e. (same_decides m n).1 (sym ((same_decides n m).0 e)))

swap : (a b c d : Bool) → ((a && b) && (c && d)) ≡ ((a && c) && (b && d))
swap true true c d = refl
swap true false true d = refl
swap true false false d = refl
swap false b c d = refl

-- Names are new after a further one where that one is new to them.
all_new_after : (ns : List Name) (n : Name) (seen : List Name) → all_new ns (n ∷ seen) ≡ (all_new ns seen && new n ns)
all_new_after [] n seen = refl
all_new_after (m ∷ ns) n seen =
    rw (same_turned m n, all_new_after ns n seen, and_comm (not (same n m)) (new m seen))
    (swap (new m seen) (not (same n m)) (all_new ns seen) (new n ns))

all_new_first : (ns : List Name) → all_new ns [] ≡ true
all_new_first [] = refl
all_new_first (n ∷ ns) = all_new_first ns

-- The nodes from one on pass where their names are new after those before and differ.
clean_step : (t : Bool) (n : Name) (ns seen : List Name)
    → (all_new (cond t (n ∷ []) []) seen && (all_new ns (cond t (n ∷ []) [] ++ seen) && differ ns))
    ≡ (all_new (cond t (n ∷ []) [] ++ ns) seen && differ (cond t (n ∷ []) [] ++ ns))
clean_step true n ns seen =
    rw (all_new_after ns n seen, and-true (new n seen), and_assoc (all_new ns seen) (new n ns) (differ ns))
    (sym (and_assoc (new n seen) (all_new ns seen) (new n ns && differ ns)))
clean_step false n ns seen = refl

clean_names : (hs before : List TextNode) → clean (fault names_kept before hs) ≡ (all_new (used hs) (used before) && differ (used hs))
unfolding fault
clean_names [] before = refl
clean_names (h ∷ hs) before =
    let t = titled h.kind in
    rw (clean_cond (names_kept before h hs) (fault names_kept (h ∷ before) hs) h.number, passes h.name t before, clean_names hs (h ∷ before))
    (clean_step t h.name (used hs) (used before))

-- The nodes' names are the tree's.
record Says (hs : List TextNode) (ns : List Name) : Type 0 where
  same_names : used hs ≡ ns

says_titled : (h : TextNode) {hs : List TextNode} {ns : List Name} → titled h.kind ≡ true → Says hs ns → Says (h ∷ hs) (h.name ∷ ns)
says_titled h e s = record { same_names = rw (e, s.same_names) }

says_untitled : (h : TextNode) {hs : List TextNode} {ns : List Name} → titled h.kind ≡ false → Says hs ns → Says (h ∷ hs) ns
says_untitled h e s = record { same_names = rw (e, s.same_names) }

mutual
  unfolding flow_tree_nodes flow_names

  flow_says : (f : Flow) (A : List Name) (b : Bool) (d i : ℕ) {hs : List TextNode} {ns : List Name} → Says hs ns
      → Says (flow_tree_nodes own f A b d i hs) (flow_names f ns)
  flow_says (flow n ps sw c r cs) A b d i s = says_titled _ refl (child_says c A r (suc d) _ (children_says cs A (suc d) _ s))

  children_says : (cs : Children) (A : List Name) (d i : ℕ) {hs : List TextNode} {ns : List Name} → Says hs ns
      → Says (children_tree_nodes own cs A d i hs) (children_names cs ns)
  children_says none A d i s = s
  children_says (next c r cs) A d i s = child_says c A r d i (children_says cs A d _ s)

  child_says : (c : Child) (A : List Name) (b : Bool) (d i : ℕ) {hs : List TextNode} {ns : List Name} → Says hs ns
      → Says (child_tree_nodes own c A b d i hs) (child_names c ns)
  child_says (plain m) A b d i s = member_says m A b d i s
  child_says (loop m) A b d i s = says_untitled _ refl (member_says m A false (suc d) _ s)
  child_says (group y a e ms) A b d i s =
      says_untitled _ (group_titled y) (member_says a A false (suc d) _ (member_says e A false (suc d) _ (members_says ms A (suc d) _ s)))
  child_says (replicator y par size m) A b d i s = says_untitled _ (replicator_titled y size) (member_says m (A ++ (par ∷ [])) false (suc d) _ s)

  member_says : (m : Member) (A : List Name) (b : Bool) (d i : ℕ) {hs : List TextNode} {ns : List Name} → Says hs ns
      → Says (member_tree_nodes own m A b d i hs) (member_names m ns)
  member_says (leaf n) A b d i s = says_titled _ refl s
  member_says (inner f) A b d i s = flow_says f A b d i s

  members_says : (ms : Members) (A : List Name) (d i : ℕ) {hs : List TextNode} {ns : List Name} → Says hs ns
      → Says (members_tree_nodes own ms A d i hs) (members_names ms ns)
  members_says end A d i s = s
  members_says (also m ms) A d i s = member_says m A false d i (members_says ms A d _ s)

clean_flow : (d : Flow) → clean (fault names_kept [] (nodes_by own d)) ≡ differ (flow_names d [])
clean_flow d =
    let s : used (nodes_by own d) ≡ flow_names d [] = (flow_says d [] false 1 0 (record { same_names = refl })).same_names in
    rw (clean_names (nodes_by own d) [], s, all_new_first (flow_names d []))

pub names_kept_iff : (d : Flow) → (first_twice [] (nodes_by (λ h. h) d) ≡ None) ↔ (differ (flow_names d []) ≡ true)
names_kept_iff d = clean_iff (first_twice [] (nodes_by (λ h. h) d)) (differ (flow_names d [])) (rw (names_placed d) at (clean_flow d))
