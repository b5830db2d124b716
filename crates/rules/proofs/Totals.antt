-- Node copies and events, counted along the nodes as on the tree.
use mathlib.Core.Path.{◌≡◌, refl, ◌∙◌}
use mathlib.Core.Bool.{Bool, true, false, cond}
use mathlib.Core.List.{List, [], ◌∷◌, ◌++◌}
use Prim.Native.Nat.{ℕ, suc, ◌+◌, ◌*◌}
use native.Mathlib.Omega.{arith}
use Rattle.diagram.specs.Tree.{Name, Way, Flow, flow, Children, none, next, Child, plain, loop, group, replicator, Member, leaf, inner, Members, end, also}
use Rattle.diagram.specs.Count.{flow_copies, children_copies, child_copies, member_copies, members_copies, flow_events, children_events, child_events, loop_events, member_events, members_events}
use Rattle.diagram.specs.TreeNodes.{TextNode, TreeNode, own, size_of, group_kind, replicator_kind, text_node, nodes_by, flow_tree_nodes, children_tree_nodes, child_tree_nodes, member_tree_nodes, members_tree_nodes}
use Rattle.diagram.proofs.Ways.{by_way}
use Rattle.rules.specs.Counted.{times, over_flow, eventful, any_node, total}
use Rattle.rules.proofs.Faults.{owns, by_owns}
use Rattle.rules.proofs.GroupKinds.{group_copies, replicator_copies}
use Rattle.rules.proofs.Around.{Nests, inside, Walked, walked_none, walked_then, walked_as, walked_node}

abbrev more_copies : TextNode → ℕ → ℕ
more_copies h m = size_of h.kind * m

copies_nest : Nests times more_copies
unfolding times
copies_nest d h before = refl

-- These nodes come to so many node copies and events.
record Come (n k : ℕ) (before : List TextNode) (hs : List TreeNode) : Type 0 where
  copies : total any_node before (owns hs) ≡ n
  events : total eventful before (owns hs) ≡ k

come_as : {n n' k k' : ℕ} {before : List TextNode} {hs : List TreeNode} → n ≡ n' → k ≡ k' → Come n k before hs → Come n' k' before hs
come_as p q c = record { copies = c.copies ∙ p; events = c.events ∙ q }

come_node : (h : TreeNode) (b : Bool) {n k : ℕ} {before : List TextNode} {hs : List TreeNode} (m : ℕ) → times h.own.depth before ≡ m
    → eventful (own h) (owns hs) ≡ b → Come n k (own h ∷ before) hs → Come (m + n) (cond b m 0 + k) before (h ∷ hs)
unfolding total
come_node h b m e q c = record { copies = rw (e, c.copies); events = rw (q, e, c.events) }

-- Nodes inside m copies, of which one copy has x node copies and u events.
record Sum (d m : ℕ) (p : List TreeNode → List TreeNode) (x u : ℕ) : Type 0 where
  law : (n k : ℕ) → Walked times more_copies d m p (Come n k) (Come (m * x + n) (m * u + k))

sum_none : {d m : ℕ} → Sum d m (λ vs. vs) 0 0
sum_none = record { law = λ n k. walked_as times more_copies (λ before vs. come_as (omega arith) (omega arith)) (walked_none times more_copies) }

sum_then : {d m : ℕ} {p q : List TreeNode → List TreeNode} {x u y v : ℕ} → Sum d m p x u → Sum d m q y v → Sum d m (λ vs. p (q vs)) (x + y) (u + v)
sum_then {m = m} {y = y} {v = v} P Q = record {
  law = λ n k.
      walked_as times more_copies (λ before vs. come_as (omega arith) (omega arith))
      (walked_then times more_copies (P.law (m * y + n) (m * v + k)) (Q.law n k));
}

-- A node that is an event or is none, and those under it.
sum_node : (h : TreeNode) (b : Bool) {m l x u y v : ℕ} {p : List TreeNode → List TreeNode} → inside times more_copies (own h) m ≡ l
    → ((vs : List TreeNode) → eventful (own h) (owns (p vs)) ≡ b) → m + l * x ≡ m * y → cond b m 0 + l * u ≡ m * v
    → Sum (suc h.own.depth) l p x u → Sum h.own.depth m (λ vs. h ∷ p vs) y v
sum_node h b {m} e q z w P = record {
  law = λ n k.
      walked_node times more_copies copies_nest h e
      (λ before vs t c. come_as (omega arith) (omega arith) (come_node h b m t (q vs) c)) (P.law n k);
}

-- One that is none, whatever comes after it.
sum_quiet : (h : TreeNode) {m l x u y v : ℕ} {p : List TreeNode → List TreeNode} → inside times more_copies (own h) m ≡ l
    → ((after : List TextNode) → eventful (own h) after ≡ false) → m + l * x ≡ m * y → l * u ≡ m * v → Sum (suc h.own.depth) l p x u
    → Sum h.own.depth m (λ vs. h ∷ p vs) y v
sum_quiet h {p = p} e q z w = sum_node h false e (λ vs. q (owns (p vs))) z (omega arith)

-- Neither a group nor a replicator is an event.
group_quiet : (y : Way) (i d : ℕ) (b : Bool) (after : List TextNode) → eventful (text_node i (group_kind y) b d []) after ≡ false
group_quiet y i d b after = by_way (λ y. eventful (text_node i (group_kind y) b d []) after) (λ y. false) refl refl refl y

replicator_quiet : (y : Way) (size i d : ℕ) (b : Bool) (n : Name) (after : List TextNode) → eventful (text_node i (replicator_kind y size) b d n) after ≡ false
replicator_quiet y size i d b n after = by_way (λ y. eventful (text_node i (replicator_kind y size) b d n) after) (λ y. false) refl refl refl y

replicator_size : (y : Way) (size : ℕ) → size_of (replicator_kind y size) ≡ size
replicator_size y size = by_way (λ y. size_of (replicator_kind y size)) (λ y. size) refl refl refl y

-- A leaf, and a flow as a loop's member.
sum_leaf : (n : Name) (A : List Name) (b : Bool) (d i m : ℕ) → Sum d m (member_tree_nodes (λ h. h) (leaf n) A b d i) 1 1
unfolding member_tree_nodes
sum_leaf n A b d i m = sum_node _ true refl (λ vs. refl) (omega arith) (omega arith) sum_none

inner_flow : (f : Flow) (A : List Name) (d i : ℕ) (vs : List TreeNode) → over_flow (owns (flow_tree_nodes (λ h. h) f A false d i vs)) ≡ true
unfolding flow_tree_nodes
inner_flow (flow n ps sw c r cs) A d i vs = refl

mutual
  unfolding flow_tree_nodes flow_copies flow_events

  flow_sum : (f : Flow) (A : List Name) (b : Bool) (d i m : ℕ) → Sum d m (flow_tree_nodes (λ h. h) f A b d i) (flow_copies f) (flow_events f)
  flow_sum (flow n ps sw c r cs) A b d i m =
      sum_quiet _ refl (λ after. refl) (omega arith) (omega arith) (sum_then (child_sum c A r (suc d) _ m) (children_sum cs A (suc d) _ m))

  children_sum : (cs : Children) (A : List Name) (d i m : ℕ) → Sum d m (children_tree_nodes (λ h. h) cs A d i) (children_copies cs) (children_events cs)
  children_sum none A d i m = sum_none
  children_sum (next c r cs) A d i m = sum_then (child_sum c A r d i m) (children_sum cs A d _ m)

  child_sum : (c : Child) (A : List Name) (b : Bool) (d i m : ℕ) → Sum d m (child_tree_nodes (λ h. h) c A b d i) (child_copies c) (child_events c)
  child_sum (plain k) A b d i m = member_sum k A b d i m
  child_sum (loop k) A b d i m = loop_sum k A b d i m
  child_sum (group y a e ms) A b d i m =
      sum_quiet _ (rw (group_copies y)) (group_quiet y i d b) (omega arith) (omega arith)
      (sum_then (member_sum a A false (suc d) _ m) (sum_then (member_sum e A false (suc d) _ m) (members_sum ms A (suc d) _ m)))
  child_sum (replicator y par size k) A b d i m =
      sum_quiet _ (rw (replicator_copies y size, replicator_size y size)) (replicator_quiet y size i d b par) (omega arith) (omega arith)
      (member_sum k (A ++ (par ∷ [])) false (suc d) _ (size * m))

  loop_sum : (k : Member) (A : List Name) (b : Bool) (d i m : ℕ) → Sum d m (child_tree_nodes (λ h. h) (loop k) A b d i) (1 + member_copies k) (loop_events k)
  loop_sum (leaf n) A b d i m = sum_node _ false refl (λ vs. refl) (omega arith) (omega arith) (sum_leaf n A false (suc d) _ m)
  loop_sum (inner f) A b d i m =
      sum_node _ true refl (λ vs. inner_flow f A (suc d) _ vs) (omega arith) (omega arith) (flow_sum f A false (suc d) _ m)

  member_sum : (k : Member) (A : List Name) (b : Bool) (d i m : ℕ) → Sum d m (member_tree_nodes (λ h. h) k A b d i) (member_copies k) (member_events k)
  member_sum (leaf n) A b d i m = sum_leaf n A b d i m
  member_sum (inner f) A b d i m = flow_sum f A b d i m

  members_sum : (ms : Members) (A : List Name) (d i m : ℕ) → Sum d m (members_tree_nodes (λ h. h) ms A d i) (members_copies ms) (members_events ms)
  members_sum end A d i m = sum_none
  members_sum (also k ms) A d i m = sum_then (member_sum k A false d i m) (members_sum ms A d _ m)

counted : (d : Flow) → Come (1 * flow_copies d + 0) (1 * flow_events d + 0) [] (nodes_by (λ h. h) d)
unfolding times total
counted d = ((flow_sum d [] false 1 0 1).law 0 0).go [] refl [] (λ now s. record { copies = refl; events = refl })

pub copies_counted : (d : Flow) → total any_node [] (nodes_by own d) ≡ flow_copies d
copies_counted d = by_owns (total any_node []) d _ ((counted d).copies ∙ omega arith)

pub events_counted : (d : Flow) → total eventful [] (nodes_by own d) ≡ flow_events d
events_counted d = by_owns (total eventful []) d _ ((counted d).events ∙ omega arith)
