-- Number 6 by the tokens is number 6 on the tree: it holds at the keyword of a node that is number 257 or later, or at depth 13 or more, and at
-- no other token.
use mathlib.Core.Path.{◌≡◌, refl, ◌∙◌, ap}
use mathlib.Core.Bool.{Bool, true, false, ◌&&◌, ◌||◌, cond}
use mathlib.Core.List.{List, [], ◌∷◌, ◌++◌}
use Prim.Native.Nat.{ℕ, zero, suc, ◌+◌}
use native.Mathlib.Nat.{add-zero, zero-add}
use native.Mathlib.Omega.{arith}
use lib.Dec.{leb}
use lib.ListN.{length, get_or, take}
use Rattle.diagram.specs.Tree.{Name, Flow, flow, Children, none, next, Child, plain, loop, group, replicator, Member, leaf, inner, Members, end, also}
use Rattle.diagram.specs.TreeNodes.{TreeNode, flow_tree_nodes, children_tree_nodes, child_tree_nodes, member_tree_nodes, members_tree_nodes}
use Rattle.tokens.specs.Token.{opening, closing, comma, Keyword, Token, sign, key, name, other}
use Rattle.grammar.specs.Tokens.{bit, pars_tokens, ref_tokens, flow_tokens, children_tokens, child_tokens, member_tokens, members_tokens}
use Rattle.grammar.specs.Machine.{is_sign, is_key}
use Rattle.grammar.specs.Keys.{keys_from}
use Rattle.grammar.proofs.Limits.{count_of, nodes_in, over_limit}
use Rattle.grammar.proofs.LimitedFrom.{keys, opens, closes, Balanced, big_in, big_here, big_later, big_nil, over_limit_in}
use Rattle.grammar.proofs.LimitedTrees.{tree_level}
use Rattle.rules.specs.Broken.{depths_of, node_over, too_big}

-- The parentheses open after a token, where p are open before it.
abbrev one_less : ℕ → ℕ
one_less zero = zero
one_less (suc p) = p

abbrev more_open : ℕ → Token → ℕ
more_open p t = cond (is_sign opening t) (suc p) p

abbrev open_after : ℕ → Token → ℕ
open_after p t = cond (is_sign closing t) (one_less (more_open p t)) (more_open p t)

open_as : (t : Token) (p r : ℕ) → r + closes t ≡ p + opens t → r ≡ open_after p t
open_as t p r = go (is_sign opening t) (is_sign closing t)
  where
    go : (o z : Bool) → r + cond z 1 0 ≡ p + cond o 1 0 → r ≡ cond z (one_less (cond o (suc p) p)) (cond o (suc p) p)
    go true true e = omega arith
    go true false e = omega arith
    go false true e = let z : p ≡ suc r = omega arith in rw z
    go false false e = omega arith

-- The depths of the nodes that begin among these tokens, where p parentheses are open before them.
abbrev key_depths : ℕ → List Token → List ℕ
key_depths p [] = []
key_depths p (t ∷ ts) = cond (is_key t) (suc p ∷ []) [] ++ key_depths (open_after p t) ts

-- Number 6 at the token k: whether it is a keyword, how many nodes stand before it, and how deep its node is.
abbrev big : Bool → ℕ → ℕ → Bool
big x n d = x && (leb 257 (suc n) || leb 13 d)

abbrev big_by : ℕ → List ℕ → List Token → ℕ → Bool
big_by n ds ts k = big (is_key (get_or ts k other)) (n + nodes_in (take k ts)) (get_or ds (nodes_in (take k ts)) 0)

by_depths : (ts : List Token) (n p : ℕ) → Balanced p ts → (k : ℕ) → big_in n p ts k ≡ big_by n (key_depths p ts) ts k
unfolding count_of
by_depths [] n p b k = big_nil n p k
by_depths (t ∷ ts) n p b zero = big_here n p t ts ∙ go (is_key t) (key_depths (open_after p t) ts)
  where
    go : (x : Bool) (ds : List ℕ) → big x n (suc p) ≡ big x (n + 0) (get_or (cond x (suc p ∷ []) [] ++ ds) 0 0)
    go true ds = rw (add-zero n)
    go false ds = refl
by_depths (t ∷ ts) n p b (suc k) =
    big_later n p b.0 t ts k b.1
    ∙ (by_depths ts (n + keys t) b.0 b.2 k ∙ rw (← open_as t p b.0 b.1) (go (is_key t) (nodes_in (take k ts)) (key_depths b.0 ts)))
  where
    go : (x : Bool) (j : ℕ) (ds : List ℕ) → big (is_key (get_or ts k other)) (n + cond x 1 0 + j) (get_or ds j 0)
        ≡ big (is_key (get_or ts k other)) (n + cond x (suc j) j) (get_or (cond x (suc p ∷ []) [] ++ ds) (cond x (suc j) j) 0)
    go true j ds = let e : n + 1 + j ≡ n + suc j = omega arith in rw e
    go false j ds = rw (add-zero n)

-- The keywords, counted.
keys_counted : (ts : List Token) (k : ℕ) → length (keys_from k ts) ≡ nodes_in ts
unfolding keys_from count_of
keys_counted [] k = refl
keys_counted (t ∷ ts) k = rw (← keys_counted ts (suc k)) (go (is_key t) (keys_from (suc k) ts))
  where
    go : (x : Bool) (js : List ℕ) → length (cond x (k ∷ js) js) ≡ cond x (suc (length js)) (length js)
    go true js = refl
    go false js = refl

-- These tokens, before which p parentheses are open, begin nodes at these depths.
record Deep (p : ℕ) (ts : List Token) (ns : List ℕ) : Type 0 where
  law : key_depths p ts ≡ ns

module _ {p : ℕ} {ts : List Token} {ns : List ℕ} where
  deep_node : (k : Keyword) → Deep (suc p) ts ns → Deep p (key k ∷ sign opening ∷ ts) (suc p ∷ ns)
  deep_node k s = record { law = ap (λ (l : List ℕ). suc p ∷ l) s.law }

  deep_close : Deep p ts ns → Deep (suc p) (sign closing ∷ ts) ns
  deep_close s = record { law = s.law }

  deep_bit : (b : Bool) → Deep p ts ns → Deep p (bit b ∷ ts) ns
  deep_bit false s = record { law = s.law }
  deep_bit true s = record { law = s.law }

  deep_pars : (ps : List Name) → Deep p ts ns → Deep p (pars_tokens ps ts) ns
  deep_pars [] s = s
  deep_pars (q ∷ ps) s = record { law = (deep_pars ps s).law }

deep_ref : (r : Bool) {p : ℕ} {ts : List Token} {ns : List ℕ} → Deep p ts ns → Deep p (ref_tokens r ts) ns
deep_ref r s = record { law = (deep_bit r (deep_close s)).law }

-- A flow up to its first child.
deep_flow : (n : Name) (ps : List Name) (sw : Bool) {p : ℕ} {ts : List Token} {ns : List ℕ} → Deep (suc p) ts ns
    → Deep p (key Keyword.flow ∷ sign opening ∷ name n ∷ pars_tokens ps (sign comma ∷ bit sw ∷ sign closing ∷ sign opening ∷ ts)) (suc p ∷ ns)
deep_flow n ps sw {p} {ts} {ns} s =
    let a : Deep (suc p) (sign closing ∷ sign opening ∷ ts) ns = record { law = s.law } in
    let b : Deep (suc p) (sign comma ∷ bit sw ∷ sign closing ∷ sign opening ∷ ts) ns = record { law = (deep_bit sw a).law } in
    deep_node Keyword.flow (record { law = (deep_pars ps b).law })

abbrev depth_of : TreeNode → ℕ
depth_of h = h.own.depth

mutual
  unfolding flow_tokens flow_tree_nodes

  flow_deep : (f : Flow) (around : List Name) (b : Bool) (p i : ℕ) {ts : List Token} {ns : List ℕ} → Deep p ts ns
      → Deep p (flow_tokens f ts) (flow_tree_nodes depth_of f around b (suc p) i ns)
  flow_deep (flow n ps sw c r cs) around b p i s =
      deep_flow n ps sw (child_deep c around r (suc p) _ (deep_ref r (children_deep cs around (suc p) _ (deep_close s))))

  children_deep : (cs : Children) (around : List Name) (p i : ℕ) {ts : List Token} {ns : List ℕ} → Deep p ts ns
      → Deep p (children_tokens cs ts) (children_tree_nodes depth_of cs around (suc p) i ns)
  children_deep none around p i s = s
  children_deep (next c r cs) around p i s = child_deep c around r p i (deep_ref r (children_deep cs around p _ s))

  child_deep : (c : Child) (around : List Name) (b : Bool) (p i : ℕ) {ts : List Token} {ns : List ℕ} → Deep p ts ns
      → Deep p (child_tokens c ts) (child_tree_nodes depth_of c around b (suc p) i ns)
  child_deep (plain m) around b p i s = member_deep m around b p i s
  child_deep (loop m) around b p i s = deep_node Keyword.loop (member_deep m around false (suc p) _ (deep_close s))
  child_deep (group y a e ms) around b p i s =
      deep_node (Keyword.group y)
      (member_deep a around false (suc p) _ (member_deep e around false (suc p) _ (members_deep ms around (suc p) _ (deep_close s))))
  child_deep (replicator y par size m) around b p i s =
      let inside = member_deep m (around ++ (par ∷ [])) false (suc p) (suc i) (deep_close s) in
      deep_node (Keyword.replicator y) (record { law = inside.law })

  member_deep : (m : Member) (around : List Name) (b : Bool) (p i : ℕ) {ts : List Token} {ns : List ℕ} → Deep p ts ns
      → Deep p (member_tokens m ts) (member_tree_nodes depth_of m around b (suc p) i ns)
  member_deep (leaf n) around b p i s = deep_node Keyword.leaf (record { law = s.law })
  member_deep (inner f) around b p i s = flow_deep f around b p i s

  members_deep : (ms : Members) (around : List Name) (p i : ℕ) {ts : List Token} {ns : List ℕ} → Deep p ts ns
      → Deep p (members_tokens ms ts) (members_tree_nodes depth_of ms around (suc p) i ns)
  members_deep end around p i s = s
  members_deep (also m ms) around p i s = member_deep m around false p i (members_deep ms around p _ s)

tree_depths : (d : Flow) → key_depths 0 (flow_tokens d []) ≡ depths_of d
tree_depths d = (flow_deep d [] false 0 0 (record { law = refl })).law

by_nodes : (d : Flow) (t : ℕ)
    → big_by 0 (key_depths 0 (flow_tokens d [])) (flow_tokens d []) t
    ≡ (is_key (get_or (flow_tokens d []) t other) && node_over d (length (keys_from 0 (take t (flow_tokens d [])))))
by_nodes d t =
    let us = take t (flow_tokens d []) in
    rw (zero-add (nodes_in us), tree_depths d, keys_counted us 0)

pub limits_placed : (d : Flow) (t : ℕ) → over_limit (flow_tokens d []) t ≡ too_big d t
unfolding too_big
limits_placed d t = over_limit_in (flow_tokens d []) t ∙ (by_depths (flow_tokens d []) 0 0 (tree_level d) t ∙ by_nodes d t)
