-- The keywords of a derived text begin the diagram's nodes, one by one; the name of a leaf or flow stands two tokens after its keyword.
use mathlib.Core.Path.{◌≡◌, refl, sym, ap, ◌∙◌}
use mathlib.Core.Bool.{Bool, true, false}
use mathlib.Core.List.{List, [], ◌∷◌}
use Prim.Native.Nat.{ℕ, suc, ◌+◌}
use native.Mathlib.Omega.{arith}
use lib.ListN.{get_or}
use lib.Seq.{get_or-drop}
use Rattle.base.proofs.Truth.{clash}
use Rattle.diagram.specs.Tree.{Name, Flow, flow, Children, none, next, Child, plain, loop, group, replicator, Member, leaf, inner, Members, end, also}
use Rattle.diagram.specs.Names.{flow_names, children_names, child_names, member_names, members_names}
use Rattle.diagram.specs.Count.{flow_nodes, children_nodes, child_nodes, member_nodes, members_nodes}
use Rattle.diagram.specs.TreeNodes.{TextNode, own, titled, has_name, nodes_by, flow_tree_nodes, children_tree_nodes, child_tree_nodes, member_tree_nodes, members_tree_nodes}
use Rattle.tokens.specs.Words.{keywords}
use Rattle.tokens.specs.Spans.{places}
use Rattle.tokens.specs.Token.{opening, Keyword, Token, sign, key, name, other, text_tokens}
use Rattle.grammar.specs.Machine.{is_key, is_member}
use Rattle.grammar.specs.Tokens.{bit, pars_tokens, ref_tokens, flow_tokens, children_tokens, child_tokens, member_tokens, members_tokens}
use Rattle.grammar.specs.Derives.{Derives}
use Rattle.walked.proofs.Past.{word_there, Here, at_start, past_key, past_token, name_there}
use Rattle.rules.proofs.GroupKinds.{group_titled, replicator_titled}
use Rattle.reading.specs.Nodes.{name_place}
use Rattle.labels.specs.Stands.{Stands}
use Rattle.labels.proofs.SearchByTree.{Known}

-- Tokens, the nodes that their keywords begin, the first of which has the number i, and the names of the leaves and flows among these.
pub data Keyed : ℕ → List Token → List TextNode → List Name → Type 0 where
  empty : {i : ℕ} → Keyed i [] [] []
  no_key : {i : ℕ} {t : Token} {ts : List Token} {hs : List TextNode} {ns : List Name} → is_key t ≡ false → Keyed i ts hs ns → Keyed i (t ∷ ts) hs ns
  title : {i : ℕ} {k : Keyword} {n : Name} {ts : List Token} {h : TextNode} {hs : List TextNode} {ns : List Name}
      → is_member k ≡ true → has_name h.kind ≡ true → h.number ≡ i → h.name ≡ n → Keyed (suc i) (sign opening ∷ name n ∷ ts) hs ns
      → Keyed i (key k ∷ sign opening ∷ name n ∷ ts) (h ∷ hs) (n ∷ ns)
  no_title : {i : ℕ} {k : Keyword} {ts : List Token} {h : TextNode} {hs : List TextNode} {ns : List Name}
      → is_member k ≡ false → titled h.kind ≡ false → Keyed (suc i) ts hs ns → Keyed i (key k ∷ ts) (h ∷ hs) ns

bit_keyed : (b : Bool) {i : ℕ} {ts : List Token} {hs : List TextNode} {ns : List Name} → Keyed i ts hs ns → Keyed i (bit b ∷ ts) hs ns
bit_keyed true k = no_key refl k
bit_keyed false k = no_key refl k

pars_keyed : (ps : List Name) {i : ℕ} {ts : List Token} {hs : List TextNode} {ns : List Name} → Keyed i ts hs ns → Keyed i (pars_tokens ps ts) hs ns
pars_keyed [] k = k
pars_keyed (p ∷ ps) k = no_key refl (no_key refl (pars_keyed ps k))

ref_keyed : (r : Bool) {i : ℕ} {ts : List Token} {hs : List TextNode} {ns : List Name} → Keyed i ts hs ns → Keyed i (ref_tokens r ts) hs ns
ref_keyed r k = no_key refl (bit_keyed r (no_key refl k))

mutual
  unfolding flow_tokens flow_tree_nodes flow_names flow_nodes

  flow_keyed : (f : Flow) (around : List Name) (b : Bool) (d i j : ℕ) {ts : List Token} {hs : List TextNode} {ns : List Name} → j ≡ i + flow_nodes f
      → Keyed j ts hs ns → Keyed i (flow_tokens f ts) (flow_tree_nodes own f around b d i hs) (flow_names f ns)
  flow_keyed (flow n ps sw c r cs) around b d i j e k =
      title refl refl refl refl
      (no_key refl (no_key refl (pars_keyed ps (no_key refl (bit_keyed sw (no_key refl (no_key refl
      (child_keyed c around r (suc d) (suc i) (suc i + child_nodes c) refl
      (ref_keyed r (children_keyed cs around (suc d) (suc i + child_nodes c) j (omega arith) (no_key refl k)))))))))))

  children_keyed : (cs : Children) (around : List Name) (d i j : ℕ) {ts : List Token} {hs : List TextNode} {ns : List Name} → j ≡ i + children_nodes cs
      → Keyed j ts hs ns → Keyed i (children_tokens cs ts) (children_tree_nodes own cs around d i hs) (children_names cs ns)
  children_keyed none around d i j e k = let q : i ≡ j = omega arith in rw q k
  children_keyed (next c r cs) around d i j e k =
      child_keyed c around r d i (i + child_nodes c) refl (ref_keyed r (children_keyed cs around d (i + child_nodes c) j (omega arith) k))

  child_keyed : (c : Child) (around : List Name) (b : Bool) (d i j : ℕ) {ts : List Token} {hs : List TextNode} {ns : List Name} → j ≡ i + child_nodes c
      → Keyed j ts hs ns → Keyed i (child_tokens c ts) (child_tree_nodes own c around b d i hs) (child_names c ns)
  child_keyed (plain m) around b d i j e k = member_keyed m around b d i j e k
  child_keyed (loop m) around b d i j e k =
      no_title refl refl (no_key refl (member_keyed m around false (suc d) (suc i) j (omega arith) (no_key refl k)))
  child_keyed (group y m o ms) around b d i j e k =
      no_title refl (group_titled y)
      (no_key refl
      (member_keyed m around false (suc d) (suc i) (suc i + member_nodes m) refl
      (member_keyed o around false (suc d) (suc i + member_nodes m) (suc i + member_nodes m + member_nodes o) refl
      (members_keyed ms around (suc d) (suc i + member_nodes m + member_nodes o) j (omega arith) (no_key refl k)))))
  child_keyed (replicator y par size m) around b d i j e k =
      no_title refl (replicator_titled y size)
      (no_key refl (no_key refl (no_key refl (no_key refl (no_key refl (no_key refl
      (member_keyed m _ false (suc d) (suc i) j (omega arith) (no_key refl k))))))))

  member_keyed : (m : Member) (around : List Name) (b : Bool) (d i j : ℕ) {ts : List Token} {hs : List TextNode} {ns : List Name} → j ≡ i + member_nodes m
      → Keyed j ts hs ns → Keyed i (member_tokens m ts) (member_tree_nodes own m around b d i hs) (member_names m ns)
  member_keyed (leaf n) around b d i j e k =
      let q : j ≡ suc i = omega arith in
      title refl refl refl refl (no_key refl (no_key refl (no_key refl (rw q at k))))
  member_keyed (inner f) around b d i j e k = flow_keyed f around b d i j e k

  members_keyed : (ms : Members) (around : List Name) (d i j : ℕ) {ts : List Token} {hs : List TextNode} {ns : List Name} → j ≡ i + members_nodes ms
      → Keyed j ts hs ns → Keyed i (members_tokens ms ts) (members_tree_nodes own ms around d i hs) (members_names ms ns)
  members_keyed end around d i j e k = let q : i ≡ j = omega arith in rw q k
  members_keyed (also m ms) around d i j e k =
      member_keyed m around false d i (i + member_nodes m) refl (members_keyed ms around d (i + member_nodes m) j (omega arith) k)

-- By the text: each leaf and flow begins at its keyword, and has its name.
module _ (text : List ℕ) where
  -- The token that the text has at a number.
  token_here : {i k : ℕ} {t : Token} {ts : List Token} → Here text i k (t ∷ ts) → get_or (text_tokens keywords text) k other ≡ t
  token_here {i} {k} {t} {ts} r =
      let tokens = text_tokens keywords text in
      let e : k + 0 ≡ k = omega arith in
      ap (λ (x : ℕ). get_or tokens x other) (sym e) ∙ (sym (get_or-drop k tokens 0 other) ∙ ap (λ (l : List Token). get_or l 0 other) r.left)

  -- The name of a node whose keyword is the token k.
  stands_here : {i k : ℕ} {w : Keyword} {n : Name} {ts : List Token} (h : TextNode) → is_member w ≡ true → has_name h.kind ≡ true → h.number ≡ i
      → h.name ≡ n → Here text i k (key w ∷ sign opening ∷ name n ∷ ts) → Stands text h.name (name_place text h)
  unfolding name_place
  stands_here {i} {k} {w} {n} {ts} h m s p q r =
      let two : suc (suc k) ≡ k + 2 = omega arith in
      let place : name_place text h ≡ get_or (places text) (suc (suc k)) 0 = rw (s, p) (name_there text r) in
      record {
        keyword = k;
        its_kind = rw (token_here r) m;
        its_place = place ∙ ap (λ (x : ℕ). get_or (places text) x 0) two;
        its_name = rw place (word_there text (suc (suc k)) n ts (past_token text refl (past_key text r)).left ∙ sym q);
      }

  nodes_stand : {i k : ℕ} {ts : List Token} {hs : List TextNode} {ns : List Name} → Keyed i ts hs ns → Here text i k ts
      → Known (name_place text) (Stands text) hs
  unfolding Known
  nodes_stand empty r = tt
  nodes_stand (no_key q k) r = nodes_stand k (past_token text q r)
  nodes_stand (title {h = h} m s p q k) r = (λ t. stands_here h m s p q r, nodes_stand k (past_key text r))
  nodes_stand (no_title m q k) r = (λ t. absurd (clash t q), nodes_stand k (past_key text r))

  -- Those of a text that a diagram derives.
  module _ (d : Flow) (g : Derives keywords (text_tokens keywords text) d) where
    pub text_keyed : Keyed 0 (text_tokens keywords text) (nodes_by own d) (flow_names d [])
    text_keyed = rw g.tokens (flow_keyed d [] false 1 0 (flow_nodes d) (omega arith) empty)

    pub text_known : Known (name_place text) (Stands text) (nodes_by own d)
    text_known = nodes_stand text_keyed (at_start text)
