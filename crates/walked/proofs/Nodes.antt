-- What the walk leaves of each kind of node, by what it leaves of the node's parts.
use mathlib.Core.Path.{◌≡◌, refl, ap, ◌∙◌}
use mathlib.Core.Bool.{Bool, true, false}
use mathlib.Core.List.{List, [], ◌∷◌, ◌++◌}
use Prim.Native.Nat.{ℕ, suc, ◌+◌, ◌-◌, ◌≤◌, ◌<◌}
use native.Mathlib.Omega.{arith}
use lib.ListN.{length}
use Rattle.diagram.specs.Tree.{Name, Way, all, some, one, flow, Children, none, next, Child, loop, group, replicator, Member, leaf, Members, end, also}
use Rattle.diagram.specs.Count.{child_nodes, member_nodes}
use Rattle.diagram.specs.TreeNodes.{TextNode, own, flowing, has_name, group_kind, replicator_kind, text_node, flow_text_node, flow_tree_nodes, children_tree_nodes, child_tree_nodes, member_tree_nodes, members_tree_nodes}
use Rattle.diagram.specs.declared.Kind.{Kind}
use Rattle.diagram.specs.declared.Kind.TheVariants.{Flow as FlowNode, Leaf, Loop}
use Rattle.tokens.specs.Classes.{between}
use Rattle.tokens.specs.Words.{keywords}
use Rattle.tokens.specs.Token.{opening, closing, comma, colon, Keyword, Token, key, numeral}
use Rattle.grammar.specs.Named.{all_named}
use Rattle.grammar.specs.Tokens.{bit, pars_tokens, ref_tokens, flow_tokens, children_tokens, child_tokens, member_tokens, members_tokens}
use Rattle.grammar.specs.Machine.{Place, member, child, allows, Want, sign, number, params, node, more, others, ref, parts}
use Rattle.walked.specs.Walk.{State, state, change, begun, begun_kind, marked, named_at, with_size, sized, switched, waiting}
use Rattle.walked.specs.Rows.{row_of, Tells}
use Rattle.walked.specs.declared.Row.{Row}
use Rattle.walked.proofs.Filled.{Head, head_change, head_begun, Part, First, part_none, part_seq, part_plain, part_marked, first_node}
use Rattle.walked.proofs.Past.{start_of, Here, past_key, past_token, past_bit, key_there}
use Rattle.walked.proofs.RowTold.{no_name, one_name, with_pars, row_told}
use Rattle.walked.proofs.Track.{past_pars, track, closes, ref_step, size_step, pars_step, open_step, name_step, more_closing, others_closing, more_node, others_node}

-- The kinds of a way.
group_unnamed : (y : Way) → has_name (group_kind y) ≡ false
group_unnamed all = refl
group_unnamed some = refl
group_unnamed one = refl

replicator_named : (y : Way) (z : ℕ) → (has_name (replicator_kind y z) ≡ true) × (flowing (replicator_kind y z) ≡ false)
replicator_named all z = (refl, refl)
replicator_named some z = (refl, refl)
replicator_named one z = (refl, refl)

-- A replicator that is begun gets its size.
replicator_sized : (y : Way) (z : ℕ) → with_size z (replicator_kind y 0) ≡ replicator_kind y z
replicator_sized all z = refl
replicator_sized some z = refl
replicator_sized one z = refl

module _ (text : List ℕ) where
  past_all : {n k : ℕ} (ps : List Name) (sw : Bool) (ts : List Token)
      → Here text n k (pars_tokens ps (Token.sign comma ∷ bit sw ∷ Token.sign closing ∷ Token.sign opening ∷ ts)) → Here text n (past_pars k ps) ts
  past_all [] sw ts h = past_token text refl (past_token text refl (past_bit text sw (past_token text refl h)))
  past_all (p ∷ ps) sw ts h = past_all ps sw ts (past_token text refl (past_token text refl h))

  -- The node that stands from the tokens ts up to the tokens us, the nodes n to m - 1, is walked over; after it the children s wait as p says.
  pub record Walked (w : Want) (p : List ℕ → List ℕ) (ts us : List Token) (g : Bool → List TextNode → List TextNode) (n m k : ℕ) (rows : List Row) : Type 0 where
    pub after : List Row
    pub next : ℕ
    pub goes : (s : List ℕ) (ws : List Want) → track text (w ∷ ws) n (state rows s) k ts ≡ track text ws m (state after (p s)) next us
    pub here : Here text m next us
    pub first : First text n m rows after g

  -- The same for what is listed up to a `)`, where vs is wanted.
  pub record Passed (vs : List Want) (ts us : List Token) (g : List TextNode → List TextNode) (n m k : ℕ) (rows : List Row) : Type 0 where
    pub after : List Row
    pub next : ℕ
    pub goes : (s : List ℕ) (ws : List Want) → track text (vs ++ ws) n (state rows s) k ts ≡ track text ws m (state after s) next us
    pub here : Here text m next us
    pub part : Part text n m rows after g

  -- Whatever rows are lent, and wherever the tokens stand.
  abbrev pub Walks : Want → (List ℕ → List ℕ) → List Token → List Token → (Bool → List TextNode → List TextNode) → ℕ → ℕ → Type 0
  Walks w p ts us g n m = (k : ℕ) (rows : List Row) → length rows ≡ 257 → Here text n k ts → Walked w p ts us g n m k rows

  abbrev pub Passes : List Want → List Token → List Token → (List TextNode → List TextNode) → ℕ → ℕ → Type 0
  Passes vs ts us g n m = (k : ℕ) (rows : List Row) → length rows ≡ 257 → Here text n k ts → Passed vs ts us g n m k rows

  -- Where d depths are left, for nodes at depth x.
  module _ (around : List Name) (d x : ℕ) where
    abbrev pub MemberWalks : Place → Member → List Token → ℕ → ℕ → Type 0
    MemberWalks place a us n m =
        Walks (node place d) (λ s. waiting place n s) (member_tokens a us) us (λ b hs. member_tree_nodes own a around b x n hs) n m

    abbrev pub ChildWalks : Child → List Token → ℕ → ℕ → Type 0
    ChildWalks c us n m = Walks (node child d) (λ s. n ∷ s) (child_tokens c us) us (λ b hs. child_tree_nodes own c around b x n hs) n m

    abbrev pub MembersPass : List Want → Members → List Token → ℕ → ℕ → Type 0
    MembersPass vs ms us n m =
        Passes vs (members_tokens ms (Token.sign closing ∷ us)) us (λ hs. members_tree_nodes own ms around x n hs) n m

    abbrev pub ChildrenPass : List Want → Children → List Token → ℕ → ℕ → Type 0
    ChildrenPass vs cs us n m =
        Passes vs (children_tokens cs (Token.sign closing ∷ us)) us (λ hs. children_tree_nodes own cs around x n hs) n m

    -- No more than the `)`.
    module _ (us : List Token) (n m : ℕ) (M : n ≡ m) where
      end_closed : (vs : List Want) → ((st : State) (ws : List Want) (k : ℕ) → track text (vs ++ ws) n st k (Token.sign closing ∷ us) ≡ track text ws n st (suc k) us)
          → Passes vs (Token.sign closing ∷ us) us (λ hs. hs) n m
      end_closed vs c k rows r h = record {
        after = rows;
        next = suc k;
        goes = λ s ws. c (state rows s) ws k ∙ ap (λ (i : ℕ). track text ws i (state rows s) (suc k) us) M;
        here = rw (← M) (past_token text refl h);
        part = part_none text n m rows M r;
      }

      pub last_closed : MembersPass (sign closing ∷ []) end us n m
      unfolding members_tokens members_tree_nodes
      last_closed = end_closed (sign closing ∷ []) (λ st ws k. closes text ws n st k us)

      pub members_end : MembersPass (others d ∷ []) end us n m
      unfolding members_tokens members_tree_nodes
      members_end = end_closed (others d ∷ []) (λ st ws k. others_closing text d ws n st k us)

      pub children_none : ChildrenPass (more d ∷ []) none us n m
      unfolding children_tokens children_tree_nodes
      children_none = end_closed (more d ∷ []) (λ st ws k. more_closing text d ws n st k us)

    -- A member, or a child with its ref, and then others.
    module _ (us : List Token) (n m : ℕ) where
      pub member_then : (vs : List Want) (a : Member) (ms : Members) → MemberWalks member a (members_tokens ms (Token.sign closing ∷ us)) n (n + member_nodes a)
          → MembersPass vs ms us (n + member_nodes a) m → MembersPass (node member d ∷ vs) (also a ms) us n m
      unfolding members_tokens members_tree_nodes
      member_then vs a ms A M k rows room h =
          let u = A k rows room h in
          let v = M u.next u.after u.first.kept.sized u.here in
          record {
            after = v.after;
            next = v.next;
            goes = λ s ws. u.goes s (vs ++ ws) ∙ v.goes s ws;
            here = v.here;
            part = part_seq text (part_plain text u.first) v.part;
          }

      pub child_then : (c : Child) (r : Bool) (cs : Children) → n < 256
          → ChildWalks c (ref_tokens r (children_tokens cs (Token.sign closing ∷ us))) n (n + child_nodes c)
          → ChildrenPass (more d ∷ []) cs us (n + child_nodes c) m → ChildrenPass (node child d ∷ ref ++ (more d ∷ [])) (next c r cs) us n m
      unfolding children_tokens children_tree_nodes
      child_then c r cs U C K k rows room h =
          let u = C k rows room h in
          let p = part_marked text u.first r U in
          let v =
          K (suc (suc (suc u.next))) (change u.after (suc n) (marked r)) p.kept.sized
          (past_token text refl (past_bit text r (past_token text refl u.here))) in
          record {
            after = v.after;
            next = v.next;
            goes = λ s ws.
                u.goes s (ref ++ (more d ∷ ws))
                ∙ (ref_step text (more d ∷ ws) (n + child_nodes c) n u.after s u.next r (children_tokens cs (Token.sign closing ∷ us))
                ∙ v.goes s ws);
            here = v.here;
            part = part_seq text p v.part;
          }

      -- The same after others.
      begins : {vs vs' : List Want} {ts : List Token} {g : List TextNode → List TextNode}
          → ((st : State) (ws : List Want) (k : ℕ) → track text (vs' ++ ws) n st k ts ≡ track text (vs ++ ws) n st k ts) → Passes vs ts us g n m → Passes vs' ts us g n m
      begins q A k rows room h =
          let u = A k rows room h in
          record { after = u.after; next = u.next; goes = λ s ws. q (state rows s) ws k ∙ u.goes s ws; here = u.here; part = u.part }

      pub members_also : (a : Member) (ms : Members) (w : Keyword) (ts : List Token) → allows member w ≡ true
          → members_tokens (also a ms) (Token.sign closing ∷ us) ≡ key w ∷ ts
          → MembersPass (node member d ∷ others d ∷ []) (also a ms) us n m → MembersPass (others d ∷ []) (also a ms) us n m
      members_also a ms w ts B q A = begins (λ st ws k. rw q (others_node text d ws n st k ts w B)) A

      pub children_next : (c : Child) (r : Bool) (cs : Children) (w : Keyword) (ts : List Token)
          → children_tokens (next c r cs) (Token.sign closing ∷ us) ≡ key w ∷ ts
          → ChildrenPass (node child d ∷ ref ++ (more d ∷ [])) (next c r cs) us n m → ChildrenPass (more d ∷ []) (next c r cs) us n m
      children_next c r cs w ts q C = begins (λ st ws k. rw q (more_node text d ws n st k ts w)) C

  -- The node n at depth x, where d depths are left: its row, and then its parts.
  module _ (around : List Name) (d x n m : ℕ) (D : d + x ≡ 13) (H : 0 < d) (G : n < m) (U : m ≤ 256) where
    depth : 13 - d ≡ x
    depth = omega arith

    few : n < 256
    few = omega arith

    node_walked : {w : Want} {p : List ℕ → List ℕ} {us : List Want} {ts ts₁ rest : List Token} {g : List TextNode → List TextNode} {rows rows₁ : List Row}
        (k i : ℕ) (r : Row) (h : Bool → TextNode) → r.node.solid ≡ false → ((rs : List Row) (b : Bool) → row_of rs n ≡ marked b r → Tells text rs n (h b))
        → Head rows rows₁ n r
        → ((s : List ℕ) (ws : List Want) → track text (w ∷ ws) n (state rows s) k ts ≡ track text (us ++ ws) (suc n) (state rows₁ (p s)) i ts₁)
        → Here text (suc n) i ts₁ → Passes us ts₁ rest g (suc n) m → Walked w p ts rest (λ b hs. h b ∷ g hs) n m k rows
    node_walked {p = p} {rows₁ = rows₁} k i r h z tell y front there parts =
        let q = parts i rows₁ y.sized there in
        record {
          after = q.after;
          next = q.next;
          goes = λ s ws. front s ws ∙ q.goes (p s) ws;
          here = q.here;
          first = first_node text r y z h tell q.part;
        }

    -- The row that is begun, and the one with the name, which stands two tokens after the keyword.
    begun_row : ℕ → Kind → Row
    begun_row k kind = record {
      node = record { kind = kind; solid = false; strong = false; depth = 13 - d; at = start_of text k; name = 0 };
      past = 0;
    }

    named_row : ℕ → Kind → ℕ → Row
    named_row k kind e = named_at (start_of text (suc (suc k))) e (begun_row k kind)

    named_rows : List Row → ℕ → Kind → ℕ → List Row
    named_rows rows k kind e = change (begun rows n kind (start_of text k) d) (suc n) (named_at (start_of text (suc (suc k))) e)

    head_named : (rows : List Row) (k : ℕ) (kind : Kind) (e : ℕ) → length rows ≡ 257 → Head rows (named_rows rows k kind e) n (named_row k kind e)
    unfolding named_rows named_row begun_row
    head_named rows k kind e z = head_change few (named_at (start_of text (suc (suc k))) e) (head_begun rows n kind (start_of text k) d few z)

    pub leaf_walks : (place : Place) (t : Name) (us : List Token) → allows place Keyword.leaf ≡ true
        → MembersPass around (d - 1) (suc x) (sign closing ∷ []) end us (suc n) m → MemberWalks around d x place (leaf t) us n m
    unfolding member_tokens member_tree_nodes named_rows named_row begun_row
    leaf_walks place t us a E k rows z h =
        let p = start_of text (suc (suc k)) in
        node_walked k (suc (suc (suc k))) (named_row k Leaf (p + length t)) (λ b. text_node n Leaf b x t) refl
        (λ rs b q. row_told text n (start_of text k) p (p + length t) (text_node n Leaf b x t) refl (key_there text h)
        (one_name text n k Keyword.leaf t (Token.sign closing ∷ us) h Leaf refl refl) rs (rw depth at q))
        (head_named rows k Leaf (p + length t) z)
        (λ s ws. name_step text place d n Keyword.leaf a H few (sign closing ∷ []) ws rows s k (Token.sign closing ∷ us) t refl)
        (past_token text refl (past_token text refl (past_key text h))) E

    -- A constructor with members but no name.
    bare_walked : (w : Keyword) (kind : Kind) (vs : List Want) (ms : Members) (us : List Token) → begun_kind (key w) ≡ kind
        → parts w (d - 1) ≡ sign opening ∷ vs → has_name kind ≡ false → MembersPass around (d - 1) (suc x) vs ms us (suc n) m
        → Walks (node child d) (λ s. n ∷ s) (key w ∷ Token.sign opening ∷ members_tokens ms (Token.sign closing ∷ us)) us
        (λ b hs. text_node n kind b x [] ∷ members_tree_nodes own ms around (suc x) (suc n) hs) n m
    unfolding begun_row
    bare_walked w kind vs ms us c p f M k rows z h =
        node_walked k (suc (suc k)) (begun_row k kind) (λ b. text_node n kind b x []) refl
        (λ rs b q. row_told text n (start_of text k) 0 0 (text_node n kind b x []) refl (key_there text h) (no_name text n kind f) rs (rw depth at q))
        (head_begun rows n kind (start_of text k) d few z)
        (λ s ws. rw (← c)
        (open_step text child d n w refl H few vs ws rows s k (members_tokens ms (Token.sign closing ∷ us)) p))
        (past_token text refl (past_key text h)) M

    pub loop_walks : (a : Member) (us : List Token) → MembersPass around (d - 1) (suc x) (node member (d - 1) ∷ sign closing ∷ []) (also a end) us (suc n) m
        → ChildWalks around d x (loop a) us n m
    unfolding child_tokens child_tree_nodes
    loop_walks a us A = bare_walked Keyword.loop Loop (node member (d - 1) ∷ sign closing ∷ []) (also a end) us refl refl refl A

    pub group_walks : (y : Way) (a o : Member) (ms : Members) (us : List Token)
        → MembersPass around (d - 1) (suc x) (node member (d - 1) ∷ node member (d - 1) ∷ others (d - 1) ∷ []) (also a (also o ms)) us (suc n) m
        → ChildWalks around d x (group y a o ms) us n m
    unfolding child_tokens child_tree_nodes
    group_walks y a o ms us A =
        bare_walked (Keyword.group y) (group_kind y) (node member (d - 1) ∷ node member (d - 1) ∷ others (d - 1) ∷ []) (also a (also o ms)) us
        refl refl (group_unnamed y) A

    pub replicator_walks : (y : Way) (par : Name) (z : ℕ) (a : Member) (us : List Token) → between 1 16 z ≡ true
        → MembersPass (around ++ (par ∷ [])) (d - 1) (suc x) (node member (d - 1) ∷ sign closing ∷ []) (also a end) us (suc n) m
        → ChildWalks around d x (replicator y par z a) us n m
    unfolding child_tokens child_tree_nodes named_rows named_row begun_row
    replicator_walks y par z a us g A k rows r h =
        let kind = replicator_kind y z in
        let f = replicator_named y z in
        let p = start_of text (suc (suc k)) in
        let e = p + length par in
        let vs = node member (d - 1) ∷ sign closing ∷ [] in
        let ts = member_tokens a (Token.sign closing ∷ us) in
        let ts₁ = Token.sign colon ∷ numeral z ∷ Token.sign closing ∷ Token.sign opening ∷ ts in
        let h₁ = past_token text refl (past_token text refl (past_key text h)) in
        node_walked k (suc (suc (suc (suc (suc (suc (suc k))))))) (sized z (named_row k (replicator_kind y 0) e)) (λ b. text_node n kind b x par) refl
        (λ rs b q. row_told text n (start_of text k) p e (text_node n kind b x par) refl (key_there text h)
        (one_name text n k (Keyword.replicator y) par ts₁ h kind f.0 f.1) rs (rw (replicator_sized y z, depth) at q))
        (head_change few (sized z) (head_named rows k (replicator_kind y 0) e r))
        (λ s ws.
        name_step text child d n (Keyword.replicator y) refl H few
        (sign colon ∷ number 1 16 ∷ sign closing ∷ sign opening ∷ vs) ws rows s k ts₁ par refl
        ∙ size_step text (vs ++ ws) (suc n) (named_rows rows k (replicator_kind y 0) e) (n ∷ s) (suc (suc (suc k))) z ts g)
        (past_token text refl (past_token text refl (past_token text refl (past_token text refl h₁)))) A

    pub flow_walks : (place : Place) (t : Name) (ps : List Name) (sw : Bool) (c : Child) (r : Bool) (cs : Children) (us : List Token)
        → allows place Keyword.flow ≡ true → all_named keywords ps ≡ true
        → ChildrenPass around (d - 1) (suc x) (node child (d - 1) ∷ ref ++ (more (d - 1) ∷ [])) (next c r cs) us (suc n) m
        → Walks (node place d) (λ s. waiting place n s) (flow_tokens (flow t ps sw c r cs) us) us
        (λ b hs. flow_tree_nodes own (flow t ps sw c r cs) around b x n hs) n m
    unfolding flow_tokens flow_tree_nodes named_rows named_row begun_row
    flow_walks place t ps sw c r cs us a g K k rows z h =
        let p = start_of text (suc (suc k)) in
        let e = p + length t in
        let vs = node child (d - 1) ∷ ref ++ (more (d - 1) ∷ []) in
        let ts = children_tokens (next c r cs) (Token.sign closing ∷ us) in
        let ts₁ = pars_tokens ps (Token.sign comma ∷ bit sw ∷ Token.sign closing ∷ Token.sign opening ∷ ts) in
        let k₁ = suc (suc (suc k)) in
        node_walked k (past_pars k₁ ps) (switched sw (named_row k FlowNode e)) (λ b. flow_text_node n b sw x t ps) refl
        (λ rs b q. row_told text n (start_of text k) p e (flow_text_node n b sw x t ps) refl (key_there text h)
        (with_pars text n k Keyword.flow t ts₁ h FlowNode ps sw (Token.sign opening ∷ ts) refl g refl) rs (rw depth at q))
        (head_change few (switched sw) (head_named rows k FlowNode e z))
        (λ s ws.
        name_step text place d n Keyword.flow a H few (params ∷ sign opening ∷ vs) ws rows s k ts₁ t refl
        ∙ pars_step text ps (vs ++ ws) (suc n) (named_rows rows k FlowNode e) (waiting place n s) k₁ sw ts)
        (past_all ps sw ts (past_token text refl (past_token text refl (past_key text h)))) K
