-- No two events of a diagram are the same: "leaf and flow names all differ", and so do the values of a node's copies.
use mathlib.Core.Path.{◌≡◌, refl, sym, ap, ◌∙◌, subst}
use mathlib.Core.Logic.{◌⊎◌, inl, inr, ⊎_elim}
use mathlib.Core.Bool.{true, not}
use mathlib.Core.List.{List, [], ◌∷◌, ◌++◌, append-nil, append_assoc}
use Prim.Native.Nat.{ℕ, zero, suc, ◌+◌, ◌-◌, ◌*◌, ◌<◌}
use lib.ListN.{length, get_or}
use lib.Seq.{get_or-append_seam}
use borrow.Author.Tests.{eqb-true}
use Rattle.base.proofs.Truth.{by_cases, clash, and_l, and_r, not_e}
use Rattle.diagram.specs.Tree.{Name, Flow, flow, Children, none, next, Child, plain, loop, group, replicator, Member, leaf, inner, Members, end, also}
use Rattle.diagram.specs.Names.{same, new, differ, flow_names, children_names, child_names, member_names, members_names}
use Rattle.base.proofs.Decided.{same_decides}
use Rattle.diagram.specs.Sizes.{flow_sized}
use Rattle.diagram.specs.Count.{flow_events, member_events}
use Rattle.process.specs.Process.{Event, Joint, seq, Process, event, join, again, rounds, owns, event_of}
use Rattle.process.specs.Expand.{leaf_copy, reset_of, joint, copies, expand, flow_process, children_process, child_process, loop_process, member_process, members_process}
use Rattle.process.proofs.Events.{expand_events}

-- An event of a process, by its number.
record Has (p : Process) (x : ℕ) (l : Event) : Type 0 where
  owned : owns p x ≡ true
  its_event : event_of p x ≡ l

-- Its only event is this one.
abbrev Only : Process → ℕ → Event → Type 0
Only p n l = (x : ℕ) (k : Event) → Has p x k → (n ≡ x) × (l ≡ k)

in_leaf : (n : ℕ) (l : Event) → Only (event n l) n l
unfolding owns event_of
in_leaf n l x k h = (eqb-true n x h.owned, h.its_event)

in_again : (n : ℕ) (l : Event) → Only (again n l) n l
unfolding owns event_of
in_again n l x k h = (eqb-true n x h.owned, h.its_event)

-- Its events are those of two others.
abbrev OfBoth : Process → Process → Process → Type 0
OfBoth w p q = (x : ℕ) (l : Event) → Has w x l → Has p x l ⊎ Has q x l

in_join : (j : Joint) (p q : Process) → OfBoth (join j p q) p q
unfolding owns event_of
in_join j p q x l h =
    by_cases (owns p x)
    (λ t. inl record { owned = t; its_event = rw t at h.its_event })
    (λ t. inr record { owned = rw t at h.owned; its_event = rw t at h.its_event })

in_rounds : (p : Process) (r : ℕ) (l : Event) → OfBoth (rounds p r l) (event r l) p
unfolding owns event_of
in_rounds p r l x k h =
    by_cases (owns p x)
    (λ t. inr record { owned = t; its_event = rw t at h.its_event })
    (λ t. inl record { owned = rw t at h.owned; its_event = rw t at h.its_event })

in_copies : (j : Joint) (copy : ℕ → Process) (last x : ℕ) (l : Event) → Has (copies j copy last) x l → (v : ℕ) × Has (copy v) x l
in_copies j copy zero x l h = (0, h)
in_copies j copy (suc last) x l h =
    ⊎_elim (λ k. in_copies j copy last x l k) (λ k. (suc last, k)) (in_join j (copies j copy last) (copy (suc last)) x l h)

-- The values of an event start with those of the copy that it stands in.
abbrev Starts : List ℕ → List ℕ → Type 0
Starts vs ws = (on : List ℕ) × (ws ≡ vs ++ on)

-- Two copies of a node: values that start with those of both have one value there.
one_value : (vs ws : List ℕ) (u v : ℕ) → Starts (vs ++ (u ∷ [])) ws → Starts (vs ++ (v ∷ [])) ws → u ≡ v
one_value vs ws u v b c = sym (at u b) ∙ at v c
  where
    at : (w : ℕ) → Starts (vs ++ (w ∷ [])) ws → get_or ws (length vs) 0 ≡ w
    at w (on, e) = rw (e, append_assoc vs (w ∷ []) on) (get_or-append_seam vs w on 0)

before_value : (vs ws : List ℕ) (v : ℕ) → Starts (vs ++ (v ∷ [])) ws → Starts vs ws
before_value vs ws v (on, e) = (v ∷ on, e ∙ append_assoc vs (v ∷ []) on)

-- A name that is none of these is not the first, and none of the others.
new_first : (m n : Name) (ns : List Name) → new m (n ∷ ns) ≡ true → n ≡ m → ⊥
new_first m n ns h e = clash ((same_decides m n).1 (sym e)) (not_e (same m n) (and_l (not (same m n)) (new m ns) h))

new_others : (m n : Name) (ns : List Name) → new m (n ∷ ns) ≡ true → new m ns ≡ true
new_others m n ns h = and_r (not (same m n)) (new m ns) h

-- The process of a node's copy for the values `vs`, its events told apart: they have some of the names `all`, of which `ns` are left for the nodes after it.
record Distinct (p : Process) (vs : List ℕ) (ns all : List Name) : Type 0 where
  -- a name that is none of `all` is no event's, and none of those left
  named : (x : ℕ) (l : Event) → Has p x l → new l.name all ≡ true → ⊥
  fewer : (m : Name) → new m all ≡ true → new m ns ≡ true
  -- those left differ, and are no event's
  left : differ ns ≡ true
  free : (x : ℕ) (l : Event) → Has p x l → new l.name ns ≡ true
  valued : (x : ℕ) (l : Event) → Has p x l → Starts vs l.values
  once : (x y : ℕ) (l : Event) → Has p x l → Has p y l → x ≡ y

distinct_one : {p : Process} {n : ℕ} {l : Event} {vs : List ℕ} (ns : List Name) → Only p n l → l.values ≡ vs → differ (l.name ∷ ns) ≡ true
    → Distinct p vs ns (l.name ∷ ns)
distinct_one {l = l} {vs = vs} ns only e h = record {
  named = λ x k i t. new_first k.name l.name ns t (ap (λ (a : Event). a.name) (only x k i).1);
  fewer = λ m t. new_others m l.name ns t;
  left = and_r (new l.name ns) (differ ns) h;
  free = λ x k i. subst (λ (a : Event). new a.name ns ≡ true) (only x k i).1 (and_l (new l.name ns) (differ ns) h);
  valued = λ x k i. ([], subst (λ (a : Event). a.values ≡ vs ++ []) (only x k i).1 (e ∙ sym (append-nil vs)));
  once = λ x y k i j. sym (only x k i).0 ∙ (only y k j).0;
}

-- One name more, which no event has.
distinct_more : (n : Name) {p : Process} {vs : List ℕ} {ns all : List Name} → Distinct p vs ns all → Distinct p vs ns (n ∷ all)
distinct_more n {all = all} P = record {
  named = λ x l i t. P.named x l i (new_others l.name n all t);
  fewer = λ m t. P.fewer m (new_others m n all t);
  left = P.left;
  free = P.free;
  valued = P.valued;
  once = P.once;
}

-- Two parts, the names of the second being left by the first.
distinct_both : {w p q : Process} {vs : List ℕ} {ns mid all : List Name} → OfBoth w p q → Distinct p vs mid all → Distinct q vs ns mid → Distinct w vs ns all
distinct_both {p = p} {q = q} of P Q = record {
  named = λ x l i t. ⊎_elim (λ k. P.named x l k t) (λ k. Q.named x l k (P.fewer l.name t)) (of x l i);
  fewer = λ m t. Q.fewer m (P.fewer m t);
  left = Q.left;
  free = λ x l i. ⊎_elim (λ k. Q.fewer l.name (P.free x l k)) (λ k. Q.free x l k) (of x l i);
  valued = λ x l i. ⊎_elim (λ k. P.valued x l k) (λ k. Q.valued x l k) (of x l i);
  once = λ x y l i k. same_side x y l (of x l i) (of y l k);
}
  where
    same_side : (x y : ℕ) (l : Event) → Has p x l ⊎ Has q x l → Has p y l ⊎ Has q y l → x ≡ y
    same_side x y l (inl i) (inl k) = P.once x y l i k
    same_side x y l (inl i) (inr k) = absurd (Q.named y l k (P.free x l i))
    same_side x y l (inr i) (inl k) = absurd (Q.named x l i (P.free y l k))
    same_side x y l (inr i) (inr k) = Q.once x y l i k

distinct_join : (j : Joint) {p q : Process} {vs : List ℕ} {ns mid all : List Name} → Distinct p vs mid all → Distinct q vs ns mid → Distinct (join j p q) vs ns all
distinct_join j {p} {q} P Q = distinct_both (in_join j p q) P Q

-- The copies share their names; their values tell them apart.
distinct_copies : (j : Joint) (copy : ℕ → Process) {vs : List ℕ} {ns all : List Name} → ((v : ℕ) → Distinct (copy v) (vs ++ (v ∷ [])) ns all) → (last : ℕ)
    → Distinct (copies j copy last) vs ns all
distinct_copies j copy {vs} f last = record {
  named = λ x l i. let k = in_copies j copy last x l i in (f k.0).named x l k.1;
  fewer = (f 0).fewer;
  left = (f 0).left;
  free = λ x l i. let k = in_copies j copy last x l i in (f k.0).free x l k.1;
  valued = λ x l i. let k = in_copies j copy last x l i in before_value vs l.values k.0 ((f k.0).valued x l k.1);
  once = λ x y l i k. same_copy x y l (in_copies j copy last x l i) (in_copies j copy last y l k);
}
  where
    same_copy : (x y : ℕ) (l : Event) → (v : ℕ) × Has (copy v) x l → (v : ℕ) × Has (copy v) y l → x ≡ y
    same_copy x y l (u, i) (v, k) =
        let one = one_value vs l.values v u ((f v).valued y l k) ((f u).valued x l i) in
        (f u).once x y l i (subst (λ (w : ℕ). Has (copy w) y l) one k)

-- The names in a flow, but for its own.
abbrev below : Flow → List Name → List Name
below (flow n ps sw c r cs) ns = child_names c (children_names cs ns)

-- "for each copy of a loop over a flow, its reset": it has the values of the copy.
reset_valued : (f : Flow) (vs : List ℕ) → (reset_of f vs).values ≡ vs
reset_valued f vs = refl

-- A flow whose body is told, as a member and as the body of a loop, whose reset has the flow's own name.
module _ (ns : List Name) (vs : List ℕ) where
  distinct_inner : (f : Flow) (p : Process) → differ (flow_names f ns) ≡ true → (differ (below f ns) ≡ true → Distinct p vs ns (below f ns)) → Distinct p vs ns (flow_names f ns)
  unfolding flow_names
  distinct_inner (flow n ps sw c r cs) p h body =
      let all = child_names c (children_names cs ns) in
      distinct_more n (body (and_r (new n all) (differ all) h))

  distinct_rounds : (f : Flow) (p : Process) (e : ℕ) → differ (flow_names f ns) ≡ true → (differ (below f ns) ≡ true → Distinct p vs ns (below f ns))
      → Distinct (rounds p e (reset_of f vs)) vs ns (flow_names f ns)
  unfolding flow_names
  distinct_rounds (flow n ps sw c r cs) p e h body =
      let all = child_names c (children_names cs ns) in
      let reset = reset_of (flow n ps sw c r cs) vs in
      distinct_both (in_rounds p e reset) (distinct_one all (in_leaf e reset) (reset_valued (flow n ps sw c r cs) vs) h) (body (and_r (new n all) (differ all) h))

-- Each copy of a node, by the shape of `flow_process`.
mutual
  unfolding flow_process flow_names

  flow_distinct : (f : Flow) (ns : List Name) → differ (below f ns) ≡ true → (vs : List ℕ) (e : ℕ) → Distinct (flow_process f vs e) vs ns (below f ns)
  flow_distinct (flow n ps sw c r cs) ns h vs e = children_distinct cs ns vs _ _ (child_distinct c (children_names cs ns) h vs e)

  children_distinct : (cs : Children) (ns : List Name) (vs : List ℕ) (p : Process) (e : ℕ) {all : List Name} → Distinct p vs (children_names cs ns) all
      → Distinct (children_process cs vs p e) vs ns all
  children_distinct none ns vs p e P = P
  children_distinct (next c r cs) ns vs p e P = children_distinct cs ns vs _ _ (distinct_join seq P (child_distinct c (children_names cs ns) P.left vs e))

  child_distinct : (c : Child) (ns : List Name) → differ (child_names c ns) ≡ true → (vs : List ℕ) (e : ℕ) → Distinct (child_process c vs e) vs ns (child_names c ns)
  child_distinct (plain m) ns h vs e = member_distinct m ns h vs e
  child_distinct (loop m) ns h vs e = loop_distinct m ns h vs e
  child_distinct (group y a b ms) ns h vs e =
      let A = member_distinct a (member_names b (members_names ms ns)) h vs e in
      members_distinct ms ns (joint y) vs _ _ (distinct_join (joint y) A (member_distinct b (members_names ms ns) A.left vs _))
  child_distinct (replicator y par size m) ns h vs e = distinct_copies (joint y) _ (λ v. member_distinct m ns h (vs ++ (v ∷ [])) (e + v * member_events m)) (size - 1)

  loop_distinct : (m : Member) (ns : List Name) → differ (member_names m ns) ≡ true → (vs : List ℕ) (e : ℕ) → Distinct (loop_process m vs e) vs ns (member_names m ns)
  loop_distinct (leaf n) ns h vs e = distinct_one ns (in_again e (leaf_copy n vs)) refl h
  loop_distinct (inner f) ns h vs e = distinct_rounds ns vs f _ _ h (λ k. flow_distinct f ns k vs e)

  member_distinct : (m : Member) (ns : List Name) → differ (member_names m ns) ≡ true → (vs : List ℕ) (e : ℕ) → Distinct (member_process m vs e) vs ns (member_names m ns)
  member_distinct (leaf n) ns h vs e = distinct_one ns (in_leaf e (leaf_copy n vs)) refl h
  member_distinct (inner f) ns h vs e = distinct_inner ns vs f _ h (λ k. flow_distinct f ns k vs e)

  members_distinct : (ms : Members) (ns : List Name) (j : Joint) (vs : List ℕ) (p : Process) (e : ℕ) {all : List Name} → Distinct p vs (members_names ms ns) all
      → Distinct (members_process ms j vs p e) vs ns all
  members_distinct end ns j vs p e P = P
  members_distinct (also m ms) ns j vs p e P = members_distinct ms ns j vs _ _ (distinct_join j P (member_distinct m (members_names ms ns) P.left vs e))

-- The event of a number, its mark, name and values, is no other number's.
pub no_event_twice : (d : Flow) → flow_sized d ≡ true → differ (flow_names d []) ≡ true → (e f : ℕ) → e < flow_events d → f < flow_events d
    → event_of (expand d) e ≡ event_of (expand d) f → e ≡ f
no_event_twice d s h e f i k q =
    let all = distinct_inner [] [] d (expand d) h (λ r. flow_distinct d [] r [] 0) in
    all.once e f (event_of (expand d) f) record { owned = (expand_events d s e).1 i; its_event = q } record { owned = (expand_events d s f).1 k; its_event = refl }
