-- The process of a diagram has the runs of document 01's sentences, for any number of children, members and copies, and those of card 1 for its loops.
use mathlib.Core.Path.{◌≡◌, refl, sym, ◌∙◌, ap, subst}
use mathlib.Core.Logic.Iff
use mathlib.Core.Logic.{◌⊎◌, inl, inr, ◌↔◌}
use mathlib.Core.Bool.{Bool}
use mathlib.Core.List.{List, [], ◌∷◌, ◌++◌, append-nil, cons≢nil}
use Prim.Native.Nat.{ℕ, zero, suc, ◌+◌, ◌-◌, ◌*◌}
use native.Mathlib.Omega.{arith}
use lib.Dec.{eqb}
use Rattle.diagram.specs.Tree.{Name, Way, all, some, one, Flow, flow, Children, none, next, Child, loop, group, replicator, Member, leaf, inner, Members, end, also}
use Rattle.diagram.specs.Count.{flow_events, child_events, member_events}
use Rattle.process.specs.Process.{Joint, seq, and, or, xor, Process, join}
use Rattle.process.specs.Expand.{joint, copies, flow_process, children_process, child_process, member_process, members_process}
use Rattle.process.specs.Runs.{Runs, Then, Both, Either, Or, Mix, All, Loop, Joined, Whole}
use Rattle.process.specs.Readings.{InOrder, Interleaved, Choice, nothing, pick, leave, SomeOf, OneOf, Several, children_parts, members_parts, copies_parts}
use Rattle.process.proofs.Lists.{mix_all_l, mix_append}
use Rattle.process.proofs.Joins.{Same, joined_same, from_left, to_right, left_same, left_snoc, regroup}

whole_join : (j : Joint) (p q : Process) → Same (Whole (join j p q)) (Joined j (Whole p) (Whole q))
unfolding Whole
whole_join j p q w = Iff.rfl

-- The sentences, the parts being grouped to the right.
abbrev Nothing : Runs
Nothing w = w ≡ []

then_nothing : (A : Runs) → Same A (Then A Nothing)
then_nothing A w = (
  λ h. (w, [], h, refl, sym (append-nil w)),
  λ h. subst A (sym (h.4 ∙ (ap (λ (l : List ℕ). h.0 ++ l) h.3 ∙ append-nil h.0))) h.2,
)

both_nothing : (A : Runs) → Same A (Both A Nothing)
both_nothing A w = (
  λ h. (w, [], h, refl, subst (Mix w []) (append-nil w) (mix_append w [])),
  λ h. subst A (mix_all_l h.4 h.3) h.2,
)

in_order : (p : Process) (ps : List Process) → Same (to_right seq (Whole p) ps) (InOrder (p ∷ ps))
in_order p [] = then_nothing (Whole p)
in_order p (q ∷ ps) = joined_same seq (λ w. Iff.rfl) (in_order q ps)

interleaved : (p : Process) (ps : List Process) → Same (to_right and (Whole p) ps) (Interleaved (p ∷ ps))
interleaved p [] = both_nothing (Whole p)
interleaved p (q ∷ ps) = joined_same and (λ w. Iff.rfl) (interleaved q ps)

either_none : (A : Runs) → Same A (Either A (λ w. ⊥))
either_none A w = (inl, only)
  where
    only : A w ⊎ ⊥ → A w
    only (inl h) = h
    only (inr h) = absurd h

one_of : (p : Process) (ps : List Process) → Same (to_right xor (Whole p) ps) (OneOf (p ∷ ps))
one_of p [] = either_none (Whole p)
one_of p (q ∷ ps) = joined_same xor (λ w. Iff.rfl) (one_of q ps)

-- a choice from a list takes its first member or leaves it
abbrev Taken : Process → List Process → List Process → Type 0
Taken p ps qs = ((rs : List Process) × (qs ≡ p ∷ rs) × Choice ps rs) ⊎ Choice ps qs

taken : {p : Process} {ps qs : List Process} → Choice (p ∷ ps) qs → Taken p ps qs
taken (pick c) = inl (_, refl, c)
taken (leave c) = inr c

none_taken : (ps : List Process) → Choice ps []
none_taken [] = nothing
none_taken (p ∷ ps) = leave (none_taken ps)

none_left : {qs : List Process} → Choice [] qs → qs ≡ []
none_left nothing = refl

some_cons : (p : Process) (ps : List Process) → Same (Or (Whole p) (SomeOf ps)) (SomeOf (p ∷ ps))
some_cons p ps w = (to, λ (q, qs, c, h). from q qs (taken c) h)
  where
    to : Or (Whole p) (SomeOf ps) w → SomeOf (p ∷ ps) w
    to (inl (inl h)) = (p, [], pick (none_taken ps), (both_nothing (Whole p) w).0 h)
    to (inl (inr (q, qs, c, h))) = (q, qs, leave c, h)
    to (inr (u, v, hu, (q, qs, c, hv), m)) = (p, q ∷ qs, pick c, (u, v, hu, hv, m))

    with_first : (rs : List Process) → Choice ps rs → Both (Whole p) (Interleaved rs) w → Or (Whole p) (SomeOf ps) w
    with_first [] c h = inl (inl ((both_nothing (Whole p) w).1 h))
    with_first (r ∷ rs) c h = inr (h.0, h.1, h.2, (r, rs, c, h.3), h.4)

    from : (q : Process) (qs : List Process) → Taken p ps (q ∷ qs) → Interleaved (q ∷ qs) w → Or (Whole p) (SomeOf ps) w
    from q qs (inl (rs, e, c)) h = with_first rs c (subst (λ (l : List Process). Interleaved l w) e h)
    from q qs (inr c) h = inl (inr (q, qs, c, h))

some_of : (p : Process) (ps : List Process) → Same (to_right or (Whole p) ps) (SomeOf (p ∷ ps))
some_of p [] w = (λ h. (some_cons p [] w).0 (inl (inl h)), λ h. only ((some_cons p [] w).1 h))
  where
    empty : (v : List ℕ) → SomeOf [] v → ⊥
    empty v (q, qs, c, h) = cons≢nil (none_left c)

    only : Or (Whole p) (SomeOf []) w → Whole p w
    only (inl (inl h)) = h
    only (inl (inr h)) = absurd (empty w h)
    only (inr (u, v, hu, hv, m)) = absurd (empty v hv)
some_of p (q ∷ ps) w = Iff.trans (joined_same or {A = Whole p} (λ v. Iff.rfl) (some_of q ps) w) (some_cons p (q ∷ ps) w)

several : (y : Way) (p : Process) (ps : List Process) → Same (to_right (joint y) (Whole p) ps) (Several y (p ∷ ps))
several all p ps = interleaved p ps
several some p ps = some_of p ps
several one p ps = one_of p ps

-- The process of a diagram joins its parts from the left.
joined_left : (j : Joint) (p q : Process) (ps : List Process) {A : Runs} → Same A (from_left j (Whole (join j p q)) ps)
    → Same A (from_left j (Whole p) (q ∷ ps))
joined_left j p q ps s w = Iff.trans (s w) (left_same j ps (whole_join j p q) w)

children_left : (cs : Children) (vs : List ℕ) (p : Process) (e : ℕ) → Same (Whole (children_process cs vs p e)) (from_left seq (Whole p) (children_parts cs vs e))
unfolding children_process children_parts
children_left none vs p e w = Iff.rfl
children_left (next c r cs) vs p e w =
    joined_left seq p (child_process c vs e) (children_parts cs vs (e + child_events c)) (children_left cs vs (join seq p (child_process c vs e)) (e + child_events c)) w

members_left : (ms : Members) (j : Joint) (vs : List ℕ) (p : Process) (e : ℕ)
    → Same (Whole (members_process ms j vs p e)) (from_left j (Whole p) (members_parts ms vs e))
unfolding members_process members_parts
members_left end j vs p e w = Iff.rfl
members_left (also m ms) j vs p e w =
    joined_left j p (member_process m vs e) (members_parts ms vs (e + member_events m)) (members_left ms j vs (join j p (member_process m vs e)) (e + member_events m)) w

abbrev copy : Member → List ℕ → ℕ → ℕ → Process
copy m vs e v = member_process m (vs ++ (v ∷ [])) (e + v * member_events m)

-- one copy more at the end
parts_snoc : (m : Member) (vs : List ℕ) (e v n : ℕ) → copies_parts m vs e v (suc n) ≡ copies_parts m vs e v n ++ (copy m vs e (v + n) ∷ [])
unfolding copies_parts
parts_snoc m vs e v zero = let z : v + 0 ≡ v = omega arith in rw z
parts_snoc m vs e v (suc n) =
    let z : suc v + n ≡ v + suc n = omega arith in
    ap (λ (l : List Process). copy m vs e v ∷ l) (rw z at (parts_snoc m vs e (suc v) n))

copies_left : (j : Joint) (m : Member) (vs : List ℕ) (e n : ℕ)
    → Same (Whole (copies j (copy m vs e) n)) (from_left j (Whole (copy m vs e 0)) (copies_parts m vs e 1 n))
unfolding copies_parts
copies_left j m vs e zero w = Iff.rfl
copies_left j m vs e (suc n) w =
    let A = Whole (copy m vs e 0) in
    let z : 1 + n ≡ suc n = omega arith in
    let k : copies_parts m vs e 1 (suc n) ≡ copies_parts m vs e 1 n ++ (copy m vs e (suc n) ∷ []) = rw z at (parts_snoc m vs e 1 n) in
    Iff.trans (whole_join j (copies j (copy m vs e) n) (copy m vs e (suc n)) w)
    (Iff.trans (joined_same j (copies_left j m vs e n) (λ v. Iff.rfl) w)
    (subst (λ (l : List Process). Joined j (from_left j A (copies_parts m vs e 1 n)) (Whole (copy m vs e (suc n))) w ↔ from_left j A l w) (sym k)
    (Iff.symm (left_snoc j A (copies_parts m vs e 1 n) (copy m vs e (suc n)) w))))

-- "A flow gives a whole run of each child, in order."
pub flow_read : (n : Name) (ps : List Name) (sw : Bool) (c : Child) (r : Bool) (cs : Children) (vs : List ℕ) (e : ℕ)
    → Same (Whole (flow_process (flow n ps sw c r cs) vs e)) (InOrder (child_process c vs e ∷ children_parts cs vs (e + child_events c)))
unfolding flow_process
flow_read n ps sw c r cs vs e w =
    let p = child_process c vs e in
    let qs = children_parts cs vs (e + child_events c) in
    Iff.trans (children_left cs vs p (e + child_events c) w) (Iff.trans (regroup seq (Whole p) qs w) (in_order p qs w))

-- "`and`: any interleaving of one run of each member. `or`: the same over any nonempty choice of members. `xor`: a run of one member."
pub group_read : (y : Way) (a b : Member) (ms : Members) (vs : List ℕ) (e : ℕ)
    → Same (Whole (child_process (group y a b ms) vs e))
    (Several y (member_process a vs e ∷ (member_process b vs (e + member_events a) ∷ members_parts ms vs (e + member_events a + member_events b))))
unfolding child_process
group_read y a b ms vs e w =
    let p = member_process a vs e in
    let q = member_process b vs (e + member_events a) in
    let f = e + member_events a + member_events b in
    let qs = members_parts ms vs f in
    let j = joint y in
    Iff.trans (joined_left j p q qs (members_left ms j vs (join j p q) f) w) (Iff.trans (regroup j (Whole p) (q ∷ qs) w) (several y p (q ∷ qs) w))

-- "`all`, `some`, `one` do so over the copies for each value."
pub replicator_read : (y : Way) (par : Name) (n : ℕ) (m : Member) (vs : List ℕ) (e : ℕ)
    → Same (Whole (child_process (replicator y par (suc n) m) vs e)) (Several y (copies_parts m vs e 0 (suc n)))
unfolding child_process copies_parts
replicator_read y par n m vs e w =
    let p = copy m vs e 0 in
    let qs = copies_parts m vs e 1 n in
    let z : suc n - 1 ≡ n = omega arith in
    rw z (Iff.trans (copies_left (joint y) m vs e n w) (Iff.trans (regroup (joint y) (Whole p) qs w) (several y p qs w)))

-- "A loop over a leaf: that event zero or more times."
pub leaf_loop_read : (n : Name) (vs : List ℕ) (e : ℕ) → Same (Whole (child_process (loop (leaf n)) vs e)) (All (eqb e))
unfolding Whole child_process
leaf_loop_read n vs e w = Iff.rfl

-- Card 1: rounds of the flow, each ended by the loop's reset, the event directly after those of the flow, and then optionally one further run without it.
pub flow_loop_read : (f : Flow) (vs : List ℕ) (e : ℕ)
    → Same (Whole (child_process (loop (inner f)) vs e)) (Loop (Whole (flow_process f vs e)) (e + flow_events f))
unfolding Whole child_process
flow_loop_read f vs e w = Iff.rfl
