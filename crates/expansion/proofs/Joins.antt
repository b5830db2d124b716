-- Single steps of the walk: a leaf, a loop, the first part of a node and each further part, over some shown nodes.
use mathlib.Core.Path.{◌≡◌, refl, ◌∙◌, ap}
use mathlib.Core.List.{List, [], ◌∷◌, ◌++◌, append_assoc}
use Prim.Native.Nat.{ℕ, zero, suc, ◌+◌, ◌-◌, ◌≤◌, ◌<◌}
use native.Mathlib.Omega.{arith}
use lib.ListN.{length, drop, length-append}
use borrow.Author.Tests.{lt-ltb, lt-leb, le-leb}
use Rattle.std.specs.Prelude.{Option, Some}
use Rattle.diagram.specs.declared.Kind.{Kind}
use Rattle.diagram.specs.declared.Kind.TheVariants.{Flow, Leaf, Loop}
use Rattle.diagram.specs.declared.Node.{Node}
use Rattle.diagram.specs.TreeNodes.{ShownNode}
use Rattle.process.specs.Process.{Event, Joint, Process, event, join, again, rounds}
use Rattle.process.specs.Expand.{copies as copied}
use Rattle.postfix.specs.declared.Code.{Code}
use Rattle.postfix.specs.declared.Code.TheVariants.{Leaf as LeafCode, Again, Rounds}
use Rattle.postfix.specs.Postfix.{joint_code, postfix}
use Rattle.nodes.specs.declared.Form.TheVariants.{Joined as JoinedForm}
use Rattle.nodes.specs.Nodes.{form_of, kind_at, depth_at}
use Rattle.expansion.specs.Walks.{add, more, again_at, further, part, by_form}
use Rattle.expansion.proofs.ShownNodes.{Shown, shown_depth, first, node_inside}
use Rattle.expansion.proofs.Writing.{written, add_written}
use Rattle.postfix.proofs.Short.{long, long_join, long_rounds}
use Rattle.expansion.proofs.Longer.{copies_longer}

-- What node i is.
pub record Here (ns : List Node) (i : ℕ) (kind : Kind) (depth : ℕ) : Type 0 where
  pub inside : i < length ns
  pub kind_is : kind_at ns i ≡ kind
  pub depth_is : depth_at ns i ≡ depth

pub here : {ns : List Node} {vs : List ShownNode} → Shown ns vs → (i : ℕ) (v : ShownNode) (rest : List ShownNode) → drop i vs ≡ v ∷ rest → Here ns i v.kind v.depth
here {ns} {vs} s i v rest h =
    let l = s.long in
    record {
      inside = omega (arith, node_inside vs rest i v h);
      kind_is = s.kind_here i v rest h;
      depth_is = s.depth_here i ∙ ap (first shown_depth) h;
    }

-- From node i on to `end` the walk writes the process, wherever there is room.
pub record Walked (lent : List Code) (ns : List Node) (left i end : ℕ) (p : Process) : Type 0 where
  pub law : (w : List Code) → length w + long p ≤ 1024 → part left ns (written lent i w) ≡ written lent end (w ++ postfix p)

-- At `at`, after the parts of node i that make p, at most n further parts make r and lead to `end`.
pub record Joined (lent : List Code) (ns : List Node) (left i : ℕ) (j : Joint) (copies : Option ℕ) (n at end : ℕ) (p r : Process) : Type 0 where
  pub law : (w : List Code) → length w + long r ≤ 1024
      → further (part left ns) ns i (joint_code j) copies n (written lent at (w ++ postfix p)) ≡ written lent end (w ++ postfix r)

-- The end in another form.
pub walked_to : {lent : List Code} {ns : List Node} {left i m n : ℕ} {p : Process} → m ≡ n → Walked lent ns left i m p → Walked lent ns left i n p
walked_to e h = rw (← e) h

pub joined_to : {lent : List Code} {ns : List Node} {left i : ℕ} {j : Joint} {copies : Option ℕ} {n at l m : ℕ} {p r : Process} → l ≡ m
    → Joined lent ns left i j copies n at l p r → Joined lent ns left i j copies n at m p r
joined_to e h = rw (← e) h

-- Three lists written one after the other.
regroup : (w a b : List Code) (x : Code) → ((w ++ a) ++ b) ++ (x ∷ []) ≡ w ++ (a ++ (b ++ (x ∷ [])))
regroup w a b x = simp append_assoc

-- Fewer copies are no longer than more of them.
copies_to : (j : Joint) (copy : ℕ → Process) (v n last : ℕ) → v + n ≡ last → long (copied j copy v) ≤ long (copied j copy last)
copies_to j copy v n last e = rw (← e) (copies_longer j copy v n)

module _ (lent : List Code) (ns : List Node) (left i : ℕ) where
  -- Entering node i.
  enter : {kind : Kind} {depth : ℕ} → Here ns i kind depth → (w : List Code)
      → part (suc left) ns (written lent i w) ≡ by_form (form_of kind) (part left ns) ns i (written lent i w)
  unfolding part
  enter h w = rw (lt-leb (length ns) i h.inside, h.kind_is)

  pub leaf_walked : {depth : ℕ} (e : ℕ) (l : Event) → Here ns i Leaf depth → Walked lent ns (suc left) i (i + 1) (event e l)
  unfolding postfix
  leaf_walked e l h = record { law = λ w room. enter h w ∙ add_written lent (i + 1) w LeafCode (omega arith) }

  -- A loop over a leaf, and over a flow.
  pub again_walked : {s u : ℕ} (e : ℕ) (l : Event) → Here ns i Loop s → Here ns (i + 1) Leaf u → Walked lent ns (suc left) i (i + 1 + 1) (again e l)
  unfolding postfix
  again_walked e l h k = record {
    law = λ w room.
        enter h w
        ∙ rw (lt-ltb (i + 1) (length ns) k.inside, k.kind_is) (add_written lent (i + 1 + 1) w Again (omega arith));
  }

  pub rounds_walked : {s u end : ℕ} {p : Process} (r : ℕ) (l : Event) → Here ns i Loop s → Here ns (i + 1) Flow u
      → Walked lent ns left (i + 1) end p → Walked lent ns (suc left) i end (rounds p r l)
  unfolding postfix
  rounds_walked {end = end} {p = p} r l h k body = record {
    law = λ w room.
        let long_r = long_rounds p r l in
        let long_w = length-append w (postfix p) in
        enter h w
        ∙ rw (lt-ltb (i + 1) (length ns) k.inside, k.kind_is)
        (ap (add Rounds) (body.law w (omega arith)) ∙ (add_written lent end (w ++ postfix p) Rounds (omega arith)
        ∙ ap (written lent end) (append_assoc w (postfix p) (Rounds ∷ []))));
  }

  -- The first part of a node, and the further ones.
  pub parts_walked : (j : Joint) {kind : Kind} (copies : Option ℕ) {depth mid end : ℕ} {p r : Process} → Here ns i kind depth
      → form_of kind ≡ JoinedForm (joint_code j) copies → Walked lent ns left (i + 1) mid p
      → Joined lent ns left i j copies (more copies) mid end p r → long p ≤ long r → Walked lent ns (suc left) i end r
  parts_walked j copies h f one rest l = record {
    law = λ w room.
        enter h w
        ∙ rw f
        (ap (further (part left ns) ns i (joint_code j) copies (more copies)) (one.law w (omega arith)) ∙ rest.law w room);
  }

  -- No further part, where the next node is not deeper than node i.
  pub no_further : (j : Joint) (copies : Option ℕ) {at : ℕ} (n : ℕ) (p : Process) → depth_at ns (again_at copies i at) ≤ depth_at ns i
      → Joined lent ns left i j copies n at at p p
  unfolding further
  no_further j copies zero p h = record { law = λ w room. refl }
  no_further j copies {at} (suc n) p h = record {
    law = λ w room.
        rw (le-leb (depth_at ns (again_at copies i at)) (depth_at ns i) h);
  }

  -- One part more.
  pub one_further : (j : Joint) {copies : Option ℕ} {kind : Kind} {depth n at next mid end : ℕ} {p q r : Process} → Here ns i kind depth → again_at copies i at ≡ next
      → depth < depth_at ns next → Walked lent ns left next mid q → Joined lent ns left i j copies n mid end (join j p q) r
      → long (join j p q) ≤ long r → Joined lent ns left i j copies (suc n) at end p r
  unfolding further postfix
  one_further j {copies} {n = n} {at = at} {next = next} {mid = mid} {p = p} {q = q} h e d part_q rest l = record {
    law = λ w room.
        let long_j = long_join j p q in
        let long_w = length-append w (postfix p) in
        let long_v = length-append (w ++ postfix p) (postfix q) in
        let deeper = h.depth_is in
        rw (e, lt-leb (depth_at ns next) (depth_at ns i) (omega arith))
        (ap (further (part left ns) ns i (joint_code j) copies n)
        (ap (add (joint_code j)) (part_q.law (w ++ postfix p) (omega arith))
        ∙ (add_written lent mid ((w ++ postfix p) ++ postfix q) (joint_code j) (omega arith)
        ∙ ap (written lent mid) (regroup w (postfix p) (postfix q) (joint_code j))))
        ∙ rest.law w room);
  }

  -- The copies of a replicator's member after the first; each begins where the first does.
  copies_joined : (j : Joint) (copy : ℕ → Process) (size : ℕ) {kind : Kind} {depth mid : ℕ} → Here ns i kind depth
      → depth < depth_at ns (i + 1) → ((v : ℕ) → Walked lent ns left (i + 1) mid (copy v)) → (n v last : ℕ) → v + n ≡ last
      → Joined lent ns left i j (Some size) n mid mid (copied j copy v) (copied j copy last)
  unfolding further
  copies_joined j copy size h d f zero v last e =
      let same : v ≡ last = omega arith in
      rw same (record { law = λ w room. refl })
  copies_joined j copy size h d f (suc n) v last e =
      one_further j h refl d (f (suc v))
      (copies_joined j copy size h d f n (suc v) last (omega arith)) (copies_to j copy (suc v) n last (omega arith))

  -- A replicator's copies are joined, values rising.
  pub copies_walked : (j : Joint) (copy : ℕ → Process) (size : ℕ) {kind : Kind} {depth mid : ℕ} → Here ns i kind depth
      → form_of kind ≡ JoinedForm (joint_code j) (Some size) → depth < depth_at ns (i + 1) → ((v : ℕ) → Walked lent ns left (i + 1) mid (copy v))
      → Walked lent ns (suc left) i mid (copied j copy (size - 1))
  copies_walked j copy size h g d f =
      parts_walked j (Some size) h g (f 0) (copies_joined j copy size h d f (size - 1) 0 (size - 1) (omega arith))
      (copies_to j copy 0 (size - 1) (size - 1) (omega arith))
