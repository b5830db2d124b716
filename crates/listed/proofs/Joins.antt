-- Single steps of the walk: a leaf, a loop, the first part of a node and each further part.
use mathlib.Core.Path.{◌≡◌, refl, sym, ap, ◌∙◌}
use mathlib.Core.Bool.{true, false}
use mathlib.Core.List.{List, [], ◌∷◌, ◌++◌, foldl-append}
use Prim.Native.Nat.{ℕ, zero, suc, ◌+◌, ◌-◌, ◌≤◌, ◌<◌}
use native.Mathlib.Omega.{arith}
use lib.ListN.{length}
use borrow.Author.Tests.{lt-leb, le-leb}
use Rattle.std.specs.Prelude.{Some, None}
use Rattle.diagram.specs.declared.Kind.{Kind}
use Rattle.diagram.specs.declared.Kind.TheVariants.{Flow, Leaf, Loop}
use Rattle.diagram.specs.declared.Node.{Node}
use Rattle.tokens.specs.Words.{word_at}
use Rattle.process.specs.Process.{Event, Joint, Process, event, join, again, rounds, events}
use Rattle.process.specs.Expand.{leaf_copy, copies as copied}
use Rattle.postfix.specs.declared.Code.{Code}
use Rattle.nodes.specs.declared.Form.TheVariants.{Joined as JoinedForm}
use Rattle.nodes.specs.Nodes.{form_of, depth_at, name_at}
use Rattle.labels.specs.Values.{packed}
use Rattle.labels.proofs.MoreValues.{packed_more}
use Rattle.expansion.proofs.Joins.{Here}
use Rattle.lines.specs.code.Walks.{Told, place, parts, copies, closed, by_form, part}
use Rattle.listed.proofs.Told.{event as told_event, telling, tell_event, all_told, told_join}

-- From node i on to `end` the walk tells the events of the process, whose values are these.
pub record Walked (text : List ℕ) (ns : List Node) (left i end : ℕ) (vs : List ℕ) (p : Process) : Type 0 where
  pub law : (t : Told) → part text left ns (packed vs) (place i t) ≡ place end (all_told t p)

-- At `at`, after the parts of node i that make p, at most n further parts make r and lead to `end`.
pub record Joined (text : List ℕ) (ns : List Node) (left i n at end : ℕ) (vs : List ℕ) (p r : Process) : Type 0 where
  pub law : (t : Told) → parts (part text left ns (packed vs)) ns i n (place at (all_told t p)) ≡ place end (all_told t r)

-- The end in another form.
pub walked_to : {text : List ℕ} {ns : List Node} {left i m n : ℕ} {vs : List ℕ} {p : Process} → m ≡ n → Walked text ns left i m vs p → Walked text ns left i n vs p
walked_to e h = rw (← e) h

pub joined_to : {text : List ℕ} {ns : List Node} {left i n at l m : ℕ} {vs : List ℕ} {p r : Process} → l ≡ m → Joined text ns left i n at l vs p r → Joined text ns left i n at m vs p r
joined_to e h = rw (← e) h

module _ (text : List ℕ) (ns : List Node) (left i : ℕ) where
  -- One part.
  one_part : (at n : ℕ) (vs : List ℕ) {kind : Kind} {depth mid : ℕ} {q : Process} → Here ns i kind depth → depth < depth_at ns at → Walked text ns left at mid vs q → (t : Told)
      → parts (part text left ns (packed vs)) ns i (suc n) (place at t) ≡ parts (part text left ns (packed vs)) ns i n (place mid (all_told t q))
  unfolding parts
  one_part at n vs h d w t =
      let deeper = h.depth_is in
      rw (lt-leb (depth_at ns at) (depth_at ns i) (omega arith)) (ap (parts (part text left ns (packed vs)) ns i n) (w.law t))

  -- No further part, where the next node is not deeper than node i.
  pub no_further : {kind : Kind} {depth at : ℕ} {vs : List ℕ} (n : ℕ) (p : Process) → Here ns i kind depth → depth_at ns at ≤ depth → Joined text ns left i n at at vs p p
  unfolding parts
  no_further zero p h d = record { law = λ t. refl }
  no_further {at = at} (suc n) p h d = record {
    law = λ t. let e = h.depth_is in rw (le-leb (depth_at ns at) (depth_at ns i) (omega arith));
  }

  -- One part more.
  pub one_further : (j : Joint) {kind : Kind} {depth n at mid end : ℕ} {vs : List ℕ} {p q r : Process} → Here ns i kind depth → depth < depth_at ns at
      → Walked text ns left at mid vs q → Joined text ns left i n mid end vs (join j p q) r → Joined text ns left i (suc n) at end vs p r
  one_further j {n = n} {at = at} {mid = mid} {vs = vs} {p = p} {q = q} h d w rest = record {
    law = λ t.
        one_part at n vs h d w (all_told t p)
        ∙ (ap (λ (u : Told). parts (part text left ns (packed vs)) ns i n (place mid u)) (sym (told_join j p q t)) ∙ rest.law t);
  }

  -- The parts of a node, the first of them and those after it.
  pub record Parted (end : ℕ) (vs : List ℕ) (p : Process) : Type 0 where
    pub law : (t : Told) → parts (part text left ns (packed vs)) ns i 255 (place (i + 1) t) ≡ place end (all_told t p)

  pub first_part : {kind : Kind} {depth mid end : ℕ} {vs : List ℕ} {p r : Process} → Here ns i kind depth → depth < depth_at ns (i + 1)
      → Walked text ns left (i + 1) mid vs p → Joined text ns left i 254 mid end vs p r → Parted end vs r
  first_part {vs = vs} h d w rest = record { law = λ t. one_part (i + 1) 254 vs h d w t ∙ rest.law t }

  -- What is walked over from node i on, where there are at most 256 nodes.
  module _ (few : length ns ≤ 256) where
    -- Entering node i.
    enter : {kind : Kind} {depth : ℕ} → Here ns i kind depth → (vs : List ℕ) (t : Told)
        → part text (suc left) ns (packed vs) (place i t) ≡ by_form (form_of kind) text (part text left ns) ns i (packed vs) t
    unfolding part
    enter h vs t = let inside = h.inside in rw (lt-leb 256 i (omega arith), h.kind_is)

    pub leaf_walked : {depth : ℕ} (e : ℕ) (name vs : List ℕ) → Here ns i Leaf depth → word_at text (name_at ns i) ≡ name → length vs ≤ 3
        → Walked text ns (suc left) i (i + 1) vs (event e (leaf_copy name vs))
    unfolding events
    leaf_walked e name vs h g l = record { law = λ t. enter h vs t ∙ ap (place (i + 1)) (tell_event text false (name_at ns i) name vs t g l) }

    -- A node whose parts are joined.
    pub parts_walked : {kind : Kind} {code : Code} {depth end : ℕ} {vs : List ℕ} {p : Process} → Here ns i kind depth → form_of kind ≡ JoinedForm code None
        → Parted end vs p → Walked text ns (suc left) i end vs p
    parts_walked {vs = vs} h f w = record { law = λ t. enter h vs t ∙ rw f (w.law t) }

    -- A loop over a leaf, and over a flow.
    pub again_walked : {depth d end : ℕ} {vs : List ℕ} (e x : ℕ) (l : Event) → Here ns i Loop depth → Here ns (i + 1) Leaf d → Parted end vs (event x l)
        → Walked text ns (suc left) i end vs (again e l)
    unfolding events
    again_walked {vs = vs} e x l h k w = record { law = λ t. enter h vs t ∙ rw k.kind_is (w.law t) }

    pub rounds_walked : {depth d end : ℕ} {p : Process} (name vs : List ℕ) (r : ℕ) → Here ns i Loop depth → Here ns (i + 1) Flow d
        → word_at text (name_at ns (i + 1)) ≡ name → length vs ≤ 3 → Parted end vs p → Walked text ns (suc left) i end vs (rounds p r (told_event true name vs))
    unfolding events
    rounds_walked {end = end} {p = p} name vs r h k g l w = record {
      law = λ t.
          enter h vs t
          ∙ rw k.kind_is
          (ap (closed (Some (name_at ns (i + 1))) text (packed vs)) (w.law t)
          ∙ ap (place end)
          (tell_event text true (name_at ns (i + 1)) name vs (all_told t p) g l ∙ sym (foldl-append telling t (events p) (told_event true name vs ∷ []))));
    }

    -- The copies of a replicator's member, each after those for the values below its own.
    module _ (j : Joint) (copy : ℕ → Process) (vs : List ℕ) (mid : ℕ) (room : length vs < 3) (each : (v : ℕ) → Walked text ns left (i + 1) mid (vs ++ (v ∷ [])) (copy v)) where
      one_copy : (at n v : ℕ) (t : Told) → copies (part text left ns) (i + 1) (packed vs) v (suc n) (place at t) ≡ copies (part text left ns) (i + 1) (packed vs) (suc v) n (place mid (all_told t (copy v)))
      unfolding copies
      one_copy at n v t = rw (← (packed_more vs v room)) (ap (copies (part text left ns) (i + 1) (packed vs) (suc v) n) ((each v).law t))

      more_copies : (n v last : ℕ) → v + n ≡ last → (t : Told)
          → copies (part text left ns) (i + 1) (packed vs) (suc v) n (place mid (all_told t (copied j copy v))) ≡ place mid (all_told t (copied j copy last))
      unfolding copies
      more_copies zero v last e t = let same : v ≡ last = omega arith in rw same
      more_copies (suc n) v last e t =
          one_copy mid n (suc v) (all_told t (copied j copy v))
          ∙ (ap (λ (u : Told). copies (part text left ns) (i + 1) (packed vs) (suc (suc v)) n (place mid u)) (sym (told_join j (copied j copy v) (copy (suc v)) t))
          ∙ more_copies n (suc v) last (omega arith) t)

      pub copies_walked : {kind : Kind} {code : Code} {size depth : ℕ} → Here ns i kind depth → form_of kind ≡ JoinedForm code (Some size) → 1 ≤ size
          → Walked text ns (suc left) i mid vs (copied j copy (size - 1))
      copies_walked {size = size} h g s = record {
        law = λ t.
            let many : size ≡ suc (size - 1) = omega arith in
            enter h vs t
            ∙ rw g
            (ap (λ (n : ℕ). copies (part text left ns) (i + 1) (packed vs) 0 n (place (i + 1) t)) many
            ∙ (one_copy (i + 1) (size - 1) 0 t ∙ more_copies (size - 1) 0 (size - 1) (omega arith) t));
      }
