-- From a process down to the part that has the event: the guards are what is asked of the other part, and then those of the event in its part.
use Rattle.std.proofs.Common.{◌≡◌, ℕ, ◌+◌, ◌-◌, ◌≤◌, ◌<◌, true, false, List, [], ◌∷◌, ◌++◌, length, take, drop, length-append, refl, sym, ap, ◌∙◌, arith}
use Rattle.std.proofs.Math.Seq.{take-length}
use Rattle.base.proofs.Truth.{is_false}
use Rattle.output.specs.Writes.{Writes}
use Rattle.output.specs.declared.Writer.{Writer}
use Rattle.output.proofs.Writes.{both, none}
use Rattle.process.specs.Process.{Joint, seq, and, or, xor, Process, event, join, again, rounds, owns}
use Rattle.process.proofs.Numbered.{size, Numbered, interval}
use Rattle.process.proofs.Cleared.{first_lowest}
use Rattle.postfix.specs.declared.Code.{Code}
use Rattle.postfix.specs.declared.Code.TheVariants.{Leaf, Again, Rounds}
use Rattle.postfix.specs.Postfix.{postfix, joint_code}
use Rattle.parts.specs.code.Cuts.{second_begins, event_count}
use Rattle.parts.proofs.Cut.{count_is, few_events}
use Rattle.parts.proofs.Ends.{own, inner}
use Rattle.formulas.specs.Formulas.{Formula}
use Rattle.formulas.specs.Lines.{Naming, guard_lines}
use Rattle.formulas.specs.Conditions.{all_false, of_second, of_first, conditions}
use Rattle.variables.specs.code.Spelled.{over}
use Rattle.conditions.proofs.Split.{first_part, second_part, not_leaf, not_again, not_rounds}
use Rattle.conditions.proofs.Phrases.{idle_over}
use Rattle.guarding.specs.code.Asked.{second_asked, first_asked, cut_at, Fits, Wrote, clears_from, Guarded}
use Rattle.guarding.proofs.Labelled.{lines_append, no_lines, second_few, first_few}

-- ---- a joint's code tells what it asks
second_of : (j : Joint) (q : Process) (next : ℕ) → Numbered q next → second_asked (joint_code j) next (event_count (postfix q) - 1) ≡ of_second j q
second_of seq q next m = ap (λ (f : Formula). f ∷ []) (sym (idle_over q next m))
second_of and q next m = refl
second_of or q next m = refl
second_of xor q next m = ap (λ (f : Formula). f ∷ []) (sym (idle_over q next m))

first_of : (j : Joint) (p : Process) → first_asked (joint_code j) p ≡ of_first j p
first_of seq p = refl
first_of and p = refl
first_of or p = refl
first_of xor p = refl

cut_of : (j : Joint) (cs : List Code) → cut_at (joint_code j) cs ≡ second_begins cs
cut_of seq cs = refl
cut_of and cs = refl
cut_of or cs = refl
cut_of xor cs = refl

-- ---- which part has the event
module _ (p : Process) (from x : ℕ) (m : Numbered p from) where
  in_first : from ≤ x → x < from + size p → owns p x ≡ true
  in_first l h = (interval p from x m).1 (l, h)

  not_first : from + size p ≤ x → owns p x ≡ false
  not_first h = is_false (owns p x) (λ t. omega (arith, h, (interval p from x m).0 t))

-- ---- a leaf, and a loop over one
module _ (v : Naming) (k from x : ℕ) (w u : Writer) where
  pub leaf_guarded : (p : Process) → Leaf ≡ own p → Numbered p from → Writes w u (guard_lines v k (over false from 0 ∷ [])) → Guarded v k p x w u x
  unfolding Numbered conditions clears_from all_false
  leaf_guarded (event n l) o m h = record { its_lines = rw m h; its_clears = refl }
  leaf_guarded (again n l) o m h = cc
  leaf_guarded (rounds p r l) o m h = cc
  leaf_guarded (join j p q) o m h = absurd (not_leaf j o)

  pub again_guarded : (p : Process) → Again ≡ own p → Guarded v k p x w w x
  unfolding conditions clears_from
  again_guarded (again n l) o = record { its_lines = rw (no_lines v k) (none w); its_clears = refl }
  again_guarded (event n l) o = cc
  again_guarded (rounds p r l) o = cc
  again_guarded (join j p q) o = absurd (not_again j o)

-- ---- one after the other
module _ (v : Naming) (k x : ℕ) (fs : List Formula) {w mid u : Writer} {more clears : ℕ} where
  -- What is asked of the other part, and then the guards of the event in its part q.
  then_guards : (p q : Process) → Wrote v k fs w mid more → Guarded v more q x mid u clears → conditions p x ≡ fs ++ conditions q x → clears_from p x ≡ clears_from q x
      → Guarded v k p x w u clears
  then_guards p q a g e f =
      let n = a.its_next in
      record {
        its_lines = rw (e, lines_append v k fs (conditions q x), ← n) (both _ _ _ _ _ a.its_lines g.its_lines);
        its_clears = g.its_clears ∙ sym f;
      }

-- ---- the two parts of a joint, and the body of a loop, as the code cuts them
module _ (code : Code) (rest : List Code) {m : ℕ} (cut : m ≡ cut_at code rest) where
  body_is : (q : Process) → code ≡ Rounds → rest ≡ postfix q → take m rest ≡ postfix q
  body_is q o i = let k : m ≡ length rest = cut ∙ rw o in rw k (take-length rest ∙ i)

  joint_cut : (j : Joint) → code ≡ joint_code j → m ≡ second_begins rest
  joint_cut j o = cut ∙ rw o (cut_of j rest)

module _ (v : Naming) (k : ℕ) (code : Code) (rest : List Code) (from x : ℕ) (few : from + length rest ≤ 512) {m next : ℕ} (cut : m ≡ cut_at code rest)
    (short : length (take m rest) ≤ length rest) (its_next : next ≡ from + event_count (take m rest)) where
  next_of : (q : Process) → take m rest ≡ postfix q → next ≡ from + size q
  next_of q e = its_next ∙ ap (λ (n : ℕ). from + n) (ap event_count e ∙ count_is q)

  -- The first part's events and codes are among the whole's.
  part_fits : (q : Process) → Numbered q from → Fits q (take m rest) from
  part_fits q n = record { numbered = n; few = omega (arith, few, short) }

  -- The event is in the first part, or in the body.
  module _ {w mid u : Writer} {more after clears : ℕ} (its_after : after ≡ event_count (drop m rest) - 1) (l : x < next)
      (asked : Wrote v k (second_asked code next after) w mid more)
      (below : (q : Process) → take m rest ≡ postfix q → Fits q (take m rest) from → owns q x ≡ true → more ≤ k + 1 → Guarded v more q x mid u clears) where
    pub first_guarded : (p : Process) → code ≡ own p → rest ≡ inner p → Numbered p from → owns p x ≡ true → (code ≡ Leaf → ⊥) → (code ≡ Again → ⊥) → Guarded v k p x w u clears
    unfolding Numbered conditions clears_from owns size
    first_guarded (event n z) o i f h y t = absurd (y o)
    first_guarded (again n z) o i f h y t = absurd (t o)
    first_guarded (rounds q s z) o i f h y t =
        let part = body_is code rest cut q o i in
        let here = in_first q from x f.0 ((interval (rounds q s z) from x f).0 h).0 (omega (arith, l, next_of q part)) in
        let a = rw o at asked in
        then_guards v k x [] (rounds q s z) q a (below q part (part_fits q f.0) here (omega (arith, asked.its_next, second_few code next after))) (rw here) (rw here)
    first_guarded (join j q s) o i f h y t =
        let c = joint_cut code rest cut j o in
        let part = first_part rest q s i m c in
        let n = next_of q part in
        let here = in_first q from x f.0 ((interval (join j q s) from x f).0 h).0 (omega (arith, l, n)) in
        let second = ap (λ (cs : List Code). event_count cs - 1) (second_part rest q s i m c) in
        let a = rw (o, its_after, second, n, second_of j s (from + size q) f.1) at asked in
        then_guards v k x (of_second j s) (join j q s) q a (below q part (part_fits q f.0) here (omega (arith, asked.its_next, second_few code next after))) (rw here) (rw here)

  -- It is the reset of the loop.
  module _ {w u : Writer} {more : ℕ} (l : next ≤ x)
      (asked : (q : Process) → take m rest ≡ postfix q → Fits q (take m rest) from → Wrote v k (first_asked code q) w u more) where
    pub reset_guarded : (p : Process) → Rounds ≡ own p → code ≡ Rounds → rest ≡ inner p → Numbered p from → Guarded v k p x w u from
    unfolding Numbered conditions clears_from
    reset_guarded (event n z) o c i f = cc
    reset_guarded (again n z) o c i f = cc
    reset_guarded (join j q s) o c i f = absurd (not_rounds j o)
    reset_guarded (rounds q s z) o c i f =
        let part = body_is code rest cut q c i in
        let past = not_first q from x f.0 (omega (arith, l, next_of q part)) in
        let a = rw c at (asked q part (part_fits q f.0)) in
        record { its_lines = rw past a.its_lines; its_clears = rw past (sym (first_lowest q from f.0)) }

  -- It is in the second part.
  module _ {w mid u : Writer} {more clears : ℕ} (l : next ≤ x)
      (asked : (q : Process) → take m rest ≡ postfix q → Fits q (take m rest) from → Wrote v k (first_asked code q) w mid more)
      (below : (q : Process) → drop m rest ≡ postfix q → Fits q (drop m rest) next → owns q x ≡ true → more ≤ k + 1 → Guarded v more q x mid u clears) where
    pub second_guarded : (p : Process) → code ≡ own p → rest ≡ inner p → Numbered p from → owns p x ≡ true → (code ≡ Leaf → ⊥) → (code ≡ Again → ⊥) → (code ≡ Rounds → ⊥)
        → Guarded v k p x w u clears
    unfolding Numbered conditions clears_from owns size
    second_guarded (event n z) o i f h y t r = absurd (y o)
    second_guarded (again n z) o i f h y t r = absurd (t o)
    second_guarded (rounds q s z) o i f h y t r = absurd (r o)
    second_guarded (join j q s) o i f h y t r =
        let c = joint_cut code rest cut j o in
        let part = first_part rest q s i m c in
        let other = second_part rest q s i m c in
        let n = next_of q part in
        let past = not_first q from x f.0 (omega (arith, l, n)) in
        let here : owns s x ≡ true = rw past at h in
        let a = asked q part (part_fits q f.0) in
        let first = rw (o, first_of j q) at a in
        let whole = ap length i ∙ length-append (postfix q) (postfix s) in
        let fits : next + length (drop m rest) ≤ 512 = omega (arith, few, n, ap length other, whole, few_events (postfix q), count_is q) in
        then_guards v k x (of_first j q) (join j q s) s first (below s other (record { numbered = rw n f.1; few = fits }) here (omega (arith, a.its_next, first_few code q))) (rw past) (rw past)
