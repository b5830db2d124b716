-- The text of what is asked of a joint is that of its parts, with what stands before, between and after them.
use mathlib.Core.Path.{◌≡◌, refl, sym, ap, ◌∙◌}
use mathlib.Core.Bool.{Bool, true, false, not, ◌&&◌, cond, true≢false}
use mathlib.Core.List.{List, [], ◌++◌, append_assoc, append-nil}
use Prim.Native.Nat.{ℕ, ◌-◌}
use native.Mathlib.Omega.{arith}
use lib.ListN.{length}
use Rattle.base.specs.Text.{bytes}
use Rattle.process.specs.Process.{Joint, seq, and, or, xor, Process, join, events}
use Rattle.process.proofs.Numbered.{Numbered, size_events}
use Rattle.process.proofs.Cleared.{first_lowest}
use Rattle.postfix.specs.declared.Code.TheVariants.{Or}
use Rattle.postfix.specs.Postfix.{postfix, joint_code}
use Rattle.parts.specs.code.Cuts.{event_count}
use Rattle.parts.proofs.Cut.{count_is}
use Rattle.formulas.specs.Formulas.{Formula}
use Rattle.formulas.specs.Lines.{Naming, formula}
use Rattle.formulas.specs.Conditions.{begun_when, idle_when, Condition, always, when, meet, choice, complete_when, settled_when}
use Rattle.variables.specs.code.Spelled.{connective, over}
use Rattle.conditions.specs.code.Asked.{absent, wanted, condition, of_parts, choosing, shape_by, shape_of, up_to, opening, between, from_on, closing}
use Rattle.conditions.specs.declared.Shape.{Shape}

-- ---- the variables of a process
module _ (p : Process) (lo : ℕ) (m : Numbered p lo) where
  its_after : length (events p) - 1 ≡ event_count (postfix p) - 1
  its_after = omega (arith, count_is p, size_events p)

  pub begun_over : begun_when p ≡ over true lo (event_count (postfix p) - 1)
  begun_over = rw (first_lowest p lo m, its_after)

  pub idle_over : idle_when p ≡ over false lo (event_count (postfix p) - 1)
  idle_over = rw (first_lowest p lo m, its_after)

-- ---- the parts together
abbrev together : Bool → Condition → Condition → Condition
together e c d = cond e (choice c d) (meet c d)

abbrev pair : Condition → Condition → Bool
pair c d = not (absent c) && not (absent d)

abbrev inside : Naming → Bool → Condition → Condition → List ℕ
inside v e c d =
    cond (pair c d) (bytes "(") [] ++ (condition v c ++ (cond (pair c d) (connective e) [] ++ (condition v d ++ cond (pair c d) (bytes ")") [])))

parts_text : (v : Naming) (e : Bool) (c d : Condition) → absent (together e c d) ≡ false → inside v e c d ≡ condition v (together e c d)
unfolding formula
parts_text v true always d h = absurd (true≢false h)
parts_text v true (when f) always h = absurd (true≢false h)
parts_text v true (when f) (when g) h = refl
parts_text v false always always h = absurd (true≢false h)
parts_text v false always (when g) h = append-nil (formula v g)
parts_text v false (when f) always h = append-nil (formula v f)
parts_text v false (when f) (when g) h = refl

-- ---- what stands around them
regrouped : (a b x c y d e : List ℕ) → (a ++ b) ++ (x ++ (c ++ (y ++ (d ++ e)))) ≡ a ++ ((b ++ (x ++ (c ++ (y ++ d)))) ++ e)
regrouped a b x c y d e =
    append_assoc a b _
    ∙ ap (λ (l : List ℕ). a ++ l)
    (sym (append_assoc b (x ++ (c ++ (y ++ d))) e ∙ ap (λ (l : List ℕ). b ++ l) (append_assoc x (c ++ (y ++ d)) e ∙ ap (λ (l : List ℕ). x ++ l) (append_assoc c (y ++ d) e ∙ ap (λ (l : List ℕ). c ++ l) (append_assoc y d e)))))

-- Nothing.
bare : (v : Naming) (e : Bool) (c d : Condition) → absent (together e c d) ≡ false → inside v e c d ++ [] ≡ condition v (together e c d)
bare v e c d h = append-nil (inside v e c d) ∙ parts_text v e c d h

-- Or none has begun.
present : (c : Condition) (idle : Formula) → absent (choice c (when idle)) ≡ false → absent c ≡ false
present always idle h = h
present (when f) idle h = refl

with_idle : (v : Naming) (c : Condition) (idle : Formula) → absent c ≡ false
    → bytes "(" ++ (condition v c ++ (bytes " or " ++ (formula v idle ++ bytes ")"))) ≡ condition v (choice c (when idle))
unfolding formula
with_idle v always idle h = absurd (true≢false h)
with_idle v (when f) idle h = refl

or_idle : (v : Naming) (e : Bool) (c d : Condition) (idle : Formula) → absent (together e c d) ≡ false
    → bytes "(" ++ (inside v e c d ++ (bytes " or " ++ (formula v idle ++ bytes ")"))) ≡ condition v (choice (together e c d) (when idle))
or_idle v e c d idle h =
    ap (λ (l : List ℕ). bytes "(" ++ (l ++ (bytes " or " ++ (formula v idle ++ bytes ")")))) (parts_text v e c d h) ∙ with_idle v (together e c d) idle h

-- A part has begun, and the parts.
begun_and : (v : Naming) (begun : Formula) (c d : Condition) → absent (meet c d) ≡ false
    → (bytes "(" ++ (formula v begun ++ bytes " & ")) ++ (inside v false c d ++ bytes ")")
    ≡ bytes "(" ++ (formula v begun ++ (bytes " & " ++ (condition v (meet c d) ++ bytes ")")))
begun_and v begun c d h =
    ap (λ (l : List ℕ). bytes "(" ++ l) (append_assoc (formula v begun) (bytes " & ") (inside v false c d ++ bytes ")"))
    ∙ ap (λ (l : List ℕ). bytes "(" ++ (formula v begun ++ (bytes " & " ++ (l ++ bytes ")")))) (parts_text v false c d h)

-- An `or` that is asked to be complete: a part has begun, and where there is something to be asked of them, the parts.
module _ (v : Naming) (lo second first after : ℕ) where
  abbrev or_shape : Condition → Condition → Shape
  or_shape c d = shape_by false Or second first after (absent c) (absent d)

  and_begun : (c d : Condition)
      → up_to v (or_shape c d).around lo after ++ (inside v false c d ++ from_on v (or_shape c d).around lo after) ≡ condition v (meet (when (over true lo after)) (meet c d))
  unfolding formula
  and_begun always always = append-nil (formula v (over true lo after))
  and_begun always (when g) = begun_and v (over true lo after) always (when g) refl
  and_begun (when f) always = begun_and v (over true lo after) (when f) always refl
  and_begun (when f) (when g) = begun_and v (over true lo after) (when f) (when g) refl

-- ---- the whole of it
module _ (v : Naming) (p q : Process) (lo : ℕ) where
  abbrev written : Bool → Joint → List ℕ
  written settled j =
      let s = shape_of settled j p q in
      let k = of_parts (joint_code j) in
      opening v s lo ++ (condition v (wanted k p) ++ (between s ++ (condition v (wanted k q) ++ closing v s lo)))

  -- By what stands around the parts.
  grouped : (settled : Bool) (j : Joint)
      → written settled j ≡ up_to v (shape_of settled j p q).around lo (shape_of settled j p q).after ++ (inside v (choosing (joint_code j)) (wanted (of_parts (joint_code j)) p) (wanted (of_parts (joint_code j)) q) ++ from_on v (shape_of settled j p q).around lo (shape_of settled j p q).after)
  grouped settled j =
      let s = shape_of settled j p q in
      let k = of_parts (joint_code j) in
      regrouped (up_to v s.around lo s.after) (cond s.pair (bytes "(") []) (condition v (wanted k p)) (between s) (condition v (wanted k q)) (cond s.pair (bytes ")") []) (from_on v s.around lo s.after)

  abbrev idle_over_of : Joint → Formula
  idle_over_of j = over false lo (event_count (postfix (join j p q)) - 1)

  pub joint_text : (settled : Bool) (j : Joint) → Numbered (join j p q) lo → absent (wanted settled (join j p q)) ≡ false
      → written settled j ≡ condition v (wanted settled (join j p q))
  unfolding complete_when settled_when
  joint_text false seq m h = grouped false seq ∙ bare v false (complete_when p) (complete_when q) h
  joint_text false and m h = grouped false and ∙ bare v false (complete_when p) (complete_when q) h
  joint_text false xor m h = grouped false xor ∙ bare v true (complete_when p) (complete_when q) h
  joint_text true or m h = grouped true or ∙ bare v false (settled_when p) (settled_when q) h
  joint_text false or m h =
      grouped false or ∙ rw (begun_over (join or p q) lo m) (and_begun v lo (length (postfix p)) (event_count (postfix p)) (event_count (postfix (join or p q)) - 1) (settled_when p) (settled_when q))
  joint_text true seq m h = grouped true seq ∙ rw (idle_over (join seq p q) lo m) (or_idle v false (complete_when p) (complete_when q) (idle_over_of seq) (present (together false (complete_when p) (complete_when q)) (idle_when (join seq p q)) h))
  joint_text true and m h = grouped true and ∙ rw (idle_over (join and p q) lo m) (or_idle v false (complete_when p) (complete_when q) (idle_over_of and) (present (together false (complete_when p) (complete_when q)) (idle_when (join and p q)) h))
  joint_text true xor m h = grouped true xor ∙ rw (idle_over (join xor p q) lo m) (or_idle v true (complete_when p) (complete_when q) (idle_over_of xor) (present (together true (complete_when p) (complete_when q)) (idle_when (join xor p q)) h))
