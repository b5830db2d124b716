-- What stands between tokens, run by run: blanks, then a # and what its remark holds, then blanks again. Assumes nothing.
use mathlib.Core.Path.{◌≡◌, refl, sym, ◌∙◌}
use mathlib.Core.Bool.{Bool, true, false}
use mathlib.Core.List.{List, [], ◌∷◌}
use Prim.Native.Nat.{ℕ, suc, ◌+◌, ◌≤◌, ◌<◌}
use native.Mathlib.Nat.{zero-add}
use native.Mathlib.Numerals.{add-one}
use native.Mathlib.Omega.{arith}
use Rattle.std.proofs.Common.{⊎_elim}
use Rattle.std.proofs.lemmas.Bool.{cases_lt}
use Rattle.std.proofs.lemmas.List.{get_or_past}
use lib.Dec.{eqb}
use lib.ListN.{length, drop, get_or}
use lib.Seq.{drop-cons, drop-drop}
use borrow.Author.Tests.{eqb-true, ne_eqb}
use Rattle.base.proofs.Truth.{by_cases, clash, is_false}
use Rattle.tokens.specs.Classes.{between, class_of, within}
use Rattle.tokens.specs.Remarks.{opened, skipped, stretch, blanks}
use Rattle.tokens.specs.Words.{front}
use Rattle.tokens.proofs.Between.{in_range, between_in, class_smaller}
use Rattle.tokens.proofs.Front.{front_past, front_fails}
use Rattle.tokens.proofs.Stretch.{stretch_nil, stretch_cons, stretch_end, stretch_stop}
use Rattle.tokens.proofs.Remarks.{held_by_none}

abbrev blank : ℕ → Bool
blank = within 8 8

abbrev held : ℕ → Bool
held = between 32 126

-- A blank is skipped and opens no remark.
blank_skipped : (b : ℕ) → blank b ≡ true → (skipped false b ≡ true) × (opened false b ≡ false)
unfolding class_of
blank_skipped b e =
    let r = in_range 8 8 (class_of b) e in
    (between_in 8 9 (class_of b) r.0 (omega arith), is_false (eqb b 35) (λ q. clash e (rw (eqb-true b 35 q))))

blank_run : (l : List ℕ) → blanks l ≡ front blank l + blanks (drop (front blank l) l)
unfolding front
blank_run [] = sym (zero-add _)
blank_run (b ∷ bs) =
    by_cases (blank b)
    (λ e.
    let k = blank_skipped b e in
    let h = blank_run bs in
    rw (stretch_cons skipped false b bs, k.0, k.1, e) (omega arith))
    (λ e. rw e (sym (zero-add _)))

-- What a remark holds is skipped in it and does not end it; what it does not hold is skipped in it as outside.
held_skipped : (b : ℕ) → held b ≡ true → (skipped true b ≡ true) × (opened true b ≡ true)
held_skipped b e = let r = in_range 32 126 b e in rw (e, ne_eqb b 10 (λ q. omega arith)) (refl, refl)

unheld_alike : (b : ℕ) (bs : List ℕ) → held b ≡ false → stretch skipped true (b ∷ bs) ≡ blanks (b ∷ bs)
unfolding class_of
unheld_alike b bs f =
    by_cases (eqb b 10) (λ e. rw (eqb-true b 10 e, stretch_cons skipped true 10 bs, stretch_cons skipped false 10 bs))
    (λ e.
    let n : skipped true b ≡ false = rw (f, e) in
    rw (stretch_cons skipped true b bs, stretch_cons skipped false b bs, n, held_by_none b n))

remark_run : (l : List ℕ) → stretch skipped true l ≡ front held l + blanks (drop (front held l) l)
unfolding front
remark_run [] = rw (stretch_nil skipped true, stretch_nil skipped false)
remark_run (b ∷ bs) =
    by_cases (held b)
    (λ e.
    let k = held_skipped b e in
    let h = remark_run bs in
    rw (stretch_cons skipped true b bs, k.0, k.1, e) (omega arith))
    (λ e. rw e (unheld_alike b bs e ∙ sym (zero-add _)))

-- From a place on, what is skipped ends where it ends from i on, and no blank stands at i.
pub record Reached (text : List ℕ) (at i : ℕ) : Type 0 where
  pub same : at + blanks (drop at text) ≡ i + blanks (drop i text)
  pub past : front blank (drop i text) ≡ 0

module _ (text : List ℕ) where
  pub reached_start : (at i : ℕ) → i ≡ at + front blank (drop at text) → Reached text at i
  reached_start at i I =
      let l = drop at text in
      let d : drop (front blank l) l ≡ drop i text = rw I (drop-drop (front blank l) at text) in
      let q = blank_run l in
      let p = front_past blank l in
      record { same = rw (← d) (omega arith); past = rw (← d) p }

  module _ (at i : ℕ) (r : Reached text at i) where
    -- Past a # and what its remark holds, and past the blanks after that.
    pub reached_more : (e j : ℕ) → i < length text → get_or text i 0 ≡ 35 → e ≡ i + 1 + front held (drop (i + 1) text)
        → j ≡ e + front blank (drop e text) → Reached text at j
    unfolding class_of
    reached_more e j h b E J =
        let l = drop (i + 1) text in
        let a : blanks (drop i text) ≡ suc (stretch skipped true l) =
        rw (drop-cons text i 0 h, b, stretch_cons skipped false 35 (drop (suc i) text), add-one i) in
        let d : drop (front held l) l ≡ drop e text = rw E (drop-drop (front held l) (i + 1) text) in
        let q : stretch skipped true l ≡ front held l + blanks (drop e text) = rw (← d) (remark_run l) in
        let s = reached_start e j J in
        record { same = omega (arith, r.same, s.same); past = s.past }

    -- Where neither a blank nor a # stands, nothing is skipped.
    pub reached_stop : i < length text → (get_or text i 0 ≡ 35 → ⊥) → i ≡ at + blanks (drop at text)
    reached_stop h f =
        let b = get_or text i 0 in
        let n = front_fails blank b (drop (suc i) text) (rw (drop-cons text i 0 h) at r.past) in
        let c = class_smaller b (ne_eqb b 35 f) in
        let s : skipped false b ≡ false = is_false (skipped false b) (λ e.
        clash (between_in 8 8 (class_of b) (in_range 8 9 (class_of b) e).0 c) n) in
        sym (r.same ∙ stretch_stop skipped false text i h s)

    pub reached_end : length text ≤ i → i ≡ at + blanks (drop at text)
    reached_end h = sym (r.same ∙ stretch_end skipped false text i h)

    pub reached_all : (get_or text i 0 ≡ 35 → ⊥) → i ≡ at + blanks (drop at text)
    reached_all f = ⊎_elim (λ h. reached_stop h f) (λ h. reached_end h) (cases_lt i (length text))

-- A # stands inside the text.
pub mark_inside : (text : List ℕ) (i : ℕ) {b : ℕ} → b ≡ get_or text i 0 → b ≡ 35 → (i < length text) × (get_or text i 0 ≡ 35)
mark_inside text i e q =
    let m : get_or text i 0 ≡ 35 = sym e ∙ q in
    (⊎_elim (λ h. h) (λ h. absurd (omega (arith, m, get_or_past text i 0 h))) (cases_lt i (length text)), m)
