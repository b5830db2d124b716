-- How far a text is printed.
use mathlib.Core.Path.{◌≡◌, refl, sym, ◌∙◌, ap}
use mathlib.Core.Bool.{false}
use mathlib.Core.List.{List, [], ◌∷◌, ◌++◌, append_assoc, append-nil}
use Prim.Native.Nat.{ℕ, suc, ◌+◌, ◌-◌, ◌≤◌, ◌<◌}
use native.Mathlib.Omega.{arith}
use lib.ListN.{length, get_or, take, drop, length-drop, drop_of_length-le}
use lib.Seq.{drop-cons, drop-drop}
use Rattle.base.proofs.Truth.{by_cases}
use Rattle.tokens.specs.Classes.{unbroken}
use Rattle.tokens.specs.Remarks.{blanks}
use Rattle.tokens.specs.Words.{front}
use Rattle.tokens.proofs.Front.{front_more, front_le}
use Rattle.tokens.proofs.Remarks.{blanks_again, token_stands}
use Rattle.grammar.specs.Printed.{printed, unblanked}
use Rattle.grammar.proofs.Printing.{unblanked_front, kept, without_blanks}
use Rattle.output.specs.Writes.{Writes}
use Rattle.output.specs.declared.Writer.{Writer}
use Rattle.output.proofs.Writes.{both, none}

-- Without its blanks a text is the tokens that stand side by side at its front, and then the rest of it without its blanks.
unblanked_run : (bs : List ℕ) → unblanked false bs ≡ take (front unbroken bs) bs ++ unblanked false (drop (front unbroken bs) bs)
unfolding unblanked front
unblanked_run [] = refl
unblanked_run (b ∷ bs) = by_cases (unbroken b) (λ e. rw e (kept b bs e ∙ ap (λ (l : List ℕ). b ∷ l) (unblanked_run bs))) (λ e. rw e)

-- From a place on: past a gap, and past the end `e` of tokens side by side.
module _ (text : List ℕ) (at : ℕ) where
  past_gap : (i : ℕ) → i ≡ at + blanks (drop at text) → (blanks (drop i text) ≡ 0) × (unblanked false (drop at text) ≡ unblanked false (drop i text))
  past_gap i I =
      (rw I (blanks_again text at), rw (I, ← drop-drop (blanks (drop at text)) at text) (sym (unblanked_front (drop at text))))

  module _ (e : ℕ) (E : e ≡ at + front unbroken (drop at text)) where
    past_run : unblanked false (drop at text) ≡ take (e - at) (drop at text) ++ unblanked false (drop e text)
    past_run =
        let n : e - at ≡ front unbroken (drop at text) = omega arith in
        rw (n, E, ← drop-drop (front unbroken (drop at text)) at text) (unblanked_run (drop at text))

    -- Where nothing is skipped they have a byte at least, and they end within the text.
    run_inside : at < length text → blanks (drop at text) ≡ 0 → (at < e) × (e ≤ length text)
    run_inside h z =
        let b = token_stands (get_or text at 0) (drop (suc at) text) (rw (drop-cons text at 0 h) at z) in
        let m = front_more unbroken text at h b in
        (omega arith, omega (arith, front_le unbroken (drop at text), length-drop at text))

-- The tokens before `at` are written, and nothing is skipped there.
pub record Copied (text : List ℕ) (at : ℕ) (w v : Writer) : Type 0 where
  pub clear : blanks (drop at text) ≡ 0
  pub bytes : List ℕ
  pub whole : printed text ≡ bytes ++ unblanked false (drop at text)
  pub done : Writes w v bytes

pub copied_start : (text : List ℕ) (at : ℕ) (w : Writer) → at ≡ 0 + blanks (drop 0 text) → Copied text at w w
copied_start text at w e =
    let s = past_gap text 0 at e in
    record { clear = s.0; bytes = []; whole = without_blanks text ∙ s.1; done = none w }

module _ (text : List ℕ) (at : ℕ) (w v : Writer) (k : Copied text at w v) where
  module _ (e : ℕ) (l : at < length text) (E : e ≡ at + front unbroken (drop at text)) where
    pub part_inside : (at ≤ e) × (e ≤ length text)
    part_inside = let a = run_inside text at e E l k.clear in (omega arith, a.1)

    pub less_left : (i : ℕ) → i ≡ e + blanks (drop e text) → length text - i < length text - at
    less_left i I = omega (arith, (run_inside text at e E l k.clear).0)

    pub copied_more : (u : Writer) (i : ℕ) → Writes v u (take (e - at) (drop at text)) → i ≡ e + blanks (drop e text) → Copied text i w u
    copied_more u i q I =
        let s = past_gap text e i I in
        let t = take (e - at) (drop at text) in
        record {
          clear = s.0;
          bytes = k.bytes ++ t;
          whole =
              k.whole ∙ ap (λ (r : List ℕ). k.bytes ++ r) (past_run text at e E ∙ ap (λ (r : List ℕ). t ++ r) s.1)
              ∙ sym (append_assoc k.bytes t (unblanked false (drop i text)));
          done = both w v u k.bytes t k.done q;
        }

  pub copied_all : length text ≤ at → Writes w v (printed text)
  unfolding unblanked
  copied_all l = let all : printed text ≡ k.bytes = k.whole ∙ rw (drop_of_length-le text l) (append-nil k.bytes) in rw all k.done
