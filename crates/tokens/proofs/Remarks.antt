-- What is skipped at the front of a text: blanks and remarks, up to a token's first byte. A byte that ends a remark and is no byte 10 is foreign
-- by its class too, so what follows a foreign byte is never looked at as a remark.
use mathlib.Core.Path.{◌≡◌}
use mathlib.Core.Logic.{⊎_elim}
use mathlib.Core.Bool.{Bool, true, false}
use mathlib.Core.List.{List, [], ◌∷◌}
use Prim.Native.Nat.{ℕ, suc, ◌+◌, ◌≤◌}
use native.Mathlib.Omega.{arith}
use lib.Dec.{eqb, leb}
use lib.ListN.{drop}
use lib.Seq.{drop-drop}
use borrow.Author.Tests.{eqb-true, le-leb, leb-false}
use Rattle.base.proofs.Truth.{and_i, is_false, clash, by_cases, or_l, or_e}
use Rattle.tokens.specs.Classes.{between, spacing, class_of, foreign, worded, unbroken}
use Rattle.tokens.specs.Remarks.{opened, skipped, stretch, blanks}
use Rattle.tokens.proofs.Stretch.{stretch_nil, stretch_cons}
use Rattle.tokens.proofs.Between.{in_range, between_in, between_low, class_small}

-- A byte is skipped outside remarks, or a token stands there.
pub stops : (b : ℕ) → skipped false b ≡ false → unbroken b ≡ true
stops b f =
    by_cases (leb (class_of b) 7) (λ e. and_i (le-leb 0 (class_of b) (omega arith)) e) (λ e.
    let l = leb-false (class_of b) 7 e in
    absurd (clash (between_in 8 9 (class_of b) (omega arith) (class_small b)) f))

pub unskipped : (b : ℕ) → unbroken b ≡ true → skipped false b ≡ false
unskipped b e = between_low 8 9 (class_of b) (omega (arith, (in_range 0 7 (class_of b) e).1))

-- A byte of a word or a sign starts no remark.
pub unopened : (b : ℕ) → unbroken b ≡ true → opened false b ≡ false
unfolding class_of
unopened b e = is_false (eqb b 35) (λ q. clash e (rw (eqb-true b 35 q)))

pub worded_unbroken : (b : ℕ) → worded b ≡ true → unbroken b ≡ true
worded_unbroken b e = let r = in_range 5 7 (class_of b) e in between_in 0 7 (class_of b) (omega arith) r.1

-- What a remark cannot hold is foreign outside it too.
module _ (b : ℕ) (f : skipped true b ≡ false) where
  out : between 32 126 b ≡ false
  out = is_false (between 32 126 b) (λ e. clash (or_l _ e) f)

  apart : (a c : ℕ) → 32 ≤ a → c ≤ 126 → between a c b ≡ false
  apart a c h l = is_false (between a c b) (λ e. let r = in_range a c b e in clash (between_in 32 126 b (omega arith) (omega arith)) out)

  differs : (v : ℕ) → 32 ≤ v → v ≤ 126 → eqb b v ≡ false
  differs v h l = is_false (eqb b v) (λ e. let q = eqb-true b v e in clash (between_in 32 126 b (omega arith) (omega arith)) out)

  unspaced : spacing b ≡ false
  unspaced =
      is_false (spacing b) (λ e.
      ⊎_elim (λ q. clash q (differs 32 (omega arith) (omega arith))) (λ q. clash {b = skipped true b} (rw (eqb-true b 10 q)) f) (or_e (eqb b 32) (eqb b 10) e))

  pub unheld : foreign b ≡ true
  unfolding class_of
  unheld =
      rw (
        differs 40 (omega arith) (omega arith),
        differs 41 (omega arith) (omega arith),
        differs 44 (omega arith) (omega arith),
        differs 58 (omega arith) (omega arith),
        apart 65 90 (omega arith) (omega arith),
        apart 97 122 (omega arith) (omega arith),
        apart 48 57 (omega arith) (omega arith),
        differs 95 (omega arith) (omega arith),
        unspaced,
        differs 35 (omega arith) (omega arith),
      )

  pub held_by_none : skipped false b ≡ false
  held_by_none = between_low 8 9 (class_of b) (omega (arith, in_range 0 0 (class_of b) unheld))

-- Where a gap ends, with or without an open remark, nothing is skipped.
pub ends : (o : Bool) (b : ℕ) → skipped o b ≡ false → skipped false b ≡ false
ends false b f = f
ends true b f = held_by_none b f

past_stretch : (o : Bool) (bs : List ℕ) → blanks (drop (stretch skipped o bs) bs) ≡ 0
past_stretch o [] = rw (stretch_nil skipped o) (stretch_nil skipped false)
past_stretch o (b ∷ bs) =
    rw (stretch_cons skipped o b bs)
    (by_cases (skipped o b) (λ e. rw e (past_stretch (opened o b) bs)) (λ e. rw e (rw (stretch_cons skipped false b bs, ends o b e))))

pub blanks_past : (bs : List ℕ) → blanks (drop (blanks bs) bs) ≡ 0
blanks_past bs = past_stretch false bs

pub blanks_again : (text : List ℕ) (at : ℕ) → blanks (drop (at + blanks (drop at text)) text) ≡ 0
blanks_again text at = rw (← drop-drop (blanks (drop at text)) at text) (blanks_past (drop at text))

-- So a token stands there.
pub token_stands : (b : ℕ) (bs : List ℕ) → blanks (b ∷ bs) ≡ 0 → unbroken b ≡ true
token_stands b bs e =
    stops b (is_false (skipped false b) (λ q.
    let z : suc (stretch skipped (opened false b) bs) ≡ 0 = rw (stretch_cons skipped false b bs, q) at e in omega arith))

pub none_skipped : (b : ℕ) (bs : List ℕ) → unbroken b ≡ true → blanks (b ∷ bs) ≡ 0
none_skipped b bs e = rw (stretch_cons skipped false b bs, unskipped b e)
