-- What an event is called says which event it is: its mark, name and values can be read back.
use mathlib.Core.Path.{◌≡◌, refl, sym, ap, ap₂, ◌∙◌}
use mathlib.Core.Bool.{Bool, true, false, not, ◌&&◌, false≢true}
use mathlib.Core.List.{List, [], ◌∷◌, ◌++◌, nil≢cons, cons≢nil, head-eq_of_cons-eq, tail-eq_of_cons-eq, append_cancel_left}
use Prim.Native.Nat.{ℕ, suc, ◌^◌, ◌≤◌, ◌<◌}
use native.Mathlib.Omega.{arith}
use lib.Dec.{eqb, ltb}
use lib.ListN.{length, get_or, get_or-append}
use borrow.Author.Tests.{eq-eqb, ne_eqb, ltb-true, ltb-false}
use Rattle.base.proofs.Truth.{by_cases, clash, and_l, and_r, not_e}
use Rattle.base.specs.Text.{bytes}
use Rattle.diagram.specs.Tree.{Name}
use Rattle.tokens.specs.Classes.{class_of, letter, worded}
use Rattle.tokens.proofs.Below.{at_below}
use Rattle.tokens.specs.Words.{lettered, every}
use Rattle.process.specs.Process.{Event}
use Rattle.output.specs.Decimal.{decimal, value}
use Rattle.output.proofs.Decimals.{decimal_digits, decimal_back, decimal_some}
use Rattle.lines.specs.Lines.{mark, spaced}
use Rattle.events.proofs.Short.{Each, Small, Short}

-- Bytes that are not this one.
abbrev pub Without : ℕ → List ℕ → Type 0
Without x bs = Each (λ b. eqb b x ≡ false) bs

-- By a test of all of them.
pub without : (x : ℕ) (bs : List ℕ) → every (λ b. not (eqb b x)) bs ≡ true → Without x bs
without x [] h = tt
without x (b ∷ bs) h = (not_e (eqb b x) (and_l (not (eqb b x)) _ h), without x bs (and_r (not (eqb b x)) _ h))

each_of : (P : ℕ → Type 0) (bs : List ℕ) → ((i : ℕ) → i < length bs → P (get_or bs i 0)) → Each P bs
each_of P [] f = tt
each_of P (b ∷ bs) f = (f 0 (omega arith), each_of P bs (λ i h. f (suc i) (omega arith)))

-- A number's digits are not below 48, and so neither a line's end nor a space.
pub decimal_without : (x v : ℕ) → x < 48 → Without x (decimal v)
decimal_without x v h =
    each_of (λ b. eqb b x ≡ false) (decimal v)
    (λ i l. let d = (decimal_digits v i l).0 in ne_eqb (get_or (decimal v) i 0) x (λ e. omega (arith, d, e)))

-- A word has only a word's bytes, and so neither.
pub word_without : (x : ℕ) (bs : List ℕ) → worded x ≡ false → every worded bs ≡ true → Without x bs
word_without x [] w h = tt
word_without x (b ∷ bs) w h = (
  ne_eqb b x (λ e. clash (and_l (worded b) (every worded bs) h) (ap worded e ∙ w)),
  word_without x bs w (and_r (worded b) (every worded bs) h),
)

pub blanks_no_words : (worded 10 ≡ false) × (worded 32 ≡ false)
unfolding class_of
blanks_no_words = (refl, refl)

-- A digit is no letter.
letter_no : (b : ℕ) → b ≤ 57 → letter b ≡ false
unfolding class_of
letter_no b h = not_e (letter b) (at_below (λ b. not (letter b)) 58 refl b (omega arith))

letter_above : (b : ℕ) → letter b ≡ true → 57 < b
letter_above b h = by_cases (ltb 57 b) (λ e. ltb-true 57 b e) (λ e. absurd (clash h (letter_no b (ltb-false 57 b e))))

pub letter_high : (n : List ℕ) (on : List ℕ) → lettered n ≡ true → 57 < get_or (n ++ on) 0 0
letter_high [] on h = absurd (false≢true h)
letter_high (b ∷ bs) on h = letter_above b h

pub digit_low : (v : ℕ) → get_or (decimal v) 0 0 ≤ 57
digit_low v = (decimal_digits v 0 (decimal_some v)).1

-- Nothing, or bytes that start with a space.
abbrev SetOff : List ℕ → Type 0
SetOff [] = Unit {0}
SetOff (b ∷ bs) = b ≡ 32

values_off : (vs : List ℕ) → SetOff (spaced vs)
unfolding spaced
values_off [] = tt
values_off (v ∷ vs) = refl

no_space : (b : ℕ) (xs ys : List ℕ) → eqb b 32 ≡ false → SetOff xs → b ∷ ys ≡ xs → ⊥
no_space b [] ys h s e = cons≢nil e
no_space b (x ∷ xs) ys h s e = clash (eq-eqb b 32 (head-eq_of_cons-eq e ∙ s)) h

-- A part without a space ends where the first space is.
parted : (n m xs ys : List ℕ) → Without 32 n → Without 32 m → SetOff xs → SetOff ys → n ++ xs ≡ m ++ ys → (n ≡ m) × (xs ≡ ys)
parted [] [] xs ys h k s t e = (refl, e)
parted [] (b ∷ m) xs ys h k s t e = absurd (no_space b xs (m ++ ys) k.0 s (sym e))
parted (a ∷ n) [] xs ys h k s t e = absurd (no_space a ys (n ++ xs) h.0 t e)
parted (a ∷ n) (b ∷ m) xs ys h k s t e =
    let r = parted n m xs ys h.1 k.1 s t (tail-eq_of_cons-eq e) in
    (ap₂ (λ (c : ℕ) (l : List ℕ). c ∷ l) (head-eq_of_cons-eq e) r.0, r.1)

-- The digits say the number.
pub decimal_one : (v w : ℕ) → v < 10 ^ 20 → w < 10 ^ 20 → decimal v ≡ decimal w → v ≡ w
decimal_one v w h k e = sym (decimal_back v h) ∙ (ap value e ∙ decimal_back w k)

values_one : (vs ws : List ℕ) → Each Small vs → Each Small ws → spaced vs ≡ spaced ws → vs ≡ ws
unfolding spaced
values_one [] [] h k e = refl
values_one [] (w ∷ ws) h k e = absurd (nil≢cons e)
values_one (v ∷ vs) [] h k e = absurd (cons≢nil e)
values_one (v ∷ vs) (w ∷ ws) h k e =
    let s = decimal_without 32 v (omega arith) in
    let t = decimal_without 32 w (omega arith) in
    let r = parted (decimal v) (decimal w) (spaced vs) (spaced ws) s t (values_off vs) (values_off ws) (tail-eq_of_cons-eq e) in
    ap₂ (λ (u : ℕ) (l : List ℕ). u ∷ l) (decimal_one v w (omega (arith, h.0)) (omega (arith, k.0)) r.0) (values_one vs ws h.1 k.1 r.1)

abbrev Word : Name → Type 0
Word n = (lettered n && every worded n) ≡ true

-- A name and values.
leaf_one : (n m : Name) (vs ws : List ℕ) → Word n → Word m → Each Small vs → Each Small ws → n ++ spaced vs ≡ m ++ spaced ws → (n ≡ m) × (vs ≡ ws)
leaf_one n m vs ws a b h k e =
    let s = word_without 32 n blanks_no_words.1 (and_r (lettered n) (every worded n) a) in
    let t = word_without 32 m blanks_no_words.1 (and_r (lettered m) (every worded m) b) in
    let r = parted n m (spaced vs) (spaced ws) s t (values_off vs) (values_off ws) e in
    (r.0, values_one vs ws h k r.1)

-- A name stands after `reset` and a space, and no value is a name: not even a leaf called `reset` is called like a reset.
no_value : (n : Name) (vs ws : List ℕ) → Word n → 32 ∷ (n ++ spaced vs) ≡ spaced ws → ⊥
unfolding spaced
no_value n vs [] a e = cons≢nil e
no_value n vs (w ∷ ws) a e =
    let q = ap (λ (x : List ℕ). get_or x 0 0) (tail-eq_of_cons-eq e) ∙ get_or-append (decimal w) (spaced ws) 0 0 (decimal_some w) in
    omega (arith, q, letter_high n (spaced vs) (and_l (lettered n) (every worded n) a), digit_low w)

no_reset : (n m : Name) (vs ws : List ℕ) → Word n → Word m → mark true ++ (n ++ spaced vs) ≡ m ++ spaced ws → ⊥
no_reset n m vs ws a b e =
    let word : List ℕ = bytes "reset" in
    let t = word_without 32 m blanks_no_words.1 (and_r (lettered m) (every worded m) b) in
    no_value n vs ws a (parted word m (32 ∷ (n ++ spaced vs)) (spaced ws) (without 32 word refl) t refl (values_off ws) e).1

marked_one : (r q : Bool) (n m : Name) (vs ws : List ℕ) → Word n → Word m → Each Small vs → Each Small ws
    → mark r ++ (n ++ spaced vs) ≡ mark q ++ (m ++ spaced ws) → (r ≡ q) × ((n ≡ m) × (vs ≡ ws))
marked_one true true n m vs ws a b h k e = (refl, leaf_one n m vs ws a b h k (append_cancel_left (mark true) (n ++ spaced vs) (m ++ spaced ws) e))
marked_one true false n m vs ws a b h k e = absurd (no_reset n m vs ws a b e)
marked_one false true n m vs ws a b h k e = absurd (no_reset m n ws vs b a (sym e))
marked_one false false n m vs ws a b h k e = (refl, leaf_one n m vs ws a b h k e)

an_event : Bool → Name → List ℕ → Event
an_event r n vs = record { reset = r; name = n; values = vs }

-- Two events are the same where their marks, names and values are.
pub same_event : (k l : Event) → k.reset ≡ l.reset → k.name ≡ l.name → k.values ≡ l.values → k ≡ l
unfolding an_event
same_event k l p q r =
    let x : an_event k.reset k.name k.values ≡ an_event l.reset l.name l.values = cc in
    x

-- In a listing an event is called by `reset` and a space for a reset, the name, and the values, each after a space.
pub called_one : (k l : Event) → Short k → Short l
    → mark k.reset ++ (k.name ++ spaced k.values) ≡ mark l.reset ++ (l.name ++ spaced l.values) → k ≡ l
called_one k l s t e =
    let r = marked_one k.reset l.reset k.name l.name k.values l.values s.word t.word s.small t.small e in
    same_event k l r.0 r.1.0 r.1.1
