-- The text of an event determines the event, its guards and its actions, where the names are words and differ.
use mathlib.Core.Path.{◌≡◌, refl, sym, ap₂}
use mathlib.Core.Bool.{Bool, true, false}
use mathlib.Core.List.{List, [], ◌∷◌, ◌++◌, append_assoc, append_cancel_left, head-eq_of_cons-eq, tail-eq_of_cons-eq}
use Prim.Native.Nat.{ℕ, suc, ◌<◌}
use native.Mathlib.Omega.{arith}
use Rattle.base.specs.Text.{bytes}
use Rattle.base.proofs.Truth.{and_l, and_r, clash}
use Rattle.output.specs.Decimal.{decimal}
use Rattle.tokens.specs.Classes.{class_of, worded}
use Rattle.tokens.specs.Words.{every}
use Rattle.formulas.specs.Formulas.{Formula, is, both, either, Speaks, AllSpeak}
use Rattle.formulas.specs.Actions.{Action, becomes, AllSet}
use Rattle.formulas.specs.Lines.{Naming, truth, formula, labelled, guard_lines, action, action_lines, event_lines}

-- The names of the first n events are words, and no two are the same.
pub record Proper (n : ℕ) (v : Naming) : Type 0 where
  pub words : (m : ℕ) → m < n → every worded (v m) ≡ true
  pub different : (l m : ℕ) → l < n → m < n → v l ≡ v m → l ≡ m

-- ---- words
-- A word ends at the first byte that is not one of a word's.
word_once : (v w : List ℕ) → every worded v ≡ true → every worded w ≡ true → (b c : ℕ) → worded b ≡ false → worded c ≡ false → (r t : List ℕ)
    → v ++ (b ∷ r) ≡ w ++ (c ∷ t) → (v ≡ w) × (b ∷ r ≡ c ∷ t)
word_once [] [] hv hw b c hb hc r t h = (refl, h)
word_once [] (y ∷ w) hv hw b c hb hc r t h = absurd (clash (and_l (worded y) (every worded w) hw) (rw (head-eq_of_cons-eq h) at hb))
word_once (x ∷ v) [] hv hw b c hb hc r t h = absurd (clash (and_l (worded x) (every worded v) hv) (rw (sym (head-eq_of_cons-eq h)) at hc))
word_once (x ∷ v) (y ∷ w) hv hw b c hb hc r t h =
    let k = word_once v w (and_r (worded x) (every worded v) hv) (and_r (worded y) (every worded w) hw) b c hb hc r t (tail-eq_of_cons-eq h) in
    (ap₂ (λ (z : ℕ) (zs : List ℕ). z ∷ zs) (head-eq_of_cons-eq h) k.0, k.1)

truth_once : (a b : Bool) (r t : List ℕ) → truth a ++ r ≡ truth b ++ t → (a ≡ b) × (r ≡ t)
truth_once true true r t h = (refl, append_cancel_left (truth true) r t h)
truth_once true false r t h = absurd (omega (arith, head-eq_of_cons-eq h))
truth_once false true r t h = absurd (omega (arith, head-eq_of_cons-eq h))
truth_once false false r t h = (refl, append_cancel_left (truth false) r t h)

-- A space, the end of a line and `(` end a word.
no_word : (worded 32 ≡ false) × (worded 10 ≡ false) × (worded 40 ≡ false)
unfolding class_of
no_word = (refl, refl, refl)

-- ---- two formulas in parentheses
-- Whatever follows, the texts are the same only where the formulas are.
abbrev Once : Naming → Formula → Formula → Type 0
Once v f g = (r t : List ℕ) → formula v f ++ r ≡ formula v g ++ t → (f ≡ g) × (r ≡ t)

abbrev pair : Naming → List ℕ → Formula → Formula → List ℕ
pair v sign f g = bytes "(" ++ (formula v f ++ (sign ++ (formula v g ++ bytes ")")))

module _ (v : Naming) (f g f' g' : Formula) (once_f : Once v f f') where
  -- The first of the two is the same, and the text goes on alike from the sign.
  pair_first : (sign sign' r t : List ℕ) → pair v sign f g ++ r ≡ pair v sign' f' g' ++ t
      → (f ≡ f') × (sign ++ (formula v g ++ (41 ∷ r)) ≡ sign' ++ (formula v g' ++ (41 ∷ t)))
  pair_first sign sign' r t h = once_f _ _ (simp append_assoc at (tail-eq_of_cons-eq h))

  pair_once : (c : Formula → Formula → Formula) (sign : List ℕ) → Once v g g' → (r t : List ℕ) → pair v sign f g ++ r ≡ pair v sign f' g' ++ t
      → (c f g ≡ c f' g') × (r ≡ t)
  pair_once c sign once_g r t h =
      let i = pair_first sign sign r t h in
      let j = once_g (41 ∷ r) (41 ∷ t) (append_cancel_left sign _ _ i.1) in
      (ap₂ c i.0 j.0, tail-eq_of_cons-eq j.1)

-- The two signs between formulas differ.
signs_differ : (r t : List ℕ) → bytes " & " ++ r ≡ bytes " or " ++ t → ⊥
signs_differ r t h = omega (arith, head-eq_of_cons-eq (tail-eq_of_cons-eq h))

-- ---- lines that are numbered
-- Under one label with one number the lines go on alike.
same_label : (label : List ℕ) (k : ℕ) (line line' r t : List ℕ) → labelled label k line ++ r ≡ labelled label k line' ++ t
    → line ++ (10 ∷ r) ≡ line' ++ (10 ∷ t)
same_label label k line line' r t h =
    tail-eq_of_cons-eq (append_cancel_left (decimal k) _ _ (append_cancel_left label _ _ (simp append_assoc at h)))

-- Each label starts with `@`, so the lines end where a line starts with another byte.
module _ {A : Type 0} (lines : ℕ → List A → List ℕ) (text : A → List ℕ) (label : List ℕ) (All : List A → Type 0)
    (none : (k : ℕ) → lines k [] ≡ [])
    (some : (k : ℕ) (x : A) (xs : List A) → lines k (x ∷ xs) ≡ labelled (64 ∷ label) k (text x) ++ lines (suc k) xs)
    (later : (x : A) (xs : List A) → All (x ∷ xs) → All xs)
    (once : (x y : A) (xs ys : List A) → All (x ∷ xs) → All (y ∷ ys) → (r t : List ℕ) → text x ++ r ≡ text y ++ t → (x ≡ y) × (r ≡ t)) where
  lines_once : (k : ℕ) (xs ys : List A) → All xs → All ys → (b : ℕ) → (b ≡ 64 → ⊥) → (r t : List ℕ) → lines k xs ++ (b ∷ r) ≡ lines k ys ++ (b ∷ t)
      → (xs ≡ ys) × (r ≡ t)
  lines_once k [] [] hx hy b hb r t h = (refl, tail-eq_of_cons-eq (rw (none k) at h))
  lines_once k [] (y ∷ ys) hx hy b hb r t h = absurd (hb (head-eq_of_cons-eq (rw (none k, some k y ys) at h)))
  lines_once k (x ∷ xs) [] hx hy b hb r t h = absurd (hb (head-eq_of_cons-eq (rw (none k, some k x xs) at (sym h))))
  lines_once k (x ∷ xs) (y ∷ ys) hx hy b hb r t h =
      let g : labelled (64 ∷ label) k (text x) ++ (lines (suc k) xs ++ (b ∷ r)) ≡ labelled (64 ∷ label) k (text y) ++ (lines (suc k) ys ++ (b ∷ t)) =
      simp append_assoc (simp append_assoc at (rw (some k x xs, some k y ys) at h)) in
      let i = once x y xs ys hx hy _ _ (same_label (64 ∷ label) k (text x) (text y) _ _ g) in
      let j = lines_once (suc k) xs ys (later x xs hx) (later y ys hy) b hb r t (tail-eq_of_cons-eq i.1) in
      (ap₂ (λ (z : A) (zs : List A). z ∷ zs) i.0 j.0, j.1)

-- ---- the text of an event
module _ (n : ℕ) (v : Naming) (P : Proper n v) where
  -- A name, a sign and a truth value.
  abbrev valued : ℕ → List ℕ → Bool → List ℕ
  valued m sign b = v m ++ (32 ∷ (sign ++ truth b))

  valued_once : (l m : ℕ) → l < n → m < n → (sign : List ℕ) (a b : Bool) (r t : List ℕ) → valued l sign a ++ r ≡ valued m sign b ++ t
      → (l ≡ m) × (a ≡ b) × (r ≡ t)
  valued_once l m hl hm sign a b r t h =
      let i = word_once (v l) (v m) (P.words l hl) (P.words m hm) 32 32 no_word.0 no_word.0 _ _ (simp append_assoc at h) in
      let j = truth_once a b r t (append_cancel_left sign _ _ (tail-eq_of_cons-eq i.1)) in
      (P.different l m hl hm i.0, j.0, j.1)

  -- It starts with no parenthesis.
  valued_bare : (m : ℕ) → m < n → (sign : List ℕ) (b : Bool) (r t : List ℕ) → valued m sign b ++ r ≡ 40 ∷ t → ⊥
  valued_bare m hm sign b r t h =
      omega (arith, head-eq_of_cons-eq (word_once (v m) [] (P.words m hm) refl 32 40 no_word.0 no_word.2 _ t (rw append_assoc at h)).1)

  -- The text of a formula determines it, whatever follows.
  pub formula_once : (f g : Formula) → Speaks n f → Speaks n g → (r t : List ℕ) → formula v f ++ r ≡ formula v g ++ t → (f ≡ g) × (r ≡ t)
  unfolding Speaks formula
  formula_once (is l a) (is m b) hf hg r t h = let i = valued_once l m hf hg (bytes "= ") a b r t h in (ap₂ is i.0 i.1, i.2)
  formula_once (is l a) (both f g) hf hg r t h = absurd (valued_bare l hf (bytes "= ") a r _ h)
  formula_once (is l a) (either f g) hf hg r t h = absurd (valued_bare l hf (bytes "= ") a r _ h)
  formula_once (both f g) (is m b) hf hg r t h = absurd (valued_bare m hg (bytes "= ") b t _ (sym h))
  formula_once (both f g) (both f' g') hf hg r t h =
      pair_once v f g f' g' (λ x y e. formula_once f f' hf.0 hg.0 x y e) both (bytes " & ") (λ x y e. formula_once g g' hf.1 hg.1 x y e) r t h
  formula_once (both f g) (either f' g') hf hg r t h =
      absurd (signs_differ _ _ (pair_first v f g f' g' (λ x y e. formula_once f f' hf.0 hg.0 x y e) (bytes " & ") (bytes " or ") r t h).1)
  formula_once (either f g) (is m b) hf hg r t h = absurd (valued_bare m hg (bytes "= ") b t _ (sym h))
  formula_once (either f g) (both f' g') hf hg r t h =
      absurd (signs_differ _ _ (sym (pair_first v f g f' g' (λ x y e. formula_once f f' hf.0 hg.0 x y e) (bytes " or ") (bytes " & ") r t h).1))
  formula_once (either f g) (either f' g') hf hg r t h =
      pair_once v f g f' g' (λ x y e. formula_once f f' hf.0 hg.0 x y e) either (bytes " or ") (λ x y e. formula_once g g' hf.1 hg.1 x y e) r t h

  action_once : (a b : Action) → a.variable < n → b.variable < n → (r t : List ℕ) → action v a ++ r ≡ action v b ++ t → (a ≡ b) × (r ≡ t)
  action_once a b ha hb r t h =
      let i = valued_once a.variable b.variable ha hb (bytes ":= ") a.value b.value r t h in
      (ap₂ becomes i.0 i.1, i.2)

  guards_once : (gs hs : List Formula) → AllSpeak n gs → AllSpeak n hs → (r t : List ℕ)
      → guard_lines v 1 gs ++ (bytes "then\n" ++ r) ≡ guard_lines v 1 hs ++ (bytes "then\n" ++ t) → (gs ≡ hs) × (r ≡ t)
  unfolding guard_lines AllSpeak
  guards_once gs hs a b r t h =
      let i = lines_once (guard_lines v) (formula v) (bytes "grd_") (AllSpeak n) (λ k. refl) (λ k f fs. refl) (λ f fs c. c.1)
      (λ f g fs gs c d. formula_once f g c.0 d.0) 1 gs hs a b 116 (λ e. omega arith) _ _ h in
      (i.0, append_cancel_left (bytes "hen\n") r t i.1)

  actions_once : (acts acts' : List Action) → AllSet n acts → AllSet n acts'
      → action_lines v 1 acts ++ bytes "end\n" ≡ action_lines v 1 acts' ++ bytes "end\n"
      → acts ≡ acts'
  unfolding action_lines AllSet
  actions_once acts acts' a b h =
      (lines_once (action_lines v) (action v) (bytes "act_") (AllSet n) (λ k. refl) (λ k x xs. refl) (λ x xs c. c.1)
      (λ x y xs ys c d. action_once x y c.0 d.0) 1 acts acts' a b 101 (λ e. omega arith) _ _ h).0

  -- The text of an event determines the event, its guards and its actions.
  pub text_once : (e e' : ℕ) → e < n → e' < n → (gs gs' : List Formula) → AllSpeak n gs → AllSpeak n gs' → (acts acts' : List Action) → AllSet n acts
      → AllSet n acts' → event_lines v e gs acts ≡ event_lines v e' gs' acts' → (e ≡ e') × (gs ≡ gs') × (acts ≡ acts')
  unfolding event_lines
  text_once e e' he he' gs gs' a a' acts acts' b b' h =
      let i = word_once (v e) (v e') (P.words e he) (P.words e' he') 10 10 no_word.1 no_word.1 _ _ (append_cancel_left (bytes "event ") _ _ h) in
      let j = guards_once gs gs' a a' _ _ (append_cancel_left (bytes "\nwhere\n") _ _ i.1) in
      (P.different e e' he he' i.0, j.0, actions_once acts acts' b b' j.1)
