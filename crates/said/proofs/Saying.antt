-- Which line says it. Assumes nothing.
use Rattle.std.proofs.Common.{◌≡◌, ℕ, suc, Bool, true, false, not, ◌||◌, eqb, List, [], ◌∷◌, take, drop, refl, sym, ◌∙◌, arith}
use Rattle.std.specs.List.{prefix_len}
use Rattle.std.specs.Cmp.Lexicographic.{pointwise}
use Rattle.std.proofs.lemmas.Bool.Decides.{same_from_decides}
use Rattle.std.proofs.lemmas.Slice.Eq.{bytes_eq-Decides}
use Rattle.base.specs.Equal.{same}
use Rattle.base.proofs.Decided.{same_decides}
use Rattle.base.proofs.Truth.{by_cases}
use Rattle.said.specs.Search.{index_of}
use Rattle.said.specs.Lines.{lines, rest, event_lines}
use Rattle.said.proofs.Lines.{after_first}
use Rattle.said.specs.Said.{number_part, label_part, says, before_saying, event_said}

-- As bytes are compared.
alike : (v w : List ℕ) → pointwise eqb v w ≡ same v w
alike v w = same_from_decides (pointwise eqb v w) (same v w) (bytes_eq-Decides v w) (same_decides v w)

-- By its number, or else by what it is called.
module _ (line said number label : List ℕ) (p : number ≡ take (index_of 32 line) line) (q : label ≡ drop (suc (index_of 32 line)) line) where
  both_parts : says line said ≡ (pointwise eqb number said || pointwise eqb label said)
  unfolding says number_part label_part
  both_parts = rw (alike number said, alike label said, p, q)

  pub says_number : {r : Bool} → r ≡ pointwise eqb number said → r ≡ true → r ≡ says line said
  says_number s t = t ∙ sym (both_parts ∙ rw (← s, t))

  pub says_label : {r b : Bool} → r ≡ pointwise eqb number said → r ≡ false → b ≡ pointwise eqb label said → b ≡ says line said
  says_label s t g = g ∙ sym (both_parts ∙ rw (← s, t))

-- How many lines stand before the first that says it.
counted : (ls : List (List ℕ)) (said : List ℕ) → prefix_len (λ l. not (says l said)) ls ≡ before_saying ls said
unfolding before_saying
counted [] said = refl
counted (l ∷ ls) said = by_cases (says l said) (λ e. rw e) (λ e. rw (e, counted ls said) (omega arith))

pub said_first : (listing said : List ℕ) → prefix_len (λ l. not (says l said)) (drop 1 (lines listing)) ≡ event_said listing said
unfolding event_lines
said_first listing said = rw (after_first (lines listing)) (counted (rest (lines listing)) said)
